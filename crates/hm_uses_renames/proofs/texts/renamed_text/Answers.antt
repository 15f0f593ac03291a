use Rattle.std.proofs.Common.{◌≡◌, ◌∙◌, ◌++◌, ℕ, List, ap, false, get_or, refl, slice_range}
use Rattle.hm_uses_references.specs.declared.finding.Reference.{Reference}
use Rattle.hm_uses_renames.proofs.Replaced.{begun_more, reference_at}
use Rattle.hm_uses_renames.proofs.texts.renamed_text.Goals as goal

pub references-preserved : goal.references-preserved
references-preserved c =
    let start = c.in-Some.start in
    let end = c.in-Some-end_of.end in
    let i = c.references.reference-index in
    let text = c.args.text.now in
    let none : Reference = record { source = 0; line = 0; column = 0; length = 0; binds = false } in
    let r = get_or c.args.references.now i none in
    let here = reference_at text r start end c.in-Some.ensures.cursor c.in-Some-end_of.ensures.cursor c.in-Some.ensures.starts c.in-Some-end_of.ensures.ends in
    let first : c.extend_from_slice.new.self.items ≡ c.references.made.items ++ slice_range text c.references.cursor.at start.at = c.in_ok-extend_from_slice.ensures.items in
    let second : c.extend_from_slice-in-references.new.self.items ≡ c.extend_from_slice.new.self.items ++ c.args.name.now =
    c.in_ok-extend_from_slice-2.ensures.items ∙ ap (λ (l : List ℕ). c.extend_from_slice.new.self.items ++ l) c.as_bytes.ensures.value in (
      c.in-Some-end_of.ensures.cursor,
      begun_more text c.args.name.now c.args.references.now i c.references.cursor.at start.at end.at none r c.references.made.items c.extend_from_slice.new.self.items c.extend_from_slice-in-references.new.self.items c.references-test.true refl
          c.references.invariant.1 c.in-Some.ensures.later here c.in-Some-end_of.ensures.ends first second,
    )
