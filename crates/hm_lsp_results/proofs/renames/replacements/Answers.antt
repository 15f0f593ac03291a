use Rattle.std.proofs.Common.{◌≡◌, ◌∙◌, false, get_or, map, rules, subst}
use Rattle.std.proofs.lemmas.List.{get_or_default}
use Rattle.serde_json.specs.View.{view}
use Rattle.hm_lsp_positions.specs.Cursors.{Walk}
use Rattle.hm_lsp_values.specs.Renames.{IsReplacement}
use Rattle.hm_uses_references.specs.declared.finding.Reference.{Reference}
use Rattle.hm_lsp_results.proofs.DeclaredValues.{all_valued, value_more}
use Rattle.hm_lsp_results.proofs.renames.replacements.Goals as goal

pub references-preserved : goal.references-preserved
references-preserved c =
    let none : Reference = record { source = 0; line = 0; column = 0; length = 0; binds = false } in
    let r : Reference = get_or c.args.references.now c.references.reference-index none in
    let at : r ≡ get_or c.args.references.now c.references.reference-index r = get_or_default c.args.references.now c.references.reference-index none r c.references-test.true in
    let here = subst (λ (w : Walk). IsReplacement w.encoding w.text c.args.name.now r (view c.in_ok-replacement_value.field-0)) c.references.invariant.0 c.in_ok-replacement_value.ensures.value in (
      c.in_ok-replacement_value.ensures.same ∙ c.references.invariant.0,
      value_more (IsReplacement c.args.asked.now.encoding c.args.text.now c.args.name.now) c.args.references.now c.references.reference-index r c.in_ok-replacement_value.field-0 c.references.edits.items c.push.new.self.items c.references-test.true at
          c.references.invariant.1 here c.in_ok-push.ensures.items,
    )

pub returns : goal.returns
returns c = all_valued (IsReplacement c.args.asked.now.encoding c.args.text.now c.args.name.now) c.args.references.now c.references.reference-index (map view c.references.edits.items) (search rules) c.references.invariant.1
