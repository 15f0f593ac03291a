use Rattle.std.proofs.Common.{◌≡◌, ◌∙◌, ◌++◌, List, Vec, Global, ℕ, [], get_or, map, rules, slice_range, take}
use Rattle.hm_uses_renames.specs.Texts.{IsReplaced}
use Rattle.hm_service_rename.proofs.Replacing.{first_parts, one_more, replaced_more, text_at}
use Rattle.hm_service_rename.proofs.texts.renamed_texts.Goals as goal

pub texts-preserved : goal.texts-preserved
texts-preserved c =
    let items : List (Vec ℕ Global) → List (List ℕ) = λ xs. map (λ (s : Vec ℕ Global). s.items) xs in
    let refs = c.args.references.now in
    let own = slice_range refs c.texts.from c.end_of-end.result in
    let text = c.index-texts-source.result in
    let is : c.as_slice.result.now ≡ get_or (items c.args.texts.now) c.texts.source [] = c.as_slice.ensures.value ∙ text_at c.args.texts.now c.texts.source text c.texts-test.true c.index-texts-source.is in
    let made : IsReplaced c.as_slice.result.now c.args.name.now own c.in-Some.text.items = search rules in
    let parts : take c.end_of-end.result refs ≡ take c.texts.from refs ++ own = first_parts refs c.texts.from c.end_of-end.result c.end_of-end.ensures.later c.end_of-end.ensures.within in (
      c.end_of-end.ensures.within,
      replaced_more (items c.args.texts.now) (items c.texts.made.items) (items c.push.new.self.items) c.args.name.now c.in-Some.text.items c.as_slice.result.now c.texts.source (take c.texts.from refs) own (take c.end_of-end.result refs)
          c.texts.invariant.1 c.end_of-end.ensures.own is made parts (one_more c.texts.made.items c.push.new.self.items c.in-Some.text c.in_ok-push-in-Some.ensures.items),
    )
