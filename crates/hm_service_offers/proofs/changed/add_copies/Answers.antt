use Rattle.std.proofs.Common.{List, [], ◌∙◌, ◌∷◌, ◌++◌, ap, append_assoc}
use Rattle.std.proofs.lemmas.List.Elements.{all_zip_more}
use Rattle.hm_service_offers.specs.Changed.{IsSameSource}
use Rattle.hm_service_sources.specs.declared.held.HeldSource.{HeldSource}
use Rattle.hm_service_offers.proofs.changed.add_copies.Goals as goal

pub more-preserved : goal.more-preserved
more-preserved c =
    let copy = c.in_ok-copy_of.field-0 in
    let so_far = c.more.invariant in
    record {
      copies = so_far.copies ++ copy ∷ [];
      same = all_zip_more IsSameSource c.args.more.now so_far.copies c.more.source-index c.source-item.result copy c.more-test.true c.source-item.is so_far.same c.in_ok-copy_of.ensures;
      whole = c.in_ok-push.ensures.items ∙ (ap (λ (l : List HeldSource). l ++ copy ∷ []) so_far.whole ∙ append_assoc c.args.held.now.items so_far.copies (copy ∷ []));
    }
