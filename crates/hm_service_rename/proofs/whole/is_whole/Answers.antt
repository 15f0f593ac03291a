use Rattle.std.proofs.Common.{◌∙◌, ℕ, List, Vec, Global, ap, length, map, subst, sym}
use Rattle.std.proofs.lemmas.List.{length-map}
use Rattle.hm_service_sources.specs.HeldSets.{AreAll}
use Rattle.hm_service_rename.proofs.whole.is_whole.Goals as goal

pub returns-then-not-are_all-clause-no : goal.returns-then-not-are_all-clause-no
returns-then-not-are_all-clause-no c = λ _ h.
    let part = subst (AreAll (length (map (λ (s : Vec ℕ Global). s.items) c.args.texts.now))) (sym c.as_slice.ensures.value) h.part in
    c.are_all.ensures.no c.if-not-are_all.true (subst (λ (n : ℕ). AreAll n c.as_slice.result.now) (length-map c.args.texts.now (λ (s : Vec ℕ Global). s.items)) part)

pub returns-then-not-are_same-clause-no : goal.returns-then-not-are_same-clause-no
returns-then-not-are_same-clause-no c = λ _ h.
    c.are_same.ensures.no c.if-not-are_same.true (ap (λ (l : List (Vec ℕ Global)). map (λ (s : Vec ℕ Global). s.items) l) c.as_slice-2.ensures.value ∙ h.texts_are)
