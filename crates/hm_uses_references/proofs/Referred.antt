-- The references among the first names of a list, with one more, and that a place has one list of them.
use Rattle.std.proofs.Common.{◌≡◌, ℕ, ◌+◌, ◌<◌, ◌↔◌, Bool, true, false, List, [], ◌∷◌, ◌++◌, ◌∙◌, length, take, get_or, map, inl, inr, sym, ap, subst}
use Rattle.std.specs.List.{Any}
use Rattle.std.proofs.lemmas.Bool.{cases_Bool, both_ways}
use Rattle.std.proofs.lemmas.List.{map-append, take_more}
use Rattle.hm_uses_references.specs.Laws.{ReferencesAreOneList}
use Rattle.hm_uses_references.specs.References.{AreReferred, names_at, reference_of}
use Rattle.hm_uses_references.specs.SetNames.{IsSame, SetName}
use Rattle.hm_uses_references.specs.declared.finding.Reference.{Reference}
use Rattle.hm_uses_references.proofs.Chosen.{chosen_with, chosen_without, one_choice}

abbrev IsMeant : List SetName → SetName → Type 0
IsMeant on n = Any (λ m. IsSame m n) on

with_name : (on names : List SetName) (n : SetName) (references : List Reference) → AreReferred on names references → IsMeant on n → AreReferred on (names ++ n ∷ []) (references ++ reference_of n ∷ [])
with_name on names n references h p =
    (h.0 ++ n ∷ [], (chosen_with (IsMeant on) names n h.0 h.1.0 p, ap (λ (l : List Reference). l ++ reference_of n ∷ []) h.1.1 ∙ sym (map-append reference_of h.0 (n ∷ []))))

without_name : (on names : List SetName) (n : SetName) (references : List Reference) → AreReferred on names references → (IsMeant on n → ⊥) → AreReferred on (names ++ n ∷ []) references
without_name on names n references h p = (h.0, (chosen_without (IsMeant on) names n h.0 h.1.0 p, h.1.1))

-- the step of a loop
pub referred_more : (on names : List SetName) (i : ℕ) (n : SetName) (old new : List Reference) (mark : Bool) → i < length names → n ≡ get_or names i n → AreReferred on (take i names) old → (mark ≡ true) ↔ IsMeant on n
    → (mark ≡ true → new ≡ old ++ reference_of n ∷ []) → (mark ≡ false → new ≡ old) → AreReferred on (take (i + 1) names) new
referred_more on names i n old new mark within at so_far means adds keeps =
    let front : take (i + 1) names ≡ take i names ++ n ∷ [] = take_more names i n within ∙ ap (λ (x : SetName). take i names ++ x ∷ []) (sym at) in
    subst (λ (l : List SetName). AreReferred on l new) (sym front) (elim (cases_Bool mark) [
      | inl set ↦ subst (AreReferred on (take i names ++ n ∷ [])) (sym (adds set)) (with_name on (take i names) n old so_far (means.0 set))
      | inr clear ↦ subst (AreReferred on (take i names ++ n ∷ [])) (sym (keeps clear)) (without_name on (take i names) n old so_far (λ p. both_ways mark clear (means.1 p)))
    ])

pub one_list : ReferencesAreOneList
one_list names source place some others h k =
    h.referred.1.1 ∙ (ap (map reference_of) (one_choice (IsMeant (names_at source place names)) names h.referred.0 k.referred.0 h.referred.1.0 k.referred.1.0) ∙ sym k.referred.1.1)
