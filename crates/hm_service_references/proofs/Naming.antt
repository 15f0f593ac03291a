-- The interfaces of imports and the names of modules, with those of one more module.
use Rattle.std.proofs.Common.{◌≡◌, ℕ, suc, ◌+◌, ◌<◌, List, [], ◌∷◌, ◌++◌, length, get_or, map, inl, inr, refl, sym, ap, subst, ◌∙◌, arith, length-append}
use Rattle.std.proofs.lemmas.Bool.{cases_lt}
use Rattle.std.proofs.lemmas.List.{get_or_append_left, get_or_push}
use Rattle.hm_build_places.specs.Known.{Known}
use Rattle.hm_service_references.specs.Imported.{AreAllImported, IsImported, interfaces_in}
use Rattle.hm_service_references.specs.Names.{AreFirstNames, AreUsesAt, source_of}
use Rattle.hm_service_references.specs.declared.imported.Imported.{Imported}
use Rattle.hm_uses.specs.Uses.{UseOf}
use Rattle.hm_uses_references.specs.SetNames.{SetName, name_in}

pub names_more : (k : Known) (part : List ℕ) (n : ℕ) (old new : List SetName) (us : List UseOf) (source : ℕ) → AreFirstNames k part n old → AreUsesAt k n us → source ≡ source_of k part n → new ≡ old ++ map (name_in n source) us → AreFirstNames k part (n + 1) new
names_more k part n old new us source before are is added =
    let next : suc n ≡ n + 1 = omega arith in
    subst (λ (m : ℕ). AreFirstNames k part m new) next (old, (us, (before, (are, subst (λ (s : ℕ). new ≡ old ++ map (name_in n s) us) is added))))

imported_at : (k : Known) (old : List Imported) (x : Imported) (n i : ℕ) (d : Imported) → length old ≡ n → ((j : ℕ) (e : Imported) → j < length old → IsImported k j (interfaces_in (get_or old j e))) → IsImported k n (interfaces_in x) → i < length (old ++ x ∷ [])
    → IsImported k i (interfaces_in (get_or (old ++ x ∷ []) i d))
imported_at k old x n i d size each last within = elim (cases_lt i n) [
  | inl low ↦
      let short : i < length old = omega (arith, low, size) in
      subst (λ (y : Imported). IsImported k i (interfaces_in y)) (sym (get_or_append_left old (x ∷ []) d i short)) (each i d short)
  | inr high ↦
      let long : length (old ++ x ∷ []) ≡ length old + 1 = length-append old (x ∷ []) in
      let same : n ≡ i = omega (arith, high, within, long, size) in
      subst (λ (y : Imported). IsImported k i (interfaces_in y)) (sym (get_or_push old x d i (size ∙ same))) (subst (λ (j : ℕ). IsImported k j (interfaces_in x)) same last)
]

pub imported_more : (k : Known) (n : ℕ) (old new : List Imported) (x : Imported) → AreAllImported k n old → IsImported k n (interfaces_in x) → new ≡ old ++ x ∷ [] → AreAllImported k (n + 1) new
imported_more k n old new x before last added =
    let long : length (old ++ x ∷ []) ≡ length old + 1 = length-append old (x ∷ []) in
    subst (AreAllImported k (n + 1)) (sym added) (record {
      size = long ∙ ap (λ (m : ℕ). m + 1) before.size;
      each = λ i d within. imported_at k old x n i d before.size before.each last within;
    })

pub imported_none : (k : Known) → AreAllImported k 0 []
imported_none k = record { size = refl; each = λ i d within. absurd (omega (arith, within)) }
