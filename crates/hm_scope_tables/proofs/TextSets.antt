-- Sets of texts.
use Rattle.std.proofs.Common.{◌≡◌, ℕ, ◌+◌, length, nat_lt, Some, None, Bool, true, false, cond, ◌||◌, inl, inr, List, [], ◌∷◌, ◌++◌, refl, sym, ap, ◌∙◌, map, bytes_eq, Bor, not}
use Rattle.std.specs.List.{list_any, position, position_or_len}
use Rattle.std.proofs.lemmas.Bool.{cases_Bool}
use Rattle.std.proofs.lemmas.List.{map-append, length-map}
use Rattle.indexmap.specs.IndexSet.{insert_key}
use Rattle.hm_names.specs.Texts.{is_text_among, same_text}

pub any_is : (x : List ℕ) (ks : List (Bor (List ℕ))) → list_any (λ k. bytes_eq x k.now) ks ≡ is_text_among x (map (λ k. k.now) ks)
any_is x [] = refl
any_is x (k ∷ ks) = ap (λ b. bytes_eq x k.now || b) (any_is x ks)

pub inserted : (x : Bor (List ℕ)) (ks : List (Bor (List ℕ)))
    → map (λ k. k.now) (insert_key (λ a b. bytes_eq a.now b.now) ks x) ≡ cond (is_text_among x.now (map (λ k. k.now) ks)) (map (λ k. k.now) ks) (map (λ k. k.now) ks ++ x.now ∷ [])
inserted x ks = elim (cases_Bool (list_any (λ k. bytes_eq x.now k.now) ks)) [
  | inl there ↦ rw there (rw (sym (any_is x.now ks) ∙ there) (refl))
  | inr absent ↦ rw absent (rw (sym (any_is x.now ks) ∙ absent) (map-append (λ k. k.now) ks (x ∷ [])))
]

-- what is in a set after one more text
pub more : (x y : List ℕ) (ys : List (List ℕ)) → is_text_among x (ys ++ y ∷ []) ≡ is_text_among x (y ∷ ys)
more x y [] = refl
more x y (z ∷ zs) = ap (λ b. bytes_eq x z || b) (more x y zs) ∙ swap (bytes_eq x z) (bytes_eq x y) (is_text_among x zs)
  where
    swap : (a b d : Bool) → (a || (b || d)) ≡ (b || (a || d))
    swap true true d = refl
    swap true false d = refl
    swap false true d = refl
    swap false false d = refl

first_place : (x : List ℕ) (ks : List (Bor (List ℕ))) → position_or_len (λ k. bytes_eq x k.now) ks ≡ position_or_len (same_text x) (map (λ k. k.now) ks)
first_place x [] = refl
first_place x (k ∷ ks) = ap (λ n. cond (not (bytes_eq x k.now)) (1 + n) 0) (first_place x ks)

pub place_is : (x : List ℕ) (ks : List (Bor (List ℕ))) → position (λ k. bytes_eq x k.now) ks ≡ position (same_text x) (map (λ k. k.now) ks)
place_is x ks = rw (length-map ks (λ k. k.now)) (ap (λ n. cond (nat_lt n (length ks)) (Some n) None) (first_place x ks))
