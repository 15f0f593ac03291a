-- Properties of members with their numbers, while a loop goes through a list.
use Rattle.std.proofs.Common.{◌≡◌, ◌∙◌, ◌+◌, ◌<◌, ◌↔◌, ℕ, All, Bool, true, false, List, [], ◌∷◌, ◌++◌, arith, ap, get_or, inl, inr, length, subst, sym, take}
use Rattle.std.specs.List.{Any}
use Rattle.std.proofs.lemmas.Bool.{cases_Bool, cases_lt}
use Rattle.std.proofs.lemmas.List.{get_or_append_left, get_or_default, get_or_push}
use Rattle.std.proofs.lemmas.List.Elements.{All-more}

pub none_any : {X : Type 0} (P : X → Type 0) (xs : List X) → All (λ x. ¬ (P x)) xs → ¬ (Any P xs)
none_any P xs none (k, x, inside, is, p) = none k x inside (subst P (sym is) p)

-- at the end of a loop that has found none
pub none_found : {X : Type 0} (P : X → Type 0) (xs : List X) (i : ℕ) → take i xs ≡ xs → All (λ x. ¬ (P x)) (take i xs) → ¬ (Any P xs)
none_found P xs i whole none = none_any P xs (subst (All (λ x. ¬ (P x))) whole none)

pub none_more : {X : Type 0} (P : X → Type 0) (xs : List X) (i : ℕ) (x : X) → i < length xs → x ≡ get_or xs i x → ¬ (P x) → All (λ y. ¬ (P y)) (take i xs) → All (λ y. ¬ (P y)) (take (i + 1) xs)
none_more P xs i x low at not none = All-more (λ y. ¬ (P y)) xs i x low none (subst (λ y. ¬ (P y)) at not)

pub one_found : {X : Type 0} (P : X → Type 0) (xs : List X) (i : ℕ) (x : X) → i < length xs → x ≡ get_or xs i x → P x → Any P xs
one_found P xs i x low at p = (i, x, low, sym at, p)

pub not_none : {X : Type 0} (P : X → Type 0) (xs : List X) (i : ℕ) (x : X) → i < length xs → x ≡ get_or xs i x → P x → ¬ (All (λ y. ¬ (P y)) xs)
not_none P xs i x low at p none = none i x low (subst P at p)

pub decided : (b : Bool) (P : Type 0) → (b ≡ true → P) → (b ≡ false → ¬ P) → (b ≡ true) ↔ P
decided b P has not = (has, λ p. elim (cases_Bool b) [ inl set ↦ set | inr clear ↦ absurd (not clear p) ])

-- one more member
pub each_more : {X Y : Type 0} (P : ℕ → X → Y → Type 0) (xs : List X) (ys : List Y) (n : ℕ) (x : X) (y e : Y) → length ys ≡ n → n < length xs → x ≡ get_or xs n x → P n x y → ((k : ℕ) (d : X) → k < n → P k (get_or xs k d) (get_or ys k e))
    → (k : ℕ) (d : X) → k < n + 1 → P k (get_or xs k d) (get_or (ys ++ y ∷ []) k e)
each_more P xs ys n x y e long low at here before k d below = elim (cases_lt k n) [
  | inl less ↦ subst (P k (get_or xs k d)) (sym (get_or_append_left ys (y ∷ []) e k (omega (arith, less, long)))) (before k d less)
  | inr past ↦
      let last : k ≡ n = omega (arith, past, below) in
      let one : get_or (ys ++ y ∷ []) k e ≡ y = get_or_push ys y e k (long ∙ sym last) in
      let two : get_or xs k d ≡ x = ap (λ (j : ℕ). get_or xs j d) last ∙ (get_or_default xs n d x low ∙ sym at) in
      subst (P k (get_or xs k d)) (sym one) (subst (λ z. P k z y) (sym two) (subst (λ (j : ℕ). P j x y) (sym last) here))
]
