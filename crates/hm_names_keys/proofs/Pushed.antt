-- Lists with one element more at the end.
use Rattle.std.proofs.Common.{◌≡◌, ℕ, List, [], ◌∷◌, ◌++◌, zero, suc, length, take, Option, Some, None, ◌⊎◌, ⊎_elim, inl, inr, refl, ap, ◌∙◌}
use Rattle.std.specs.List.{slice_get}
use Rattle.std.proofs.Math.Seq.{take-append_seam}

pub get-push_old : {X : Type 0} (xs : List X) (y x : X) (k : ℕ) → slice_get xs k ≡ Some x → slice_get (xs ++ y ∷ []) k ≡ Some x
get-push_old [] y x k e = cc
get-push_old (z ∷ zs) y x zero e = e
get-push_old (z ∷ zs) y x (suc k) e = get-push_old zs y x k e

pub get-push_new : {X : Type 0} (xs : List X) (y : X) → slice_get (xs ++ y ∷ []) (length xs) ≡ Some y
get-push_new [] y = refl
get-push_new (z ∷ zs) y = get-push_new zs y

pub get-push_cases : {X : Type 0} (xs : List X) (y x : X) (k : ℕ) → slice_get (xs ++ y ∷ []) k ≡ Some x → (slice_get xs k ≡ Some x) ⊎ ((k ≡ length xs) × (Some y ≡ Some x))
get-push_cases [] y x zero e = inr (refl, e)
get-push_cases [] y x (suc k) e = cc
get-push_cases (z ∷ zs) y x zero e = inl e
get-push_cases (z ∷ zs) y x (suc k) e = ⊎_elim inl (λ h. inr (ap suc h.0, h.1)) (get-push_cases zs y x k e)

pub some_injective : {X : Type 0} {x y : X} → Some x ≡ Some y → x ≡ y
some_injective {X} {x} {y} e = ap (value x) e
  where
    value : X → Option X → X
    value d None = d
    value d (Some z) = z

pub take_all_but : {X : Type 0} (xs ys : List X) (n : ℕ) (x : X) → n ≡ length xs → ys ≡ xs ++ x ∷ [] → take n ys ≡ xs
take_all_but xs ys n x e f = ap (take n) f ∙ (ap (λ m. take m (xs ++ x ∷ [])) e ∙ take-append_seam xs (x ∷ []))
