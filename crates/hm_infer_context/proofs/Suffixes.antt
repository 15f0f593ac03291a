-- The rest of a list from an element on.
use Rattle.std.proofs.Common.{◌≡◌, ℕ, zero, suc, ◌+◌, ◌<◌, List, [], ◌∷◌, drop, length, get_or, sym, ap, ◌∙◌, arith}

drop_suc : {X : Type 0} (xs : List X) (i : ℕ) (x : X) → i < length xs → x ≡ get_or xs i x → drop i xs ≡ x ∷ drop (suc i) xs
drop_suc [] i x l e = absurd (omega arith)
drop_suc (y ∷ xs) zero x l e = ap (λ z. z ∷ xs) (sym e)
drop_suc (y ∷ xs) (suc i) x l e = drop_suc xs i x (omega arith) e

pub drop_more : {X : Type 0} (xs : List X) (i : ℕ) (x : X) → i < length xs → x ≡ get_or xs i x → drop i xs ≡ x ∷ drop (i + 1) xs
drop_more xs i x l e = let n : suc i ≡ i + 1 = omega arith in drop_suc xs i x l e ∙ ap (λ j. x ∷ drop j xs) n
