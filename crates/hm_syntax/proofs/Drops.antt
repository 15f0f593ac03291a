-- The measure of a drop: what a list holds is smaller than what holds the list.
use Rattle.std.specs.Prelude.{ℕ, List, [], ◌∷◌, ◌+◌, ◌*◌, ◌<◌, ◌≤◌, ◌≡◌, max}
use Rattle.std.proofs.Common.{arith}
use denote.Param.Weighed.{most}

most_twice : {A : Type 0} (f : A → ℕ) (xs : List A) → most (λ y. 2 * f y + 0) xs ≤ 2 * most f xs
most_twice f [] = omega arith
most_twice f (x ∷ xs) = omega (arith, most_twice f xs)

pub less : {A : Type 0} (f : A → ℕ) (xs : List A) (t : ℕ) → 2 * max (most f xs) 0 + 1 ≡ t → most (λ y. 2 * f y + 0) xs < t
less f xs t whole = omega (arith, most_twice f xs, whole)

pub less_before : {A : Type 0} (f : A → ℕ) (xs : List A) (n t : ℕ) → 2 * max (most f xs) (max n 0) + 1 ≡ t → most (λ y. 2 * f y + 0) xs < t
less_before f xs n t whole = omega (arith, most_twice f xs, whole)

pub less_behind : {A : Type 0} (f : A → ℕ) (xs : List A) (n t : ℕ) → 2 * max n (max (most f xs) 0) + 1 ≡ t → most (λ y. 2 * f y + 0) xs < t
less_behind f xs n t whole = omega (arith, most_twice f xs, whole)
