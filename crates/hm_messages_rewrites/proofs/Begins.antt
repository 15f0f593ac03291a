-- What the prefix of bytes says.
use Rattle.std.proofs.Common.{◌≡◌, ◌++◌, ℕ, List, Option, None, Some, Bor, IfNone, IfSome}
use Rattle.std.specs.Prelude.{MatchOption}

pub found : (s p : List ℕ) (r : Option (Bor (List ℕ))) → MatchOption r ((after : List ℕ) → ¬ (s ≡ p ++ after)) (λ x. s ≡ p ++ x.now) → IfSome r (λ x. s ≡ p ++ x.now)
found s p (Some x) h = h
found s p None h = tt

pub missed : (s p : List ℕ) (r : Option (Bor (List ℕ))) → MatchOption r ((after : List ℕ) → ¬ (s ≡ p ++ after)) (λ x. s ≡ p ++ x.now) → IfNone r ((after : List ℕ) → ¬ (s ≡ p ++ after))
missed s p (Some x) h = tt
missed s p None h = h
