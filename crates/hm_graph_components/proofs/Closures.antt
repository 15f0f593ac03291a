use Rattle.std.proofs.Common.{ℕ}
use Rattle.hm_graph_components.specs.Closure.{Closure, one, more}

pub Closure-trans : {R : ℕ → ℕ → Type 0} {a b c : ℕ} → Closure R a b → Closure R b c → Closure R a c
Closure-trans p (one r) = more p r
Closure-trans p (more q r) = more (Closure-trans p q) r

-- a set that has the steps from a, and from each of its members, has all that a reaches
pub Closure-within : {R : ℕ → ℕ → Type 0} {a b : ℕ} (P : ℕ → Type 0) → ((y : ℕ) → R a y → P y) → ((x y : ℕ) → P x → R x y → P y) → Closure R a b → P b
Closure-within P first next (one r) = first _ r
Closure-within P first next (more p r) = next _ _ (Closure-within P first next p) r
