-- Schemes that quantify all variables but those that are kept.
use Rattle.std.proofs.Common.{◌≡◌, ℕ, zero, suc, ◌+◌, ◌-◌, ◌<◌, ◌++◌, get_or, subst, Bool, List, [], ◌∷◌, length, sym, ap, ◌∙◌, inr, arith}
use Rattle.hm_types.specs.Types.{Var as leaf, In, put}
use Rattle.hm_types.specs.Monotypes.{Leaf, Mono, var, rigid}
use Rattle.hm_unify.specs.WellFormed.{IsWellFormed}
use Rattle.hm_infer_generalisation.specs.declared.collecting.Collected.{Collected}
use Rattle.hm_infer_generalisation.specs.Collected.{Gathers}
use Rattle.hm_infer_generalisation.specs.Generalised.{IsClosing, closing}
use Rattle.hm_infer_context.specs.Environments.{Assumed, AreAssumed}
use Rattle.hm_infer_context.specs.AssumedTypes.{type_in}
use Rattle.hm_infer_context.specs.Kept.{stack, assumed_of}
use Rattle.hm_infer_context.specs.declared.environment.Binding.{Binding}

-- the schemes of an environment

assumed_under : (g : ℕ) (xs : List Binding) (es : List Assumed) → AreAssumed g (stack assumed_of xs es) → AreAssumed g es
assumed_under g [] es a = a
assumed_under g (x ∷ xs) es a = (assumed_under g xs (assumed_of x ∷ es) a).1

pub assumed_at : (g : ℕ) (xs : List Binding) (es : List Assumed) (i : ℕ) (d : Binding) → AreAssumed g (stack assumed_of xs es) → i < length xs → d ≡ get_or xs i d → IsWellFormed (d.quantified + g) (type_in d.body)
assumed_at g [] es i d a h e = absurd (omega arith)
assumed_at g (x ∷ xs) es zero d a h e = subst (λ z. IsWellFormed (z.quantified + g) (type_in z.body)) (sym e) (assumed_under g xs (assumed_of x ∷ es) a).0
assumed_at g (x ∷ xs) es (suc i) d a h e = assumed_at g xs (assumed_of x ∷ es) i d a (omega arith) e

-- the outermost schemes
pub assumed_part : (g : ℕ) (added base : List Assumed) → AreAssumed g (added ++ base) → AreAssumed g base
assumed_part g [] base a = a
assumed_part g (e ∷ added) base a = assumed_part g added base a.1

-- generalisation

pub closes : (kept : Leaf → Bool) (before slots : Collected) (value t body : Mono) (q i j : ℕ) → Gathers (λ l. In l value) before slots → value ≡ t → i ≡ length slots.plain → j ≡ length slots.rigid → q ≡ i + j →
    body ≡ put (λ l. leaf (closing kept q slots.plain slots.rigid l)) value → IsClosing kept t q body
closes kept before slots value t body q i j g v ei ej eq closed = record {
  plain = slots.plain;
  rigid = slots.rigid;
  many = omega (arith, ei, ej, eq);
  whole = closed ∙ ap (put (λ l. leaf (closing kept q slots.plain slots.rigid l))) v;
  plain_slots = λ k h. (g.has (var k)).1 (inr (subst (In (var k)) (sym v) h));
  rigid_slots = λ k h. (g.has (rigid k)).1 (inr (subst (In (rigid k)) (sym v) h));
}
