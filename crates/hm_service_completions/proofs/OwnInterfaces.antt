-- The interface of a module that is kept is that of its status, and the names of a module by equal parts.
use Rattle.std.proofs.Common.{◌≡◌, ℕ, List, ◌∷◌, Option, None, Some, refl, subst}
use Rattle.hm_scope_typed_names.specs.Typed.{AreTypedNames}
use Rattle.hm_scope_typed_names.specs.declared.typed.TypedName.{TypedName}
use Rattle.hm_service_completions.specs.Completions.{interface_by}
use Rattle.hm_store.specs.Builds.{Build, interface_at, interface_in, interface_of, kept_at}
use Rattle.hm_store.specs.Settlements.{settlement, settlement_by, settlement_with}
use Rattle.hm_syntax.specs.declared.ast.Module.{Module}
use Rattle.hm_types.specs.Interfaces.{Exports as Interface}
use Rattle.hm_verdicts.specs.ModuleVerdicts.{Verdict, Good, Faulty}
use Rattle.hm_verdicts.specs.Outcomes.{Checked}

by_verdict : (v : Verdict) → interface_by (settlement_by v) ≡ interface_of v
by_verdict (Good f) = refl
by_verdict (Faulty found) = refl

by_outcome : (o : Option Checked) → interface_by (settlement_with o) ≡ interface_in o
by_outcome None = refl
by_outcome (Some c) = by_verdict c.verdict

pub own_is : (b : Build) (i : ℕ) → interface_by (settlement b i) ≡ interface_at b.kept i
own_is b i = by_outcome (kept_at b.kept i)

pub typed_by : (m n : Module) (p q : Interface) (fs gs : List Interface) (own same : Option Interface) (prefix : List ℕ) (names : List TypedName) → m ≡ n → p ≡ q → fs ≡ gs → own ≡ same
    → AreTypedNames m (p ∷ fs) own prefix names → AreTypedNames n (q ∷ gs) same prefix names
typed_by m n p q fs gs own same prefix names modules preludes imports owns are =
    subst (λ (x : Module). AreTypedNames x (q ∷ gs) same prefix names) modules
    (subst (λ (f : Interface). AreTypedNames m (f ∷ gs) same prefix names) preludes
    (subst (λ (l : List Interface). AreTypedNames m (p ∷ l) same prefix names) imports
    (subst (λ (o : Option Interface). AreTypedNames m (p ∷ fs) o prefix names) owns are)))
