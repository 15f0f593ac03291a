-- Judging a group of a list alone, under closed assumptions: its closed schemes are principal, or it has no types. No public clause names these.
use Rattle.std.specs.Prelude.{◌≡◌, ℕ, ◌||◌, Bool, cond, List, [], Result, Ok, Err}
use Rattle.std.specs.Bool.{Decides}
use Rattle.hm_typing.specs.Names.{Identifier, IsOneOf}
use Rattle.hm_typing.specs.Schemes.{Monotype, Scheme}
use Rattle.hm_typing.specs.Assumptions.{Assumptions}
use Rattle.hm_typing.specs.Syntax.{Bindings, names}
use Rattle.hm_typing.specs.Orders.{IsNext, Layout}
use Rattle.hm_typing.proofs.Groups.{GroupHas}
use Rattle.hm_typing.proofs.Units.{AreClosed, Unit_typed}
use Rattle.hm_syntax.specs.Trees.{Declaration}
use Rattle.hm_syntax.specs.Lists.{declarations}
use Rattle.hm_names.specs.Syntax.{Known}
use Rattle.hm_unify.specs.Solving.{Solving}
use Rattle.hm_unify.specs.declared.faults.UnifyFault.{UnifyFault}
use Rattle.hm_unify.specs.declared.faults.UnifyFault.TheVariants.{Clash, Memory}
use Rattle.hm_infer_context.specs.Environments.{Assumed, AreAssumed, assumptions}
use Rattle.hm_infer_expressions.specs.BoundNames.{Sees, names_at}
use Rattle.hm_infer_expressions.specs.Stages.{list_of}

-- after a group, if the names in status have schemes: its own names have theirs too; or it has no types
abbrev pub AfterJudged : {X : Type 0} → Bindings → Assumptions → (Identifier → Bool) → (Identifier → Bool) → (Identifier → Scheme) → List Assumed → Result X UnifyFault → Type 0
AfterJudged ds A status g B es1 (Ok x) = (t : Unit_typed ds A g B) × Sees ds A (λ y. status y || g y) (λ y. cond (g y) (t.schemes y) (B y)) es1
AfterJudged ds A status g B es1 (Err Clash) = (τ : Identifier → Monotype) → ¬ (GroupHas g (names ds) A B τ ds)
AfterJudged ds A status g B es1 (Err Memory) = Unit {0}

-- judging a group, with a solver without equations
abbrev pub JudgesGroup : {X : Type 0} → Known → List Declaration → List ℕ → List Assumed → Solving → List Assumed → List Assumed → Result X UnifyFault → Type 0
JudgesGroup k decls group base s0 es0 es1 outcome =
    (L : Layout (list_of k decls)) (status g : Identifier → Bool) (B : Identifier → Scheme) → s0.equations ≡ [] → IsNext (list_of k decls) L.own status g → ((y : Identifier) → Decides (g y) (IsOneOf y (names_at k (declarations decls) group))) → AreAssumed 0 base → AreClosed B →
    Sees (list_of k decls) (assumptions base) status B es0 → AfterJudged (list_of k decls) (assumptions base) status g B es1 outcome
