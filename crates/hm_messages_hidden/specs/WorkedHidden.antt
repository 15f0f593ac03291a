-- Worked examples of faults that the report leaves out.
use Rattle.std.specs.Prelude.{◌≡◌, ◌≤◌, ℕ, List, [], ◌∷◌, codes, length}
use Rattle.hm_types.specs.Interfaces.{Exports as Interface}
use Rattle.hm_run_sources.specs.SourceModules.{HasModules}
use Rattle.hm_names.specs.declared.faults.Fault.{Fault}
use Rattle.hm_names.specs.declared.faults.Kind.TheVariants.{Unbound, Untyped}
use Rattle.hm_verdicts.specs.ModuleVerdicts.{Good, Faulty}
use Rattle.hm_verdicts.specs.Worked.{module_A}
use Rattle.hm_verdicts.specs.WorkedVerdicts.{interface_A}
use Rattle.hm_messages_hidden.specs.Hidden.{HaveUnbound, IsLater, IsOutOfScope, IsReplaced, IsVerdictBeyond}
use Rattle.hm_messages_changes.specs.Blanks.{blank, replaced, with_definitions}
use Rattle.hm_messages_trials.specs.Worked.{at_column, reported_by}
use Rattle.hm_messages_changes.specs.declared.data.Other.{Other}

-- y isn't in scope, and gets a definition before the bracket that ends the module
pub record DefinitionsRow : Type 0 where
  pub defined : with_definitions (codes "f = y }") 6 (codes "y" ∷ []) ≡ codes "f = y  ; y = (let { h = h } in h)}"
  pub undefined : ¬ (with_definitions (codes "f = y }") 6 [] ≡ codes "f = y  ; y = (let { h = h } in h)}")

-- Y isn't in scope. Spaces replace the definition of f, which is bytes 0 to 5, and f is the hole. A space replaces no end of a line
pub record ReplacedRow : Type 0 where
  pub replaced : (f : Other) → f.name.now ≡ codes "f" → f.from ≡ 0 → f.to ≡ 5 → replaced (codes "f = Y }") 6 [] (f ∷ []) ≡ codes "       ; f = (let { h = h } in h)}"
  pub letter : blank 89 ≡ 32
  pub line_end : blank 10 ≡ 10

-- Only a fault of names from the first place up to the second is such a fault. So the definition of f that has one is replaced, but not as one of g
pub record HeldRow : Type 0 where
  pub here : HaveUnbound (reported_by Unbound (codes "Y") ∷ []) (at_column 18) (at_column 19)
  pub in_front : ¬ (HaveUnbound (reported_by Unbound (codes "Y") ∷ []) (at_column 17) (at_column 18))
  pub of_types : ¬ (HaveUnbound (reported_by Untyped (codes "Y") ∷ []) (at_column 18) (at_column 19))
  pub own : (f : Other) → f.name.now ≡ codes "f" → f.from ≡ 13 → f.to ≡ 18 → IsReplaced (codes "module M{x=1;f = Y}") (reported_by Unbound (codes "Y") ∷ []) f
  pub another : (g : Other) → g.name.now ≡ codes "g" → g.from ≡ 13 → g.to ≡ 18 → ¬ (IsReplaced (codes "module M{x=1;f = Y}") (reported_by Unbound (codes "Y") ∷ []) g)

-- a type fault at column 18 is in front of column 20, but not of column 18. A fault of names is of no later phase. Only a fault of names says that y isn't
-- in scope
pub record LaterRow : Type 0 where
  pub types : IsLater (at_column 20) (reported_by Untyped (codes "g"))
  pub after : ¬ (IsLater (at_column 18) (reported_by Untyped (codes "g")))
  pub of_names : ¬ (IsLater (at_column 20) (reported_by Unbound (codes "g")))
  pub out : IsOutOfScope (reported_by Unbound (codes "y") ∷ []) (codes "y")
  pub in_scope : ¬ (IsOutOfScope (reported_by Untyped (codes "y") ∷ []) (codes "y"))

-- The module A has only x = 'c' and is good. If it is what the source spells with a definition of y, that is its verdict beyond the fault that y isn't in
-- scope. No such verdict says again that a name isn't in scope
pub record BeyondRow : Type 0 where
  pub good : (source : List ℕ) (at : ℕ) → at ≤ length source → HasModules (with_definitions source at (codes "y" ∷ [])) (module_A ∷ [])
      → IsVerdictBeyond source (codes "A") [] (reported_by Unbound (codes "y") ∷ []) (Good interface_A)
  pub again : (source name : List ℕ) (fs : List Interface) (faults : List Fault) → ¬ (IsVerdictBeyond source name fs faults (Faulty (reported_by Unbound (codes "y") ∷ [])))
