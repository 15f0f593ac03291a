-- Worked examples of parts that are opened, and of sources in which a definition is a type fault.
use Rattle.std.specs.Prelude.{◌≡◌, ℕ, List, [], ◌∷◌, Contains, codes}
use Rattle.hm_types.specs.Interfaces.{Exports as Interface}
use Rattle.hm_types.specs.StandardPrelude.{prelude_interface}
use Rattle.hm_syntax.specs.declared.ast.Module.{Module}
use Rattle.hm_run_sources.specs.SourceModules.{HasModules}
use Rattle.hm_names.specs.Imports.{AreImportsOf}
use Rattle.hm_names.specs.declared.faults.Fault.{Fault}
use Rattle.hm_names.specs.declared.faults.Kind.TheVariants.{Untyped}
use Rattle.hm_verdicts.specs.ModuleVerdicts.{Faulty, IsVerdict}
use Rattle.hm_verdicts.specs.Worked.{module_A, module_B}
use Rattle.hm_messages_trials.specs.Worked.{part}
use Rattle.hm_messages_joint.specs.Joints.{AreApart, IsOpened, IsUntypedIn}
use Rattle.hm_messages_joint.specs.declared.parts.JointPart.{JointPart}
use Rattle.hm_messages_joint.specs.declared.parts.JointPart.TheVariants.{Expression, Pattern}

-- an expression, and a pattern, from one byte to another
abbrev pub expression : ℕ → ℕ → JointPart
expression from to = Expression (part from to)

abbrev pub pattern : ℕ → ℕ → JointPart
pattern from to = Pattern (part from to)

-- f x y with the hole in place of y, and then of x too. The arguments are apart, and two times x isn't two parts. With no bytes in place of y, y stays. Without its pattern [x],
-- f has x in a where of its own; a pattern isn't a hole
pub record BothRow : Type 0 where
  pub argument : IsOpened (codes "f x y") (expression 4 5) (codes "f x (let { h = h } in h)")
  pub arguments : IsOpened (codes "f x (let { h = h } in h)") (expression 2 3) (codes "f (let { h = h } in h) (let { h = h } in h)")
  pub one_stays : ¬ (IsOpened (codes "f x y") (expression 4 4) (codes "f x (let { h = h } in h)"))
  pub pattern_opened : IsOpened (codes "f [x] = x") (pattern 2 5) (codes "f _ = x where { x = (let { h = h } in h) ; }")
  pub no_hole : ¬ (IsOpened (codes "f [x] = x") (pattern 2 5) (codes "f (let { h = h } in h) = x"))
  pub apart : AreApart (codes "f x y") (expression 2 3) (expression 4 5)
  pub same : ¬ (AreApart (codes "f x y") (expression 2 3) (expression 2 3))

-- A definition with a type fault in the verdict of the only module of a source is one. The module A has only x = 'c' and is good, so no definition is one in a
-- source of A alone. The module B exports a module that it doesn't import: a fault of another kind
pub record UntypedRow : Type 0 where
  pub untyped : (source name : List ℕ) (fs : List Interface) (m : Module) (found : List Fault) (f : Fault) → HasModules source (m ∷ []) → m.header.name.text ≡ name
      → AreImportsOf m fs → IsVerdict m (prelude_interface ∷ fs) (Faulty found) → Contains found f → f.kind ≡ Untyped → IsUntypedIn source name fs f.name
  pub good : (source definition : List ℕ) → HasModules source (module_A ∷ []) → ¬ (IsUntypedIn source (codes "A") [] definition)
  pub of_names : (source definition : List ℕ) → HasModules source (module_B ∷ []) → ¬ (IsUntypedIn source (codes "B") [] definition)
