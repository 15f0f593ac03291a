-- Outcomes of checked modules.
use Rattle.std.specs.Prelude.{List}
use Rattle.std.specs.Arc.{arc_value}
use Rattle.hm_types.specs.Interfaces.{Exports as Interface}
use Rattle.hm_syntax.specs.declared.ast.Module.{Module}
use Rattle.hm_verdicts.specs.ModuleVerdicts as definition
use Rattle.hm_verdicts.specs.declared.outcome.Verdict.{Verdict}
use Rattle.hm_verdicts.specs.declared.outcome.Verdict.TheVariants.{Good, Faulty}

-- a module, the interfaces of its imports without Prelude's, and its verdict for these
pub record Checked : Type 0 where
  pub «module» : Module
  pub imports : List Interface
  pub verdict : definition.Verdict

-- the verdict that a value of the program represents
abbrev pub verdict_of : Verdict → definition.Verdict
verdict_of (Good f) = definition.Good (arc_value f)
verdict_of (Faulty found) = definition.Faulty found

abbrev pub IsGood : definition.Verdict → Type 0
IsGood (definition.Good f) = Unit {0}
IsGood (definition.Faulty found) = ⊥
