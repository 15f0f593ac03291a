-- When an earlier outcome is taken.
use Rattle.std.specs.Prelude.{◌≡◌, List}
use Rattle.hm_types.specs.Interfaces.{Exports as Interface}
use Rattle.hm_syntax.specs.declared.ast.Module.{Module}
use Rattle.hm_verdicts.specs.Outcomes.{Checked, IsGood}

-- the earlier outcome is good, and is of this module for these interfaces of its imports
pub record IsTakenFor (earlier : Checked) («module» : Module) (imports : List Interface) : Type 0 where
  pub good : IsGood earlier.verdict
  pub subject : earlier.«module» ≡ «module»
  pub given : earlier.imports ≡ imports
