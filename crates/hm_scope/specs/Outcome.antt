-- The results of `scope`.
use Rattle.std.specs.Prelude.{List, Result, Ok, Err}
use Rattle.hm_types.specs.Interfaces.{Exports as Interface}
use Rattle.hm_syntax.specs.declared.ast.Module.{Module}
use Rattle.hm_names.specs.declared.faults.ScopeFault.{ScopeFault}
use Rattle.hm_names.specs.declared.faults.ScopeFault.TheVariants.{Faults, Memory}
use Rattle.hm_names.specs.declared.faults.Fault.{Fault}
use Rattle.hm_names.specs.ModuleCores.{ModuleCore}
use Rattle.hm_names.specs.Cores.{IsCore}
use Rattle.hm_names.specs.Faults.Phases.{AreFaults}

-- the faults of the module, unless memory ran out
abbrev pub IsFaulty : Module → List Interface → ScopeFault → Type 0
IsFaulty m fs (Faults found) = AreFaults m fs found
IsFaulty m fs Memory = Unit {0}

-- the core of the module, or its faults
abbrev pub IsOutcome : Module → List Interface → Result ModuleCore (List Fault) → Type 0
IsOutcome m fs (Ok c) = IsCore m fs c
IsOutcome m fs (Err found) = AreFaults m fs found
