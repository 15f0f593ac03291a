-- Why a module has no outcome.
use Rattle.std.specs.Prelude.{List}
use Rattle.hm_types.specs.Interfaces.{Exports as Interface}
use Rattle.hm_syntax.specs.declared.ast.Module.{Module}
use Rattle.hm_names.specs.Imports.{AreImportsOf}
use Rattle.hm_check.specs.declared.checking.CheckFault.{CheckFault}
use Rattle.hm_check.specs.declared.checking.CheckFault.TheVariants.{Imports, Memory}

-- the interfaces aren't those that the module requires, or memory ran out
abbrev pub IsRefused : Module → List Interface → CheckFault → Type 0
IsRefused m fs Imports = ¬ (AreImportsOf m fs)
IsRefused m fs Memory = Unit {0}
