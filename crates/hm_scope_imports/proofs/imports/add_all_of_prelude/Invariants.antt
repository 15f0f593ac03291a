use Rattle.std.proofs.Common.{◌≡◌, take, Bor}
use Rattle.hm_types.specs.Interfaces.{Exports as Interface}
use Rattle.hm_names.specs.Bindings.{Adds, IsBroughtPair}
use Rattle.hm_names.specs.Scope.{import_prelude, prelude_name}
use Rattle.hm_names.proofs.AddedPairs.{ForEach}
use Rattle.hm_scope_imports.proofs.imports.add_all_of_prelude.Given as goal

abbrev pub invariant-loop-interface : goal.invariant-loop-interface
invariant-loop-interface l = Adds l.initial.pairs.items l.pairs.items (ForEach (λ (f : Bor Interface) p. (f.now.name ≡ prelude_name) × IsBroughtPair f.now import_prelude p) (take l.interface-index l.interfaces))
