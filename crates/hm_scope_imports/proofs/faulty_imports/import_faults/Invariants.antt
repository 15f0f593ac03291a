use Rattle.std.proofs.Common.{take}
use Rattle.hm_syntax.specs.declared.ast.Import.{Import}
use Rattle.hm_names.specs.Bindings.{Adds}
use Rattle.hm_names.proofs.AddedPairs.{ForEach}
use Rattle.hm_scope_imports.proofs.FaultyLists.{FaultOf}
use Rattle.hm_scope_imports.proofs.faulty_imports.import_faults.Given as goal

abbrev pub invariant-loop-import : goal.invariant-loop-import
invariant-loop-import l = Adds l.initial.faults.items l.faults.items (ForEach (λ (i : Import). FaultOf l.interfaces i) (take l.import-index l.program.header.imports))
