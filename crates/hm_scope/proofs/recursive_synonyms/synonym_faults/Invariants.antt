use Rattle.std.proofs.Common.{take}
use Rattle.hm_names.specs.Bindings.{Adds}
use Rattle.hm_scope.specs.Synonyms.{IsOnce, IsMarkedFault}
use Rattle.hm_scope.proofs.recursive_synonyms.synonym_faults.Given as goal

abbrev pub invariant-decls : goal.invariant-decls
invariant-decls l = IsOnce l.names → Adds l.initial.faults.items l.faults.items (IsMarkedFault l.names l.marks.items (take l.decl-index l.program.decls))
