use Rattle.std.proofs.Common.{List, ◌++◌, take}
use Rattle.hm_names.specs.Described.{ConstructorDescription, declared_constructors}
use Rattle.hm_scope_entities.specs.Owners.{IsOwners}
use Rattle.hm_scope_entities.proofs.constructors.note_declared.Given as goal

abbrev pub invariant-loop-decl : goal.invariant-loop-decl
invariant-loop-decl l = (ds : List ConstructorDescription) → IsOwners ds l.initial.owners → IsOwners (ds ++ declared_constructors l.program.header.name.text (take l.decl-index l.program.decls)) l.owners
