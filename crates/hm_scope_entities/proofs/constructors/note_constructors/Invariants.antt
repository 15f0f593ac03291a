use Rattle.std.proofs.Common.{List, ◌++◌, map, take}
use Rattle.hm_names.specs.Described.{ConstructorDescription, described}
use Rattle.hm_scope_entities.specs.Owners.{IsOwners}
use Rattle.hm_scope_entities.proofs.constructors.note_constructors.Given as goal

abbrev pub invariant-loop-constr : goal.invariant-loop-constr
invariant-loop-constr l = (ds : List ConstructorDescription) → IsOwners ds l.initial.owners → IsOwners (ds ++ map (described l.module l.name) (take l.constr-index l.constrs)) l.owners
