use Rattle.std.proofs.Common.{List, ◌++◌, map, take}
use Rattle.hm_names.specs.Described.{ConstructorDescription}
use Rattle.hm_scope_entities.specs.Owners.{IsOwners}
use Rattle.hm_scope_entities.proofs.constructors.note_exported.Given as goal

abbrev pub invariant-loop-entry : goal.invariant-loop-entry
invariant-loop-entry l = (ds : List ConstructorDescription) → IsOwners ds l.initial.owners → IsOwners (ds ++ map (λ r. record { entity = r.entity; owner = r.owner; arguments = r.arguments }) (take l.entry-index l.entries)) l.owners
