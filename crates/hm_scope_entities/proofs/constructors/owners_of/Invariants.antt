use Rattle.std.proofs.Common.{◌++◌, take, map}
use Rattle.hm_names.specs.Described.{declared_constructors, imported_constructors}
use Rattle.hm_scope_entities.specs.Owners.{IsOwners}
use Rattle.hm_scope_entities.proofs.constructors.owners_of.Given as goal

abbrev pub invariant-loop-interface : goal.invariant-loop-interface
invariant-loop-interface l = IsOwners (declared_constructors l.program.header.name.text l.program.decls ++ imported_constructors (map (λ f. f.now) (take l.interface-index l.interfaces))) l.owners
