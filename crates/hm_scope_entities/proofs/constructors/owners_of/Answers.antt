use Rattle.std.proofs.Common.{List, [], ◌++◌, map, subst, Bor}
use Rattle.std.proofs.lemmas.List.{take_all}
use Rattle.hm_types.specs.Interfaces.{Exports as Interface}
use Rattle.hm_names.specs.Described.{declared_constructors, imported_constructors}
use Rattle.hm_scope_entities.specs.Owners.{IsOwners}
use Rattle.hm_scope_entities.proofs.OwnerTables.{imported_more, imported_none, no_owners}
use Rattle.hm_scope_entities.proofs.constructors.owners_of.Goals as goal

pub loop-interface-init : goal.loop-interface-init
loop-interface-init c = imported_none _ c.args.interfaces.now c.note_declared.new.owners (c.in_ok-note_declared.ensures [] (no_owners c.new-owners.result c.new-owners.ensures.empty))

pub loop-interface-preserved : goal.loop-interface-preserved
loop-interface-preserved c = imported_more _ c.args.interfaces.now c.loop-interface.interface-index c.interface-item.result c.note_exported.new.owners c.loop-interface-test.true c.interface-item.is
    (rw c.constructors.ensures.value at c.in_ok-note_exported.ensures _ c.loop-interface.invariant)

pub returns : goal.returns
returns c = subst (λ (l : List (Bor Interface)). IsOwners (declared_constructors c.args.program.now.header.name.text c.args.program.now.decls ++ imported_constructors (map (λ f. f.now) l)) c.loop-interface.owners) (take_all c.loop-interface.interface-index c.args.interfaces.now c.loop-interface-test.false) c.loop-interface.invariant
