use Rattle.std.proofs.Common.{◌++◌, List, map, take, Bor}
use Rattle.hm_types.specs.Interfaces.{Exports as Interface}
use Rattle.hm_names.specs.Described.{ConstructorDescription, imported_constructors}
use Rattle.hm_scope_tables.specs.KnownTables.{known_arity, KnowsConstructors}
use Rattle.hm_scope_entities.proofs.FirstDescriptions.{described_more, imported_constructors_join, one_more_row}
use Rattle.hm_scope_entities.proofs.tables.add_imported_constructors.Goals as goal

pub interfaces-preserved : goal.interfaces-preserved
interfaces-preserved c = λ before known.
    let f = c.interface-item.result.now in
    let so_far = before ++ imported_constructors (map (λ (g : Bor Interface). g.now) (take c.interfaces.interface-index c.args.interfaces.now)) in
    let row = c.in_ok-add_constructor_entries.ensures so_far (c.interfaces.invariant before known) in
    described_more (λ (fs : List (Bor Interface)). imported_constructors (map (λ g. g.now) fs)) imported_constructors_join
    (λ (ds : List ConstructorDescription). KnowsConstructors ds (map known_arity c.add_constructor_entries.new.constructors.entries))
    before c.args.interfaces.now c.interfaces.interface-index c.interface-item.result c.interfaces-test.true c.interface-item.is
    (one_more_row (λ (ds : List ConstructorDescription). KnowsConstructors ds (map known_arity c.add_constructor_entries.new.constructors.entries)) so_far f (rw c.constructors.ensures.value at row))
