use Rattle.std.proofs.Common.{◌++◌, List, map, take, Bor}
use Rattle.hm_types.specs.Interfaces.{Exports as Interface}
use Rattle.hm_names.specs.Described.{TypeDescription, imported_types}
use Rattle.hm_scope_tables.specs.KnownTables.{known_arity, known_imported, type_description, KnowsTypes}
use Rattle.hm_scope_entities.proofs.FirstDescriptions.{described_more, imported_types_join, two_more}
use Rattle.hm_scope_entities.proofs.tables.add_imported_types.Goals as goal

pub interfaces-preserved : goal.interfaces-preserved
interfaces-preserved c = λ before known.
    let f = c.interface-item.result.now in
    let so_far = before ++ imported_types (map (λ (g : Bor Interface). g.now) (take c.interfaces.interface-index c.args.interfaces.now)) in
    let types = c.in_ok-add_types.ensures so_far (map known_imported c.interfaces.synonyms.entries) (c.interfaces.invariant before known) in
    let both = c.in_ok-add_synonyms.ensures (so_far ++ map type_description f.types) (rw c.types.ensures.value at types) in
    described_more (λ (fs : List (Bor Interface)). imported_types (map (λ g. g.now) fs)) imported_types_join
    (λ (ds : List TypeDescription). KnowsTypes ds (map known_arity c.add_synonyms.new.types.entries) (map known_imported c.add_synonyms.new.synonyms.entries))
    before c.args.interfaces.now c.interfaces.interface-index c.interface-item.result c.interfaces-test.true c.interface-item.is
    (two_more (λ (ds : List TypeDescription). KnowsTypes ds (map known_arity c.add_synonyms.new.types.entries) (map known_imported c.add_synonyms.new.synonyms.entries)) so_far f (rw c.synonyms.ensures.value at both))
