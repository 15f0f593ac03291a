use Rattle.std.proofs.Common.{◌++◌, List, map, take}
use Rattle.hm_names.specs.Described.{TypeDescription, declared_types}
use Rattle.hm_scope_tables.specs.KnownTables.{known_arity, KnowsTypes}
use Rattle.hm_scope_entities.proofs.FirstDescriptions.{described_more, declared_types_join}
use Rattle.hm_scope_entities.proofs.tables.add_declared_types.Goals as goal

pub decls-preserved : goal.decls-preserved
decls-preserved c = λ before ss known.
    let home = c.args.home.now in
    described_more (declared_types home) (declared_types_join home) (λ (ds : List TypeDescription). KnowsTypes ds (map known_arity c.add_declared_type.new.types.entries) ss)
    before c.args.decls.now c.decls.decl-index c.decl-item.result c.decls-test.true c.decl-item.is
    (c.in_ok-add_declared_type.ensures (before ++ declared_types home (take c.decls.decl-index c.args.decls.now)) ss (c.decls.invariant before ss known))
