use Rattle.std.proofs.Common.{◌++◌, List, map, take}
use Rattle.hm_names.specs.Described.{ConstructorDescription, declared_constructors}
use Rattle.hm_scope_tables.specs.KnownTables.{known_arity, KnowsConstructors}
use Rattle.hm_scope_entities.proofs.FirstDescriptions.{described_more, declared_constructors_join}
use Rattle.hm_scope_entities.proofs.tables.add_declared_constructors.Goals as goal

pub decls-preserved : goal.decls-preserved
decls-preserved c = λ before known.
    let home = c.args.home.now in
    described_more (declared_constructors home) (declared_constructors_join home) (λ (ds : List ConstructorDescription). KnowsConstructors ds (map known_arity c.add_constructors_of.new.constructors.entries))
    before c.args.decls.now c.decls.decl-index c.decl-item.result c.decls-test.true c.decl-item.is
    (c.in_ok-add_constructors_of.ensures (before ++ declared_constructors home (take c.decls.decl-index c.args.decls.now)) (c.decls.invariant before known))
