use Rattle.std.proofs.Common.{◌++◌, List, map, take}
use Rattle.std.proofs.lemmas.List.{map-append}
use Rattle.hm_names.specs.Described.{ConstructorDescription, described}
use Rattle.hm_scope_tables.specs.KnownTables.{known_arity, KnowsConstructors}
use Rattle.hm_scope_entities.proofs.FirstDescriptions.{described_more, described_all}
use Rattle.hm_scope_entities.proofs.tables.add_constructor_row.Goals as goal

pub constrs-preserved : goal.constrs-preserved
constrs-preserved c = λ before t known.
    let home = c.args.home.now in
    described_more (map (described home t)) (map-append (described home t)) (λ (ds : List ConstructorDescription). KnowsConstructors ds (map known_arity c.add_constructor.new.constructors.entries))
    before c.args.constrs.now c.constrs.constr-index c.constr-item.result c.constrs-test.true c.constr-item.is
    (c.in_ok-add_constructor.ensures (before ++ map (described home t) (take c.constrs.constr-index c.args.constrs.now)) t (c.constrs.invariant before t known))

pub returns : goal.returns
returns c = λ before t known.
    described_all (map (described c.args.home.now t)) (λ (ds : List ConstructorDescription). KnowsConstructors ds (map known_arity c.constrs.constructors.entries))
    before c.args.constrs.now c.constrs.constr-index c.constrs-test.false (c.constrs.invariant before t known)
