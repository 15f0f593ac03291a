use Rattle.std.proofs.Common.{◌≡◌, Contains}
use Rattle.hm_types.specs.declared.entries.ConstructorEntry.{ConstructorEntry}
use Rattle.hm_scope_tables.specs.NameSets.{FullName}
use Rattle.hm_scope_imports.specs.Gathered.{bare, type_name}
use Rattle.hm_names.specs.declared.namespace.Namespace.TheVariants.{Constructors}
use Rattle.hm_names.proofs.AddedPairs.{for_more, for_all}
use Rattle.hm_scope_imports.proofs.selections.gather_constructors.Goals as goal

pub loop-constructor-preserved : goal.loop-constructor-preserved
loop-constructor-preserved c = for_more (λ (k : ConstructorEntry) (n : FullName). Contains c.args.opened.now (type_name k.owner) × (n ≡ bare Constructors k.name)) c.args.names.now c.loop-constructor.names c.gather_constructor.new.names c.args.constructors.now c.loop-constructor.constructor-index c.constructor-item.result c.loop-constructor-test.true c.constructor-item.is c.loop-constructor.invariant c.in_ok-gather_constructor.ensures

pub returns : goal.returns
returns c = for_all (λ (k : ConstructorEntry) (n : FullName). Contains c.args.opened.now (type_name k.owner) × (n ≡ bare Constructors k.name)) c.args.names.now c.loop-constructor.names c.args.constructors.now c.loop-constructor.constructor-index c.loop-constructor-test.false c.loop-constructor.invariant
