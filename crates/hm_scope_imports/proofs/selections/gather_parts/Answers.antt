use Rattle.std.proofs.Common.{◌≡◌}
use Rattle.hm_syntax.specs.Names.{Identifier}
use Rattle.hm_scope_tables.specs.NameSets.{FullName}
use Rattle.hm_scope_imports.specs.Gathered.{bare, IsOwned}
use Rattle.hm_names.specs.declared.namespace.Namespace.TheVariants.{Constructors}
use Rattle.hm_names.proofs.AddedPairs.{for_more, for_all}
use Rattle.hm_scope_imports.proofs.selections.gather_parts.Goals as goal

pub loop-part-preserved : goal.loop-part-preserved
loop-part-preserved c = for_more (λ (k : Identifier) (n : FullName). IsOwned c.args.interface.now c.args.owner.now k.text × (n ≡ bare Constructors k.text)) c.args.names.now c.loop-part.names c.gather_part.new.names c.args.parts.now c.loop-part.part-index c.part-item.result c.loop-part-test.true c.part-item.is c.loop-part.invariant c.in_ok-gather_part.ensures

pub returns : goal.returns
returns c = for_all (λ (k : Identifier) (n : FullName). IsOwned c.args.interface.now c.args.owner.now k.text × (n ≡ bare Constructors k.text)) c.args.names.now c.loop-part.names c.args.parts.now c.loop-part.part-index c.loop-part-test.false c.loop-part.invariant
