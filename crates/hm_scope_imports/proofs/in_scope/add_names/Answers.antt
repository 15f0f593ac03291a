use Rattle.std.proofs.Common.{false, Bor}
use Rattle.hm_syntax.specs.Names.{Identifier}
use Rattle.hm_names.specs.Bindings.{IsPairOf}
use Rattle.hm_names.specs.Entities.{named}
use Rattle.hm_names.specs.declared.namespace.Namespace.TheVariants.{Values}
use Rattle.hm_names.proofs.AddedPairs.{for_more, for_all}
use Rattle.hm_scope_imports.proofs.in_scope.add_names.Goals as goal

pub loop-name-preserved : goal.loop-name-preserved
loop-name-preserved c =
    for_more (λ (n : Bor Identifier). IsPairOf false c.args.module_name.now Values n.now.text (named c.args.module_name.now n.now.text)) c.args.pairs.now.items c.loop-name.pairs.items c.add_own.new.pairs.items c.args.names.now c.loop-name.name-index c.name-item.result c.loop-name-test.true c.name-item.is c.loop-name.invariant c.in_ok-add_own.ensures

pub returns : goal.returns
returns c = for_all (λ (n : Bor Identifier). IsPairOf false c.args.module_name.now Values n.now.text (named c.args.module_name.now n.now.text)) c.args.pairs.now.items c.loop-name.pairs.items c.args.names.now c.loop-name.name-index c.loop-name-test.false c.loop-name.invariant
