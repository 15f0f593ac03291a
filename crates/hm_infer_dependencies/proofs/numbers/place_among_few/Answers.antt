use Rattle.std.proofs.Common.{◌<◌, length, get_or, Option, None, arith}
use Rattle.std.proofs.lemmas.List.{get_or_default}
use Rattle.hm_names_keys.specs.declared.lent_names.LentName.{LentName}
use Rattle.std.proofs.lemmas.Bool.{both_ways}
use Rattle.hm_names_keys.specs.Keys.{variable_of_key}
use Rattle.hm_infer_dependencies.proofs.Numberings.{no_node, none_more, none_of_few, found_here}
use Rattle.hm_infer_dependencies.proofs.numbers.place_among_few.Goals as goal

pub nodes-init : goal.nodes-init
nodes-init c = no_node (variable_of_key c.args.key.now)

pub returns-then-is_node : goal.returns-then-is_node
returns-then-is_node c =
    let inside : c.nodes.number < length c.args.nodes.now = omega (arith, c.nodes-test.true, c.min-count.ensures) in
    let d : Option LentName = get_or c.args.nodes.now c.nodes.number None in
    found_here c.args.nodes.now c.nodes.number d (variable_of_key c.args.key.now) inside (get_or_default c.args.nodes.now c.nodes.number None d inside) (c.is_node.ensures.0 c.if-is_node.true)

pub nodes-preserved : goal.nodes-preserved
nodes-preserved c =
    let inside : c.nodes.number < length c.args.nodes.now = omega (arith, c.nodes-test.true, c.min-count.ensures) in
    let d : Option LentName = get_or c.args.nodes.now c.nodes.number None in
    none_more c.args.nodes.now c.nodes.number d (variable_of_key c.args.key.now) inside (get_or_default c.args.nodes.now c.nodes.number None d inside) c.nodes.invariant (λ same. both_ways c.is_node.result c.if-is_node.false (c.is_node.ensures.1 same))

pub returns : goal.returns
returns c = none_of_few c.args.nodes.now c.nodes.number c.min-count.result (variable_of_key c.args.key.now) c.min-count.ensures c.nodes.auto.number-end c.nodes-test.false c.nodes.invariant
