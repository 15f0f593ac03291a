use Rattle.std.proofs.Common.{◌<◌, length, get_or, refl, rules}
use Rattle.hm_service_sources.proofs.Marked.{source_is}
use Rattle.hm_service_sources.proofs.LeftOutMarks.{adds_more}
use Rattle.hm_service_sources.proofs.left_out.add_row.Goals as goal

pub row-preserved : goal.row-preserved
row-preserved c =
    let located = c.args.located.now in
    let k = get_or c.args.row.now c.row.target-index 0 in
    let inside : k < length located = search rules in
    let from = c.index-located-target.result in
    let to = c.index-located-number.result in
    adds_more located c.args.row.now c.args.number c.row.target-index k c.args.graph.now c.row.graph c.add.new.self (get_or located k from).source (get_or located c.args.number to).source c.row-test.true refl
    (source_is located k from inside) (source_is located c.args.number to c.requires.number) c.row.invariant c.in_ok-add.ensures.added
