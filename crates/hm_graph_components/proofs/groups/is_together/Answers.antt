use Rattle.std.proofs.Common.{length, arith}
use Rattle.hm_graph_components.proofs.Rows.{length-row_at}
use Rattle.hm_graph_components.proofs.groups.is_together.Goals as goal

pub index-requires : goal.index-requires
index-requires c = omega (arith, c.index-table-x.result.ok.0, c.requires.y, length-row_at c.args.table.now (length c.args.table.now) c.args.x c.index-table-x.result c.requires.square c.requires.x c.index-table-x.is)

pub index-requires-then-index : goal.index-requires-then-index
index-requires-then-index c = omega (arith, c.index-table-y.result.ok.0, c.requires.x, length-row_at c.args.table.now (length c.args.table.now) c.args.y c.index-table-y.result c.requires.square c.requires.y c.index-table-y.is)
