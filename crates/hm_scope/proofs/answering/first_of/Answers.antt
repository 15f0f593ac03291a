use Rattle.std.proofs.Common.{true, false, sym, length}
use Rattle.std.specs.Vec.{vec_len}
use Rattle.hm_scope.proofs.PhasesInOrder.{chosen}
use Rattle.hm_scope.proofs.answering.first_of.Goals as goal

pub returns-then-is_empty : goal.returns-then-is_empty
returns-then-is_empty c = chosen _ true (length c.args.first.items) (vec_len c.args.first) c.args.first.items c.args.second.items (sym c.args.first.ok.0) c.is_empty.ensures c.if-is_empty.true

pub returns : goal.returns
returns c = chosen _ false (length c.args.first.items) (vec_len c.args.first) c.args.first.items c.args.second.items (sym c.args.first.ok.0) c.is_empty.ensures c.if-is_empty.false
