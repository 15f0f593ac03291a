use Rattle.std.proofs.Common.{rules}
use Rattle.hm_parse_descent.proofs.MarkLoops.{marks_end}
use Rattle.hm_parse_descent.proofs.cursor.Parser.commas.Goals as goal

pub returns : goal.returns
returns c = marks_end c.marks.commas c.marks.self c.args.self.now c.marks.invariant.count c.marks.invariant.rest (search rules) c.marks.invariant.few
