use Rattle.std.proofs.Common.{rules}
use Rattle.hm_lsp_positions.proofs.Starts.{next_none, next_some}
use Rattle.hm_lsp_positions.proofs.lines.next_line.Goals as goal

pub returns-then-line_length-text-clause-value : goal.returns-then-line_length-text-clause-value
returns-then-line_length-text-clause-value c = next_none c.args.text.now (search rules)

pub returns-clause-value : goal.returns-clause-value
returns-clause-value c = next_some c.args.text.now c.whole_length.result (search rules) c.whole_length.ensures.value
