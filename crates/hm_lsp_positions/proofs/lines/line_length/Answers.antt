use Rattle.hm_lsp_positions.proofs.Starts.{length_found, length_whole}
use Rattle.hm_lsp_positions.proofs.lines.line_length.Goals as goal

pub returns-in-Some-clause-value : goal.returns-in-Some-clause-value
returns-in-Some-clause-value c = length_found c.args.text.now _ c.in-Some.ensures

pub returns-in-None-clause-value : goal.returns-in-None-clause-value
returns-in-None-clause-value c = length_whole c.args.text.now c.in-None.ensures
