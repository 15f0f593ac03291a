use Rattle.hm_lsp_frames.proofs.Ends.{last_found}
use Rattle.hm_lsp_frames.proofs.looking.last_length.Goals as goal

pub returns-clause-value : goal.returns-clause-value
returns-clause-value c = last_found c.args.header.now c.rfind.result c.rfind.ensures
