use Rattle.hm_lsp_frames.proofs.Fields.{line_found, line_whole}
use Rattle.hm_lsp_frames.proofs.headers.first_line.Goals as goal

pub returns-in-Some : goal.returns-in-Some
returns-in-Some c = line_found _ _ c.in-Some.ensures

pub returns-in-None : goal.returns-in-None
returns-in-None c = line_whole _ c.in-None.ensures
