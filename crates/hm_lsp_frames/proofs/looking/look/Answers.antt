use Rattle.std.proofs.Common.{rules}
use Rattle.hm_lsp_frames.proofs.Looks.{look_sized}
use Rattle.hm_lsp_frames.proofs.looking.look.Goals as goal

pub returns-in-Some-length_of : goal.returns-in-Some-length_of
returns-in-Some-length_of c = look_sized c.args.held.now c.in-Some.end c.in-Some-length_of.size c.look_after.result (search rules) (search rules) c.look_after.ensures
