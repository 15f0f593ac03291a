use Rattle.std.proofs.Common.{rules}
use Rattle.hm_lsp_frames.proofs.Looks.{look_long, look_nothing}
use Rattle.hm_lsp_frames.proofs.looking.look_long.Goals as goal

pub returns-then-held-lt-MOST_READ : goal.returns-then-held-lt-MOST_READ
returns-then-held-lt-MOST_READ c = look_nothing c.args.held.now c.requires c.if-held-lt-MOST_READ.true

pub returns : goal.returns
returns c = look_long c.args.held.now c.passed_long.result c.requires (search rules) (search rules) c.passed_long.ensures.some c.passed_long.ensures.most
