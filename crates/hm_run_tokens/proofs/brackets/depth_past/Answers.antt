use Rattle.std.proofs.Common.{sym}
use Rattle.hm_run_tokens.proofs.BracketDepths.{longer_text}
use Rattle.hm_run_tokens.proofs.brackets.depth_past.Goals as goal

pub returns-then-token-ne1-clause-depth : goal.returns-then-token-ne1-clause-depth
returns-then-token-ne1-clause-depth c = sym (longer_text c.args.text.now c.args.token c.requires.lies c.args.depth c.if-token-ne1.true)
