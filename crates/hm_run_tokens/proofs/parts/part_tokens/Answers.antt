use Rattle.hm_run_tokens.proofs.Lines.{all_placed}
use Rattle.hm_run_tokens.proofs.parts.part_tokens.Goals as goal

pub move_after-requires-clause-within : goal.move_after-requires-clause-within
move_after-requires-clause-within c = all_placed c.args.part.now c.in-Ok.own.items c.in-Ok.ensures.tokens
