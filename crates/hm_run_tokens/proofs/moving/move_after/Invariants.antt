use Rattle.std.proofs.Common.{◌≡◌, ◌++◌, take, drop, map}
use Rattle.hm_run_tokens.specs.Parts.{moved}
use Rattle.hm_run_tokens.proofs.moving.move_after.Given as goal

abbrev pub invariant-tokens : goal.invariant-tokens
invariant-tokens l = l.moved.items ≡ map (moved l.lines) (take l.number l.fn.tokens.items) ++ drop l.number l.fn.tokens.items
