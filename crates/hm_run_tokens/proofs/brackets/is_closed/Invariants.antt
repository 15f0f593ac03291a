use Rattle.std.proofs.Common.{◌≡◌, ◌≤◌, take}
use Rattle.hm_run_tokens.specs.Depths.{token_depth}
use Rattle.hm_run_tokens.proofs.brackets.is_closed.Given as goal

abbrev pub invariant-tokens : goal.invariant-tokens
invariant-tokens l = (l.depth ≡ token_depth l.text 0 (take l.number l.tokens)) × (l.depth ≤ l.number)
