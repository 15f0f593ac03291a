use Rattle.std.proofs.Common.{◌-◌, length}
use Rattle.hm_lex.proofs.StringScan.{IsStringScan}
use Rattle.hm_lex.proofs.quotes.string_rest_len.Given as goal

abbrev pub invariant-loop-at : goal.invariant-loop-at
invariant-loop-at l = IsStringScan l.bytes l.at

abbrev pub decreases-loop-at : goal.decreases-loop-at
decreases-loop-at l = length l.bytes - l.at
