use Rattle.std.proofs.Common.{◌≡◌, drop}
use Rattle.hm_messages_hints.specs.LexemeHints.{goes_on, is_left_open}
use Rattle.hm_messages_hints.proofs.lexeme_hints.is_left_open.Given as goal

abbrev pub invariant-bytes : goal.invariant-bytes
invariant-bytes l = is_left_open l.line ≡ goes_on l.part (drop l.at l.line)
