use Rattle.std.proofs.Common.{◌≡◌, ◌+◌, ◌≤◌, take}
use Rattle.hm_lex.specs.Cut.{place_after}
use Rattle.hm_messages_lexemes.proofs.later.offset_of.Given as goal

abbrev pub invariant-bytes : goal.invariant-bytes
invariant-bytes l = record {
  lines : l.here.line ≤ 1 + l.at;
  columns : l.here.column ≤ 1 + l.at;
  at_place : l.here ≡ place_after (take l.at l.text);
}
