use Rattle.std.proofs.Common.{◌≡◌, ◌+◌, ◌≤◌, take}
use Rattle.hm_lex.specs.Cut.{place_after}
use Rattle.hm_messages_changes.proofs.places.place_after_all.Given as goal

abbrev pub invariant-loop-byte : goal.invariant-loop-byte
invariant-loop-byte l = record {
  lines : l.place.line ≤ 1 + l.byte-index;
  columns : l.place.column ≤ 1 + l.byte-index;
  at_place : l.place ≡ place_after (take l.byte-index l.text);
}
