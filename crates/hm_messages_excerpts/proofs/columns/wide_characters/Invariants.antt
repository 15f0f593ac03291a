use Rattle.std.proofs.Common.{◌≡◌, ◌≤◌, count_by, nat_le, take}
use Rattle.hm_messages_excerpts.proofs.columns.wide_characters.Given as goal

abbrev pub invariant-loop-byte : goal.invariant-loop-byte
invariant-loop-byte l = record {
  counted : l.count ≡ count_by (nat_le 0xF0) (take l.byte-index l.text);
  few : l.count ≤ l.byte-index;
}
