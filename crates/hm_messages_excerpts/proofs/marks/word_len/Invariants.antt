use Rattle.std.proofs.Common.{◌≡◌, ◌+◌, ◌-◌, ◌≤◌, length, drop}
use Rattle.std.specs.List.{prefix_len}
use Rattle.hm_messages_excerpts.specs.Marks.{is_of_word}
use Rattle.hm_messages_excerpts.proofs.marks.word_len.Given as goal

abbrev pub invariant-loop-len : goal.invariant-loop-len
invariant-loop-len l = record {
  within : l.len ≤ length l.bytes;
  run : l.len + prefix_len is_of_word (drop l.len l.bytes) ≡ prefix_len is_of_word l.bytes;
}

abbrev pub decreases-loop-len : goal.decreases-loop-len
decreases-loop-len l = length l.bytes - l.len
