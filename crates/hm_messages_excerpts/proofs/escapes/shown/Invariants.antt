use Rattle.std.proofs.Common.{◌≡◌, ◌-◌, ◌≤◌, ◌++◌, length, drop, string_bytes}
use Rattle.hm_messages_excerpts.specs.Escapes.{shown}
use Rattle.hm_messages_excerpts.proofs.escapes.shown.Given as goal

abbrev pub invariant-loop-start : goal.invariant-loop-start
invariant-loop-start l = record {
  within : l.start ≤ length l.bytes;
  so_far : string_bytes l.text ++ shown (drop l.start l.bytes) ≡ shown l.bytes;
}

abbrev pub decreases-loop-start : goal.decreases-loop-start
decreases-loop-start l = length l.bytes - l.start
