use Rattle.std.proofs.Common.{◌≡◌, ◌≤◌, ◌+◌, ◌-◌, length, take}
use Rattle.hm_lex.specs.Cut.{place_after}
use Rattle.hm_messages_excerpts.specs.Lines.{AreLinesBefore}
use Rattle.hm_messages_excerpts.proofs.lines.spans_of.Given as goal

abbrev pub invariant-loop-start : goal.invariant-loop-start
invariant-loop-start l = record {
  within : l.start ≤ length l.source + 1;
  lines : AreLinesBefore l.source l.spans.items l.start;
  line : l.start ≤ length l.source → (place_after (take l.start l.source)).line ≡ length l.spans.items + 1;
  column : l.start ≤ length l.source → (place_after (take l.start l.source)).column ≡ 1;
}

abbrev pub decreases-loop-start : goal.decreases-loop-start
decreases-loop-start l = length l.source + 1 - l.start
