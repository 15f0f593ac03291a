use Rattle.std.proofs.Common.{◌≤◌, length}
use Rattle.hm_messages_lexemes.proofs.Chains.{IsReached}
use Rattle.hm_messages_lexemes.proofs.later.later_lexemes.Given as goal

abbrev pub invariant-faults : goal.invariant-faults
invariant-faults l = record {
  reached : IsReached l.source l.fn.place l.places.items l.text.items l.last;
  count : length l.places.items ≤ l.counter;
}
