use Rattle.std.proofs.Common.{◌≡◌, ◌++◌, replicate}
use Rattle.hm_messages_excerpts.proofs.drawing.add_copies.Given as goal

abbrev pub invariant-loop : goal.invariant-loop
invariant-loop l = l.text.items ≡ l.initial.text.items ++ replicate l.counter l.byte
