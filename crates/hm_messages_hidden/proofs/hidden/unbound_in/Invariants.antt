use Rattle.std.proofs.Common.{All}
use Rattle.hm_messages_hidden.specs.Hidden.{IsOutOfScope}
use Rattle.hm_messages_hidden.proofs.hidden.unbound_in.Given as goal

abbrev pub invariant-loop-fault : goal.invariant-loop-fault
invariant-loop-fault l = All (λ n. IsOutOfScope l.faults n.now) l.names.items
