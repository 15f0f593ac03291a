use Rattle.std.proofs.Common.{All, take}
use Rattle.hm_messages_details.specs.Candidates.{IsByPrelude}
use Rattle.hm_messages_details.proofs.candidates.are_by_prelude.Given as goal

abbrev pub invariant-pairs : goal.invariant-pairs
invariant-pairs l = All (IsByPrelude l.space l.entity) (take l.pair-index l.pairs)
