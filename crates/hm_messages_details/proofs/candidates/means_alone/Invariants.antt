use Rattle.std.proofs.Common.{All, take}
use Rattle.hm_messages_details.specs.Candidates.{MeansOnly}
use Rattle.hm_messages_details.proofs.candidates.means_alone.Given as goal

abbrev pub invariant-pairs : goal.invariant-pairs
invariant-pairs l = All (MeansOnly l.space l.qualifier l.entity) (take l.pair-index l.pairs)
