use Rattle.std.proofs.Common.{take}
use Rattle.hm_names.specs.Bindings.{Adds}
use Rattle.hm_names.proofs.AddedPairs.{ForEach}
use Rattle.hm_uses_declarations.specs.Candidates.{IsCandidate}
use Rattle.hm_uses_declarations.proofs.candidates.add_candidates.Given as goal

abbrev pub invariant-pairs : goal.invariant-pairs
invariant-pairs l = Adds l.initial.found.items l.found.items (ForEach (IsCandidate l.space l.name) (take l.pair-index l.pairs))
