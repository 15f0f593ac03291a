use Rattle.std.proofs.Common.{◌≡◌, ℕ, List, [], ◌∷◌, ◌++◌, length}
use Rattle.std.specs.List.{flat_map}
use Rattle.hm_build_reports.specs.Rounds.{IsWorked, Left, deeds, round}
use Rattle.hm_build_reports.proofs.RoundSteps.{IsTail}
use Rattle.hm_build_reports.proofs.rounds.is_in_rounds.Given as goal

abbrev pub invariant-rounds : goal.invariant-rounds
invariant-rounds l = record {
  onward : (ms : List ℕ) → deeds l.left ≡ flat_map (round l.plan) ms ++ (Left ∷ []) → IsWorked l.plan l.log.calls.items;
  back : IsWorked l.plan l.log.calls.items → IsTail l.plan (deeds l.left);
}

abbrev pub decreases-rounds : goal.decreases-rounds
decreases-rounds l = length l.left
