use Rattle.std.proofs.Common.{All, take}
use Rattle.hm_service_stand_ins.specs.Missed.{IsSkipOf}
use Rattle.hm_service_stand_ins.proofs.missed.is_of_skipped.Given as goal

abbrev pub invariant-notes : goal.invariant-notes
invariant-notes l = All (λ e. ¬ (IsSkipOf l.number l.diagnostic e)) (take l.note-index l.said.told.now)
