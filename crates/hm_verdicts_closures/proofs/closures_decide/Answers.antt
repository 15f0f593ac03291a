use Rattle.hm_verdicts_closures.proofs.SameStatus.{same_status}
use Rattle.hm_verdicts_closures.proofs.closures_decide.Goals as goal

pub returns : goal.returns
returns c = λ p q s t i j ps qs h. same_status c.one_verdict.ensures.for_interfaces p q s t ps qs i j h
