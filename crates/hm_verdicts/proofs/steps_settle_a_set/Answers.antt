use Rattle.hm_verdicts.specs.Laws.{StepsAreSettled, EndIsSettled, PublishedAreAskedFor}
use Rattle.hm_verdicts.proofs.AskedInterfaces.{asked_for}
use Rattle.hm_verdicts.proofs.Progress.{one_step, settled_at_end}
use Rattle.hm_verdicts.proofs.steps_settle_a_set.Goals as goal

step : StepsAreSettled
step p old new h c added = one_step p old new h c added

done : EndIsSettled
done p now status law h all = settled_at_end p law now status all h

asked : PublishedAreAskedFor
asked p now i fs law h l a = asked_for p law now h i l fs a

pub returns : goal.returns
returns c = record { step = step; asked = asked; end = done }
