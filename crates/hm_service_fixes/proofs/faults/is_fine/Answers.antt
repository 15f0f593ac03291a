use Rattle.hm_service_fixes.proofs.faults.is_fine.Goals as goal

pub returns-clause-yes : goal.returns-clause-yes
returns-clause-yes c = λ set. (c.is_still.ensures.no c.if-is_still.false, c.is_known.ensures.yes set)
