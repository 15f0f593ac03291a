use Rattle.hm_unify.proofs.Outer.{occurrence_is_tested, outer_is_tested}
use Rattle.hm_unify.proofs.laws.levels.Goals as goal

pub returns-clause-occurrence : goal.returns-clause-occurrence
returns-clause-occurrence c = occurrence_is_tested

pub returns-clause-outer : goal.returns-clause-outer
returns-clause-outer c = outer_is_tested
