use Rattle.hm_types_prelude.proofs.Tabled.{read_more}
use Rattle.hm_types_prelude.proofs.polish.read.Goals as goal

pub loop-part-preserved : goal.loop-part-preserved
loop-part-preserved c = read_more _ _ _ _ _ _ c.in-Some.ensures.steps c.loop-part.invariant c.in_ok-put.ensures
