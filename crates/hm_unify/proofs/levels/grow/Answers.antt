use Rattle.std.proofs.Common.{◌∙◌, arith}
use Rattle.hm_unify.proofs.LevelTables.{level_push, longer_push}
use Rattle.hm_unify.proofs.levels.grow.Goals as goal

pub loop-levels-preserved : goal.loop-levels-preserved
loop-levels-preserved c = record {
  same = λ n. level_push c.loop-levels.levels.items _ c.len-next.result n c.in_ok-push.ensures.items (omega (arith, c.len-next.ensures, c.loop-levels.levels.ok.0)) ∙ c.loop-levels.invariant.same n;
  longer = longer_push c.loop-levels.levels.items _ _ _ c.in_ok-push.ensures.items c.loop-levels.invariant.longer;
}
