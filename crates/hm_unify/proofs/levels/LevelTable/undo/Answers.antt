use Rattle.std.proofs.Common.{◌∙◌, arith}
use Rattle.hm_unify.proofs.LevelTables.{undo_within, undo_rest, undo_same}
use Rattle.hm_unify.proofs.levels.LevelTable.undo.Goals as goal

pub index_mut-requires : goal.index_mut-requires
index_mut-requires c =
    omega (arith, c.loop-change.self.levels.ok.0, undo_within _ _ c.in-Some.change c.loop-change.self.levels.items c.in-Some.ensures.items c.loop-change.invariant.within)

pub loop-change-preserved : goal.loop-change-preserved
loop-change-preserved c = record {
  same = λ n. undo_same _ _ c.in-Some.change c.loop-change.self.levels.items n c.in-Some.ensures.items c.loop-change.invariant.within ∙ c.loop-change.invariant.same n;
  within = undo_rest _ _ c.in-Some.change c.loop-change.self.levels.items c.in-Some.ensures.items c.loop-change.invariant.within;
}
