use Rattle.std.proofs.Common.{refl, ap}
use Rattle.hm_unify.specs.LevelTables.{level_before}
use Rattle.hm_unify.proofs.LevelTables.{lower_same, lower_within, within_more}
use Rattle.hm_unify.proofs.levels.LevelTable.lower.Goals as goal

pub returns-in_err-grow-clause-continued : goal.returns-in_err-grow-clause-continued
returns-in_err-grow-clause-continued c = record {
  same = λ n. ap (level_before c.args.self.now.changes.items n) (c.in_err-grow.ensures.same n);
  within = λ w. within_more _ _ c.args.self.now.changes.items c.in_err-grow.ensures.longer w;
}

pub returns-in_err-push-clause-continued : goal.returns-in_err-push-clause-continued
returns-in_err-push-clause-continued c = record {
  same = λ n. rw c.in_err-push.ensures.items (ap (level_before c.args.self.now.changes.items n) (c.in_ok-grow.ensures.same n));
  within = λ w. rw c.in_err-push.ensures.items (within_more _ _ c.args.self.now.changes.items c.in_ok-grow.ensures.longer w);
}

pub returns-clause-continued : goal.returns-clause-continued
returns-clause-continued c =
    let xs = c.args.self.now.levels.items in
    let ys = c.grow.new.levels.items in
    let cs = c.args.self.now.changes.items in
    record {
      same = λ m. rw c.in_ok-push.ensures.items (lower_same xs ys c.args.number c.args.level c.of-before.result c.of-before.ensures c.in_ok-grow.ensures.same c.in_ok-grow.ensures.room cs _ m refl refl);
      within = λ w. rw c.in_ok-push.ensures.items (lower_within xs ys c.args.number c.args.level c.of-before.result c.of-before.ensures c.in_ok-grow.ensures.same c.in_ok-grow.ensures.room cs _ refl (within_more _ _ cs c.in_ok-grow.ensures.longer w));
    }
