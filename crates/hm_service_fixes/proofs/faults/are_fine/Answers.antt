use Rattle.std.proofs.Common.{sym}
use Rattle.hm_service_fixes.specs.Steps.{IsFine}
use Rattle.hm_service_fixes.specs.Views.{judged_of}
use Rattle.hm_service_fixes.proofs.Explained.{fine_all, fine_more}
use Rattle.hm_service_fixes.proofs.faults.are_fine.Goals as goal

pub returns-then-not-is_fine-clause-no : goal.returns-then-not-is_fine-clause-no
returns-then-not-is_fine-clause-no c = λ _ all.
    c.is_fine.ensures.no c.if-not-is_fine.true (all c.index-found-index.result (c.faults.index, c.faults-test.true, sym c.index-found-index.is))

pub faults-preserved : goal.faults-preserved
faults-preserved c =
    fine_more (IsFine (judged_of c.args.before.now) c.args.change.now c.args.name.now) c.args.found.now c.faults.index c.index-found-index.result c.faults-test.true c.index-found-index.is
    (c.is_fine.ensures.yes c.if-not-is_fine.false) c.faults.invariant

pub returns-clause-yes : goal.returns-clause-yes
returns-clause-yes c = λ _.
    fine_all (IsFine (judged_of c.args.before.now) c.args.change.now c.args.name.now) c.args.found.now c.faults.index c.faults-test.false c.faults.invariant
