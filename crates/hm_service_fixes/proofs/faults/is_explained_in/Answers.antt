use Rattle.std.proofs.Common.{length}
use Rattle.hm_service_fixes.specs.Steps.{IsExplainedAt}
use Rattle.hm_service_fixes.proofs.Explained.{explained_from, none_below, not_explained}
use Rattle.hm_service_fixes.proofs.faults.is_explained_in.Goals as goal

pub returns-then-is_explained_between-clause-yes : goal.returns-then-is_explained_between-clause-yes
returns-then-is_explained_between-clause-yes c = λ _.
    explained_from c.args.replaced c.args.later.now.fault.now c.args.found.now c.args.later.now.index (c.is_explained_between.ensures.yes c.if-is_explained_between.true)

pub returns-clause-yes : goal.returns-clause-yes
returns-clause-yes c = λ set.
    explained_from c.args.replaced c.args.later.now.fault.now c.args.found.now 0 (c.is_explained_between-2.ensures.yes set)

pub returns-clause-no : goal.returns-clause-no
returns-clause-no c = λ clear.
    let r = c.args.replaced in
    let g = c.args.later.now.fault.now in
    let found = c.args.found.now in
    not_explained r g found (none_below (IsExplainedAt r g found) (length found) (c.is_explained_between-2.ensures.no clear))
