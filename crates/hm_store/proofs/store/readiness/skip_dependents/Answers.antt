use Rattle.std.proofs.Common.{◌<◌, ◌≤◌, Bool, List, false, get_or, length, sym, ap, ◌∙◌, arith}
use Rattle.hm_store.specs.Objects.{skip_all}
use Rattle.hm_store.specs.Reaching.{below}
use Rattle.hm_store.proofs.DependentLists.{marked_list, no_list}
use Rattle.hm_store.proofs.store.readiness.skip_dependents.Goals as goal

pub returns-then-number-len-clause-skipped : goal.returns-then-number-len-clause-skipped
returns-then-number-len-clause-skipped c =
    let inside : c.args.number < length c.args.plan.now = omega (arith, c.if-number-len.true, c.len.ensures) in
    let list = marked_list c.args.plan.now c.find.new.self c.args.number inside (c.find.ensures.len ∙ c.requires) c.find.ensures.marks in
    c.skip_marked.ensures ∙ (ap (λ (xs : List Bool). skip_all c.args.statuses.now (below (λ k. get_or xs k false) (length xs))) c.marks.ensures ∙ ap (skip_all c.args.statuses.now) list)

pub returns-else-number-len-clause-skipped : goal.returns-else-number-len-clause-skipped
returns-else-number-len-clause-skipped c =
    let past : length c.args.plan.now ≤ c.args.number = omega (arith, c.if-number-len.false, c.len.ensures) in
    sym (ap (skip_all c.args.statuses.now) (no_list c.args.plan.now c.args.number past))
