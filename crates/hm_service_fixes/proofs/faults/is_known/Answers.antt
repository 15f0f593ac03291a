use Rattle.std.proofs.Common.{◌<◌, ℕ, subst, sym}
use Rattle.hm_service_fixes.specs.Steps.{IsKnownFrom}
use Rattle.hm_service_fixes.specs.Views.{judged_of}
use Rattle.hm_service_fixes.proofs.Explained.{known_from, none_below, not_known}
use Rattle.hm_service_fixes.proofs.faults.is_known.Goals as goal

pub returns-then-is_known_between-clause-yes : goal.returns-then-is_known_between-clause-yes
returns-then-is_known_between-clause-yes c = λ _.
    known_from (judged_of c.args.before.now) c.args.change.now c.args.later.now.name.now c.args.later.now.fault.now c.args.near c.count_of-count.result (c.is_known_between.ensures.yes c.if-is_known_between.true)

pub returns-clause-yes : goal.returns-clause-yes
returns-clause-yes c = λ set.
    known_from (judged_of c.args.before.now) c.args.change.now c.args.later.now.name.now c.args.later.now.fault.now 0 c.count_of-count.result (c.is_known_between-2.ensures.yes set)

pub returns-clause-no : goal.returns-clause-no
returns-clause-no c = λ clear.
    let before = judged_of c.args.before.now in
    let change = c.args.change.now in
    let x = c.args.later.now.name.now in
    let g = c.args.later.now.fault.now in
    let count = c.count_of-count.result in
    not_known before change x g c.if-not-before.false
    (λ k low. none_below (IsKnownFrom before change x g) count (c.is_known_between-2.ensures.no clear) k (subst (λ (n : ℕ). k < n) (sym c.count_of-count.ensures) low))
