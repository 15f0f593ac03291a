use Rattle.std.proofs.Common.{◌≡◌, ◌∙◌, ap, sym}
use Rattle.hm_service_fixes.specs.Steps.{IsFine}
use Rattle.hm_service_fixes.specs.Views.{judged_of, status_of}
use Rattle.hm_service_fixes.proofs.Verdicts.{by_verdict, of_verdict}
use Rattle.hm_service_fixes.proofs.faults.is_fine_at.Goals as goal
use Rattle.hm_verdicts.specs.Reports.{name_of_module}
use Rattle.hm_verdicts.specs.Verdicts.{Failed}

pub returns-in-Failed-clause-yes : goal.returns-in-Failed-clause-yes
returns-in-Failed-clause-yes c = λ set own found failed.
    let after = judged_of c.args.after.now in
    let i = c.args.number in
    let mine : after.status i ≡ Failed c.in-Failed.found.now = sym c.settled_at.ensures ∙ ap status_of c.in-Failed.is in
    by_verdict (IsFine (judged_of c.args.before.now) c.args.change.now) c.name_of-name.result.now (name_of_module after.set i) (after.status i) c.as_slice.result.now c.in-Failed.found.now found c.name_of-name.ensures c.as_slice.ensures mine failed
    (c.are_fine.ensures.yes set)

pub returns-in-Failed-clause-no : goal.returns-in-Failed-clause-no
returns-in-Failed-clause-no c = λ clear all.
    let after = judged_of c.args.after.now in
    let i = c.args.number in
    let mine : after.status i ≡ Failed c.in-Failed.found.now = sym c.settled_at.ensures ∙ ap status_of c.in-Failed.is in
    c.are_fine.ensures.no clear
    (of_verdict (IsFine (judged_of c.args.before.now) c.args.change.now) c.name_of-name.result.now (name_of_module after.set i) (after.status i) c.as_slice.result.now c.in-Failed.found.now c.name_of-name.ensures c.as_slice.ensures mine
    (all (c.is_in.ensures.yes c.if-not-is_in.false)))
