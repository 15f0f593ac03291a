use Rattle.hm_unify.proofs.Follow.{not_a_variable, variable_alike, prepared_left, prepared_right, prepared_both}
use Rattle.hm_unify.proofs.Work.{Compares_swap, advances_compared, advances_parts, advances_differ}
use Rattle.hm_unify.proofs.steps.next_step.Goals as goal

pub returns-in-Var : goal.returns-in-Var
returns-in-Var c =
    advances_compared _ _ _ _ (prepared_left c.requires.triangular _ _ _ c.follow-first.result.now c.in-Var.variable c.follow-first.ensures c.in-Var.is c.in_ok-apply.ensures) _ c.bind.ensures

pub returns-in-Var-follow : goal.returns-in-Var-follow
returns-in-Var-follow c =
    advances_compared _ _ _ _ (prepared_right c.requires.triangular _ _ _ c.follow.result.now c.in-Var-follow.variable c.follow.ensures c.in-Var-follow.is c.in_ok-resolve.ensures) _
    (Compares_swap _ _ _ c.bind-in-Var-follow.ensures)

pub returns-then-branch : goal.returns-then-branch
returns-then-branch c =
    let first = not_a_variable c.follow-first.result.now c.in_default.not-Var in
    let followed = not_a_variable c.follow.result.now c.in_default-follow.not-Var in
    let second = variable_alike _ _ _ _ c.requires.triangular c.follow.ensures c.in_ok-second.ensures followed in
    advances_parts _ _ _ _ (prepared_both c.requires.triangular _ _ _ _ _ _ c.follow-first.ensures first c.follow.ensures followed c.follow-first.ensures c.in_ok-second.ensures) _ first second
    (c.in_ok-push_pair.ensures.leaves c.if-branch.true) (c.in_ok-push_pair.ensures.lighter c.if-branch.true first second)

pub returns : goal.returns
returns c =
    let first = not_a_variable c.follow-first.result.now c.in_default.not-Var in
    let followed = not_a_variable c.follow.result.now c.in_default-follow.not-Var in
    advances_differ _ _ _ _ (prepared_both c.requires.triangular _ _ _ _ _ _ c.follow-first.ensures first c.follow.ensures followed c.follow-first.ensures c.in_ok-second.ensures)
    (c.in_ok-push_pair.ensures.differ c.if-branch.false)
