use Rattle.std.proofs.Common.{◌≡◌, rules, arith, length, get_or, ◌∷◌, [], ◌++◌, ◌∙◌, ap}
use Rattle.hm_types.specs.Shape.{type_of}
use Rattle.hm_types.specs.Types.{Var as leaf}
use Rattle.hm_types.specs.Monotypes.{var}
use Rattle.hm_types.proofs.Matched.{args_smaller, item_smaller}
use Rattle.hm_unify.specs.Steps.{pendings_of}
use Rattle.hm_unify.proofs.Pairs.{pushed_right, never_heads, never_made_rigid, leaves_heads, lighter_heads, never_pairs, pairs_begin, pair_below, pairs_onward, pairs_never, pairs_end}
use Rattle.hm_unify.proofs.steps.+pairs.Goals as goal

pub push_pair-push_pairs-requires : goal.push_pair-push_pairs-requires
push_pair-push_pairs-requires t c =
    let smaller = args_smaller c.args.left.now c.in-App.head _ c.as_slice.result.now c.in-App.is c.as_slice.ensures in
    search rules

pub push_pair-returns-then-not-is_same-clause-differ : goal.push_pair-returns-then-not-is_same-clause-differ
push_pair-returns-then-not-is_same-clause-differ t c = λ _. never_heads _ _ _ _ _ _ _ c.in-App.is c.in-App-right.is (λ e. let yes = c.is_same.ensures.1 e in let not_same = c.if-not-is_same.true in absurd (cc))

pub push_pair-returns-in_ok-push_variable-in-Var-right-clause-leaves : goal.push_pair-returns-in_ok-push_variable-in-Var-right-clause-leaves
push_pair-returns-in_ok-push_variable-in-Var-right-clause-leaves t c = λ _.
    pushed_right (pendings_of c.args.work.now.items) _ (type_of c.args.left.now) c.args.right c.in-Var-right.variable c.in-Var-right.is
    (c.in_ok-push_variable-in-Var-right.ensures ∙ ap (λ u. pendings_of c.args.work.now.items ++ record { left = leaf (var c.in-Var-right.variable); right = u } ∷ []) c.in_ok-copy-in-Var-right.ensures)

pub push_pair-returns-in-Rigid-right-clause-differ : goal.push_pair-returns-in-Rigid-right-clause-differ
push_pair-returns-in-Rigid-right-clause-differ t c = λ _. never_made_rigid _ _ _ _ _ _ c.in-App.is c.in-Rigid-right.is

pub push_pair-returns-in_ok-push_pairs-in-App-right-clause-leaves : goal.push_pair-returns-in_ok-push_pairs-in-App-right-clause-leaves
push_pair-returns-in_ok-push_pairs-in-App-right-clause-leaves t c = λ fit.
    leaves_heads _ _ _ _ _ _ _ c.in-App.is c.in-App-right.is _ _ c.as_slice.ensures c.into_vec.ensures (c.is_same.ensures.0 c.if-not-is_same.false) _ (c.in_ok-push_pairs-in-App-right.ensures.as_many fit)
    (c.in_ok-push_pairs-in-App-right.ensures.leaves fit)

pub push_pair-returns-in_ok-push_pairs-in-App-right-clause-lighter : goal.push_pair-returns-in_ok-push_pairs-in-App-right-clause-lighter
push_pair-returns-in_ok-push_pairs-in-App-right-clause-lighter t c = λ fit _ _.
    lighter_heads _ _ _ _ _ _ _ c.in-App.is c.in-App-right.is _ _ c.as_slice.ensures c.into_vec.ensures (c.is_same.ensures.0 c.if-not-is_same.false) _ (c.in_ok-push_pairs-in-App-right.ensures.leaves fit)

pub push_pair-returns-in_ok-push_pairs-in-App-right-clause-differ : goal.push_pair-returns-in_ok-push_pairs-in-App-right-clause-differ
push_pair-returns-in_ok-push_pairs-in-App-right-clause-differ t c = λ no.
    never_pairs _ _ _ _ _ _ _ c.in-App.is c.in-App-right.is _ _ c.as_slice.ensures c.into_vec.ensures (c.is_same.ensures.0 c.if-not-is_same.false) (c.in_ok-push_pairs-in-App-right.ensures.differ no)

pub push_pairs-loop-right-init : goal.push_pairs-loop-right-init
push_pairs-loop-right-init t c = pairs_begin _ _ _ (search rules)

pub push_pairs-offset_bounds-lefts-len : goal.push_pairs-offset_bounds-lefts-len
push_pairs-offset_bounds-lefts-len t c =
    let below = pair_below c.loop-right.invariant c.pop.new.self.items c.in-Some.right c.in-Some.ensures.items in
    search rules

pub push_pairs-bounds-lefts-len : goal.push_pairs-bounds-lefts-len
push_pairs-bounds-lefts-len t c =
    let below = pair_below c.loop-right.invariant c.pop.new.self.items c.in-Some.right c.in-Some.ensures.items in
    search rules

pub push_pairs-push_pair-requires : goal.push_pairs-push_pair-requires
push_pairs-push_pair-requires t c =
    let below = pair_below c.loop-right.invariant c.pop.new.self.items c.in-Some.right c.in-Some.ensures.items in
    let here : c.len-in-Some.result ≡ length c.pop.new.self.items = omega (arith, c.len-in-Some.ensures, c.pop.new.self.ok.0) in
    let is = c.index-lefts-len.is ∙ ap (λ k. get_or c.args.lefts.now k c.index-lefts-len.result) here in
    let smaller = item_smaller _ _ c.index-lefts-len.result below is in
    search rules

pub push_pairs-returns-then-not-branch-clause-differ : goal.push_pairs-returns-then-not-branch-clause-differ
push_pairs-returns-then-not-branch-clause-differ t c = λ _ _.
    let here : c.len-in-Some.result ≡ length c.pop.new.self.items = omega (arith, c.len-in-Some.ensures, c.pop.new.self.ok.0) in
    let is = c.index-lefts-len.is ∙ ap (λ k. get_or c.args.lefts.now k c.index-lefts-len.result) here in
    pairs_never c.loop-right.invariant c.pop.new.self.items c.index-lefts-len.result c.in-Some.right c.in-Some.ensures.items is (c.in_ok-push_pair.ensures.differ c.if-not-branch.true)

pub push_pairs-loop-right-preserved : goal.push_pairs-loop-right-preserved
push_pairs-loop-right-preserved t c =
    let here : c.len-in-Some.result ≡ length c.pop.new.self.items = omega (arith, c.len-in-Some.ensures, c.pop.new.self.ok.0) in
    let is = c.index-lefts-len.is ∙ ap (λ k. get_or c.args.lefts.now k c.index-lefts-len.result) here in
    pairs_onward c.loop-right.invariant c.pop.new.self.items c.index-lefts-len.result c.in-Some.right c.in-Some.ensures.items is _ (c.in_ok-push_pair.ensures.leaves c.if-not-branch.false)

pub push_pairs-returns-clause-leaves : goal.push_pairs-returns-clause-leaves
push_pairs-returns-clause-leaves t c = λ _. pairs_end c.loop-right.invariant (search rules)

pub push_pair-returns-in_ok-push_rigid-in-Rigid-clause-differ : goal.push_pair-returns-in_ok-push_rigid-in-Rigid-clause-differ
push_pair-returns-in_ok-push_rigid-in-Rigid-clause-differ t c = rw c.in-Rigid.is c.in_ok-push_rigid-in-Rigid.ensures.differ
