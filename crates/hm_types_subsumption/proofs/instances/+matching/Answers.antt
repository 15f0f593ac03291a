use Rattle.std.proofs.Common.{◌≡◌, ℕ, ◌<◌, rules, ◌∙◌, length, arith, true, vec_len}
use Rattle.hm_types.specs.Monotypes.{arguments_of}
use Rattle.hm_types.specs.Shape.{type_of, types_of}
use Rattle.hm_types.specs.Substitution.{occurs, occurs_in_any}
use Rattle.hm_types.proofs.Matched.{args_smaller, item_smaller}
use Rattle.hm_types_subsumption.proofs.Found.{var_occurs, args_occur, item_occurs, matches_args, matches_more, matches_fail, matches_all}
use Rattle.hm_types_subsumption.proofs.instances.+matching.Goals as goal

pub match_type-match_variable-requires : goal.match_type-match_variable-requires
match_type-match_variable-requires t c = c.requires c.in-Var.n (var_occurs c.args.pattern.now c.in-Var.n c.in-Var.is)

pub match_type-match_types-requires : goal.match_type-match_types-requires
match_type-match_types-requires t c =
    let smaller = args_smaller c.args.pattern.now c.in-App.head _ c.as_slice.result.now c.in-App.is c.as_slice.ensures in
    let below : (n : ℕ) → occurs_in_any n (arguments_of (types_of c.as_slice.result.now)) ≡ true → n < vec_len c.args.found.now =
    λ n o. c.requires n (args_occur c.args.pattern.now c.in-App.head _ c.as_slice.result.now n c.in-App.is c.as_slice.ensures o) in
    (search rules, below)

pub match_type-returns-in-Var-clause-matches : goal.match_type-returns-in-Var-clause-matches
match_type-returns-in-Var-clause-matches t c = rw c.in-Var.is c.match_variable.ensures.matches

pub match_types-match_type-requires : goal.match_types-match_type-requires
match_types-match_type-requires t c =
    let smaller = item_smaller _ _ c.index-patterns-i.result c.loop-i-test.true c.index-patterns-i.is in
    let below : (n : ℕ) → occurs n (type_of c.index-patterns-i.result) ≡ true → n < vec_len c.loop-i.found =
    λ n o. omega (arith, c.loop-i.invariant.len, c.requires n (item_occurs _ _ c.index-patterns-i.result n c.loop-i-test.true c.index-patterns-i.is o)) in
    (search rules, below)

pub match_types-returns-then-not-branch-clause-matches : goal.match_types-returns-then-not-branch-clause-matches
match_types-returns-then-not-branch-clause-matches t c =
    let below : c.loop-i.i < length c.args.targets.now = omega arith in
    matches_fail _ _ c.match_type.new.found.items _ _ _ c.index-patterns-i.result c.index-targets-i.result c.loop-i-test.true below c.index-patterns-i.is c.index-targets-i.is c.loop-i.invariant.matches (rw c.if-not-branch.true at c.in_ok-match_type.ensures.matches)

pub match_types-loop-i-preserved : goal.match_types-loop-i-preserved
match_types-loop-i-preserved t c =
    let below : c.loop-i.i < length c.args.targets.now = omega arith in
    record {
      as_many = c.loop-i.invariant.as_many;
      len = c.in_ok-match_type.ensures.len ∙ c.loop-i.invariant.len;
      matches = matches_more _ _ _ _ _ _ c.index-patterns-i.result c.index-targets-i.result c.loop-i-test.true below c.index-patterns-i.is c.index-targets-i.is c.loop-i.invariant.matches (rw c.if-not-branch.false at c.in_ok-match_type.ensures.matches);
    }

pub match_types-returns-clause-matches : goal.match_types-returns-clause-matches
match_types-returns-clause-matches t c = matches_all _ _ _ _ c.loop-i.i c.loop-i-test.false (omega arith) c.loop-i.invariant.matches

pub match_type-returns-in_ok-match_types-in-App-target-clause-matches : goal.match_type-returns-in_ok-match_types-in-App-target-clause-matches
match_type-returns-in_ok-match_types-in-App-target-clause-matches t c =
    matches_args _ _ _ _ _ _ _ _ _ _ _ c.in-App.is c.in-App-target.is (c.if-is_same.ensures.0 (search rules)) c.as_slice.ensures c.as_slice-then-is_same.ensures
    c.in_ok-match_types-in-App-target.ensures.matches
