use Rattle.std.proofs.Common.{◌++◌, Err, Some, map, rules, sym, ap, ◌∙◌, subst}
use Rattle.hm_syntax.specs.Views.OfPatterns.{pattern_of as pattern_tree}
use Rattle.hm_infer_dependencies.specs.References.{pattern_variables}
use Rattle.hm_infer_dependencies.specs.Nodes.{IsRepeated}
use Rattle.hm_infer_dependencies.proofs.Distinct.{passed_on, repeated_push, repeated_before, repeated_row}
use Rattle.hm_infer_dependencies.proofs.Rows.{pattern_falls}
use Rattle.hm_infer_dependencies.proofs.nodes.+variables.Goals as goal

pub add_all_variables-add_variables-requires : goal.add_all_variables-add_variables-requires
add_all_variables-add_variables-requires t c = search (rules, pattern_falls _ _ _ c.loop-pat-test.true c.pat-item.is)

pub add_all_variables-returns-in_err-add_variables-clause-twice : goal.add_all_variables-returns-in_err-add_variables-clause-twice
add_all_variables-returns-in_err-add_variables-clause-twice t c = passed_on c.from_residual.result c.in_err-add_variables.field-0.0 c.from_residual.ensures.1
    (λ e. repeated_row c.loop-pat.numbers c.args.numbers.now c.args.pats.now c.loop-pat.pat-index c.pat-item.result c.loop-pat-test.true c.pat-item.is c.loop-pat.invariant (c.in_err-add_variables.ensures.twice (ap Err e)))

pub add_variables-returns-in_err-add-in-Var-clause-twice : goal.add_variables-returns-in_err-add-in-Var-clause-twice
add_variables-returns-in_err-add-in-Var-clause-twice t c =
    passed_on c.from_residual.result c.in_err-add-in-Var.field-0.0 c.from_residual.ensures.1
    (λ e. subst (λ p. IsRepeated (c.args.numbers.now ++ map Some (pattern_variables p))) (sym (ap pattern_tree c.in-Var.is) ∙ c.pat.view_is) (repeated_push c.args.numbers.now _ (c.in_err-add-in-Var.ensures.twice (ap Err e))))

pub add_variables-returns-in_err-add-in-Bound-clause-twice : goal.add_variables-returns-in_err-add-in-Bound-clause-twice
add_variables-returns-in_err-add-in-Bound-clause-twice t c = passed_on c.from_residual-in_err-add-in-Bound.result c.in_err-add-in-Bound.field-0.0 c.from_residual-in_err-add-in-Bound.ensures.1
    (λ e. subst (λ p. IsRepeated (c.args.numbers.now ++ map Some (pattern_variables p))) (sym (ap pattern_tree c.in-Bound.is) ∙ c.pat.view_is) (repeated_before c.args.numbers.now _ _ (c.in_err-add-in-Bound.ensures.twice (ap Err e))))
