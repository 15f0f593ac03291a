use Rattle.std.proofs.Common.{◌++◌, Err, sym, ap, ◌∙◌, subst}
use Rattle.hm_syntax.specs.Lists.{declarations, patterns}
use Rattle.hm_syntax.specs.Views.OfExpressions.{declaration_of}
use Rattle.hm_names.specs.Syntax.{is_continued}
use Rattle.hm_infer_dependencies.specs.Nodes.{IsRepeated, new_nodes}
use Rattle.hm_infer_dependencies.proofs.Distinct.{passed_on, repeated_clause, repeated_pattern}
use Rattle.hm_infer_dependencies.proofs.nodes.add_declaration.Goals as goal

pub returns-in_err-add-in-Clause-clause-twice : goal.returns-in_err-add-in-Clause-clause-twice
returns-in_err-add-in-Clause-clause-twice c = passed_on c.from_residual.result c.in_err-add-in-Clause.field-0.0 c.from_residual.ensures.1
    (λ e all s. subst (λ d. IsRepeated (c.args.numbers.now ++ new_nodes all d (declarations c.args.rest.now))) (sym (ap declaration_of c.in-Clause.is) ∙ c.decl.view_is)
    (repeated_clause _ _ c.args.numbers.now _
    (ap (λ ps. is_continued c.in-Clause.name.text (patterns ps) (declarations c.args.rest.now)) (sym c.deref.ensures.value) ∙ (sym c.is_continued.ensures ∙ c.if-is_continued.false))
    (sym (s c.in-Clause.name.text) ∙ (sym c.is_signed.ensures ∙ c.if-is_signed.false))
    (c.in_err-add-in-Clause.ensures.twice (ap Err e))))

pub returns-in_err-add_variables-in-Pattern-clause-twice : goal.returns-in_err-add_variables-in-Pattern-clause-twice
returns-in_err-add_variables-in-Pattern-clause-twice c = passed_on c.from_residual-in_err-add_variables-in-Pattern.result c.in_err-add_variables-in-Pattern.field-0.0 c.from_residual-in_err-add_variables-in-Pattern.ensures.1
    (λ e all s. subst (λ d. IsRepeated (c.args.numbers.now ++ new_nodes all d (declarations c.args.rest.now))) (sym (ap declaration_of c.in-Pattern.is) ∙ c.decl.view_is)
    (repeated_pattern c.args.numbers.now _ (c.in_err-add_variables-in-Pattern.ensures.twice (ap Err e))))
