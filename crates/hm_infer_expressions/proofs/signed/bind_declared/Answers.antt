use Rattle.std.proofs.Common.{◌+◌, [], ◌∷◌, option_map, refl, sym, ap, ◌∙◌, subst, arith}
use Rattle.hm_types.specs.Shape.{type_of}
use Rattle.hm_syntax.specs.Lists.{declarations, patterns}
use Rattle.hm_syntax.specs.Views.OfExpressions.{declaration_of}
use Rattle.hm_names_keys.specs.Variables.{identifier}
use Rattle.hm_names.specs.Syntax.{is_continued}
use Rattle.hm_names.specs.Types.{declared_type}
use Rattle.hm_unify.proofs.WellFormed.{well_formed_more}
use Rattle.hm_infer_context.specs.Environments.{AreAssumed}
use Rattle.hm_infer_expressions.specs.SignedLists.{BindsDeclaration}
use Rattle.hm_infer_expressions.proofs.SignedNames.{is_other, binds_other, binds_continued, binds_unsigned, binds_declared}
use Rattle.hm_infer_expressions.proofs.signed.bind_declared.Goals as goal

pub returns-in_default : goal.returns-in_default
returns-in_default c = record {
  bound = λ k all a. binds_other k all c.args.decl.now (declarations c.args.rest.now) c.args.environment.now (is_other _ c.args.decl.now c.decl.view_is (λ n ps r e. c.in_default.not-Clause n ps r e));
  given = λ g a. a;
  kept = ([], refl);
}

pub returns-then-is_continued-clause-bound : goal.returns-then-is_continued-clause-bound
returns-then-is_continued-clause-bound c = λ k all a.
    subst (λ d. BindsDeclaration k all d (declarations c.args.rest.now) c.args.environment.now c.args.environment.now) (sym (ap declaration_of c.in-Clause.is) ∙ c.decl.view_is)
    (binds_continued k all c.in-Clause.name (patterns c.in-Clause.pats.items) c.in-Clause.rhs (declarations c.args.rest.now) c.args.environment.now
    (ap (λ ps. is_continued c.in-Clause.name.text (patterns ps) (declarations c.args.rest.now)) (sym c.deref.ensures.value) ∙ (sym c.is_continued.ensures ∙ c.if-is_continued.true)))

pub returns-in_default-declared_for-clause-bound : goal.returns-in_default-declared_for-clause-bound
returns-in_default-declared_for-clause-bound c = λ k all a.
    subst (λ d. BindsDeclaration k all d (declarations c.args.rest.now) c.args.environment.now c.args.environment.now) (sym (ap declaration_of c.in-Clause.is) ∙ c.decl.view_is)
    (binds_unsigned k all c.in-Clause.name (patterns c.in-Clause.pats.items) c.in-Clause.rhs (declarations c.args.rest.now) c.args.environment.now
    (ap (λ ps. is_continued c.in-Clause.name.text (patterns ps) (declarations c.args.rest.now)) (sym c.deref.ensures.value) ∙ (sym c.is_continued.ensures ∙ c.if-is_continued.false))
    (sym (a c.in-Clause.name.text) ∙ (sym c.declared_for.ensures ∙ ap (option_map (λ t. declared_type t.now)) c.in_default-declared_for.is)))

pub returns-clause-bound : goal.returns-clause-bound
returns-clause-bound c = λ k all a.
    subst (λ d. BindsDeclaration k all d (declarations c.args.rest.now) c.args.environment.now c.bind.new.self) (sym (ap declaration_of c.in-Clause.is) ∙ c.decl.view_is)
    (binds_declared k all c.in-Clause.name (patterns c.in-Clause.pats.items) c.in-Clause.rhs (declarations c.args.rest.now) c.args.environment.now c.bind.new.self (declared_type c.in-Some.ty.now) c.in_ok-declared.declared.count (type_of c.in_ok-declared.declared.body)
    (ap (λ ps. is_continued c.in-Clause.name.text (patterns ps) (declarations c.args.rest.now)) (sym c.deref.ensures.value) ∙ (sym c.is_continued.ensures ∙ c.if-is_continued.false))
    (sym (a c.in-Clause.name.text) ∙ (sym c.declared_for.ensures ∙ ap (option_map (λ t. declared_type t.now)) c.in-Some.is))
    c.in_ok-declared.ensures.given c.in_ok-declared.ensures.body
    (c.in_ok-bind.ensures.bound ∙ ap (λ z. record { name = z; scheme = record { quantified = c.in_ok-declared.declared.count; body = type_of c.in_ok-declared.declared.body } } ∷ c.args.environment.now) (ap identifier c.key_of.ensures)))

pub returns-clause-given : goal.returns-clause-given
returns-clause-given c = λ g a. subst (AreAssumed g) (sym c.in_ok-bind.ensures.bound) (well_formed_more c.in_ok-declared.declared.count (c.in_ok-declared.declared.count + g) (type_of c.in_ok-declared.declared.body) (omega arith) c.in_ok-declared.ensures.given, a)

pub returns-clause-kept : goal.returns-clause-kept
returns-clause-kept c = (_ ∷ [], c.in_ok-bind.ensures.bound)

pub returns-in_err-bind-clause-kept : goal.returns-in_err-bind-clause-kept
returns-in_err-bind-clause-kept c = ([], c.in_err-bind.ensures.same)
