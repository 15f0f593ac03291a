use Rattle.std.proofs.Common.{[], refl, sym, subst, arith}
use Rattle.hm_syntax.specs.Lists.{declarations}
use Rattle.hm_names.specs.Syntax.{bindings_of}
use Rattle.hm_infer_dependencies.proofs.Rows.{past}
use Rattle.hm_infer_dependencies.proofs.NodeLists.{IsStep, is_step, none_left}
use Rattle.hm_infer_expressions.specs.SignedLists.{BindsDeclaration, BindsSigned}
use Rattle.hm_infer_context.proofs.Extended.{extended}
use Rattle.hm_infer_expressions.proofs.SignedNames.{signed_none}
use Rattle.hm_infer_expressions.proofs.signed.bind_signed.Goals as goal

pub decls-init : goal.decls-init
decls-init c = record {
  bound = λ k. subst (λ z. BindsSigned (bindings_of k (declarations c.args.decls.now) (declarations z)) c.args.environment.now c.args.environment.now) (sym (past c.args.decls.now _ (omega arith))) (signed_none c.args.environment.now);
  given = λ g a. a;
  kept = ([], refl);
}

pub decls-preserved : goal.decls-preserved
decls-preserved c =
    let ds = c.args.decls.now in
    let s : IsStep c.args.decls.now c.decls.behind c.index-decls-place.result _ = is_step ds c.decls.behind c.index-decls-place.result _ c.decls-test.true c.index-decls-place.is refl in
    record {
      bound = λ k.
          subst (λ z. BindsSigned (bindings_of k (declarations ds) (declarations z)) c.args.environment.now c.bind_declared.new.environment) (sym s.here)
          (subst (λ z. BindsDeclaration k (declarations ds) c.index-decls-place.result (declarations z) c.decls.environment c.bind_declared.new.environment) s.behind_it (c.in_ok-bind_declared.ensures.bound k (declarations ds) c.requires) c.args.environment.now (c.decls.invariant.bound k));
      given = λ g a. c.in_ok-bind_declared.ensures.given g (c.decls.invariant.given g a);
      kept = extended c.args.environment.now c.decls.environment c.bind_declared.new.environment c.decls.invariant.kept c.bind_declared.ensures.kept;
    }

pub returns : goal.returns
returns c = record {
  bound = λ k. subst (λ z. BindsSigned (bindings_of k (declarations c.args.decls.now) (declarations z)) c.args.environment.now c.decls.environment) (none_left c.args.decls.now c.decls.behind c.decls-test.false) (c.decls.invariant.bound k);
  given = c.decls.invariant.given;
  kept = c.decls.invariant.kept;
}

pub returns-in_err-bind_declared-clause-kept : goal.returns-in_err-bind_declared-clause-kept
returns-in_err-bind_declared-clause-kept c = extended c.args.environment.now c.decls.environment c.bind_declared.new.environment c.decls.invariant.kept c.bind_declared.ensures.kept
