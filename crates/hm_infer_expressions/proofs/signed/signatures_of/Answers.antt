use Rattle.std.proofs.Common.{◌-◌, drop, length, refl, sym, ap, ◌∙◌, subst, arith, bytes_eq, option_map}
use Rattle.std.specs.Map.{lookup}
use Rattle.hm_syntax.specs.Lists.{declarations}
use Rattle.hm_names.specs.Syntax.{signature_of}
use Rattle.hm_names.specs.Types.{declared_type}
use Rattle.hm_infer_dependencies.proofs.Rows.{past}
use Rattle.hm_infer_dependencies.proofs.NodeLists.{is_step, none_left}
use Rattle.hm_infer_expressions.specs.SignedLists.{AreSignatures}
use Rattle.hm_infer_expressions.proofs.signed.signatures_of.Goals as goal

pub decls-init : goal.decls-init
decls-init c = λ x. ap (λ es. option_map (λ t. declared_type t.now) (lookup (λ k. bytes_eq x k.now) es)) c.new-signatures.ensures.empty ∙ ap (λ ds. signature_of x (declarations ds)) (sym (past c.args.decls.now _ (omega arith)))

pub decls-preserved : goal.decls-preserved
decls-preserved c =
    let s = is_step c.args.decls.now c.decls.behind c.index-decls-place.result _ c.decls-test.true c.index-decls-place.is refl in
    subst (λ z. AreSignatures (declarations z) c.add_signature.new.signatures) (sym s.here) (c.in_ok-add_signature.ensures (declarations (drop (length c.args.decls.now - c.decls.behind) c.args.decls.now)) c.decls.invariant)

pub returns : goal.returns
returns c = subst (λ z. AreSignatures (declarations z) c.decls.signatures) (none_left c.args.decls.now c.decls.behind c.decls-test.false) c.decls.invariant
