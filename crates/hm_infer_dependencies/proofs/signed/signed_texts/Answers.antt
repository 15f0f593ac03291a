use Rattle.std.proofs.Common.{◌||◌, ◌+◌, drop, sym, ap, ◌∙◌, bytes_eq}
use Rattle.std.specs.List.{list_any}
use Rattle.hm_syntax.specs.Lists.{declarations}
use Rattle.hm_infer_dependencies.specs.Nodes.{has_text, is_signed}
use Rattle.hm_infer_dependencies.proofs.Rows.{unrolled, past}
use Rattle.hm_infer_dependencies.proofs.Signatures.{signed_step, not_yet}
use Rattle.hm_infer_dependencies.proofs.signed.signed_texts.Goals as goal

pub loop-place-init : goal.loop-place-init
loop-place-init c = λ x. not_yet (is_signed (declarations c.args.decls.now) x) x c.new-texts.result (ap (λ ks. list_any (λ k. bytes_eq x k.now) ks) c.new-texts.ensures.empty)

pub loop-place-preserved : goal.loop-place-preserved
loop-place-preserved c = λ x.
    signed_step c.index-decls-place.result (drop c.loop-place.place c.args.decls.now) (drop (c.loop-place.place + 1) c.args.decls.now) _ x _ _
    (unrolled c.args.decls.now c.loop-place.place c.index-decls-place.result c.loop-place-test.true c.index-decls-place.is)
    (c.in_ok-add_signature.ensures x) (c.loop-place.invariant x)

pub returns : goal.returns
returns c = λ x. ap (λ ds. is_signed (declarations ds) x || has_text c.loop-place.texts x) (sym (past _ _ c.loop-place-test.false)) ∙ c.loop-place.invariant x
