use Rattle.std.proofs.Common.{◌||◌, ◌+◌, drop, sym, ap, ◌∙◌}
use Rattle.hm_names.specs.Syntax.{is_signed_among}
use Rattle.hm_infer_dependencies.specs.Nodes.{has_text}
use Rattle.hm_infer_dependencies.proofs.Rows.{unrolled, past}
use Rattle.hm_infer_dependencies.proofs.Signatures.{text_step}
use Rattle.hm_infer_dependencies.proofs.signed.add_texts.Goals as goal

pub loop-place-preserved : goal.loop-place-preserved
loop-place-preserved c = λ x.
    text_step x c.loop-place.texts c.insert.new.self c.index-names-place.result c.as_str.result (drop c.loop-place.place c.args.names.now) (drop (c.loop-place.place + 1) c.args.names.now) c.as_str.ensures
    (unrolled c.args.names.now c.loop-place.place c.index-names-place.result c.loop-place-test.true c.index-names-place.is) c.in_ok-insert.ensures.keys
    ∙ c.loop-place.invariant x

pub returns : goal.returns
returns c = λ x. sym (ap (λ ns. is_signed_among x ns || has_text c.loop-place.texts x) (past _ _ c.loop-place-test.false)) ∙ c.loop-place.invariant x
