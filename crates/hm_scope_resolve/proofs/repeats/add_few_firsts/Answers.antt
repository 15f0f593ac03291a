use Rattle.std.proofs.Common.{◌≡◌, sym, ap, ◌∙◌, take, map}
use Rattle.hm_names.specs.Texts.{is_text_among}
use Rattle.hm_names.specs.Variables.{texts}
use Rattle.hm_scope_resolve.proofs.NamesTwice.{few_firsts_there, few_firsts_absent, push_step, keep_step}
use Rattle.hm_scope_resolve.proofs.repeats.add_few_firsts.Goals.{then-not-is_among+in_ok-push, else-not-is_among}
use Rattle.hm_scope_resolve.proofs.repeats.add_few_firsts.Goals as goal

pub row-preserved : goal.row-preserved
row-preserved c =
    let row = c.args.row.now in
    let n = c.index-row-place.result in
    let among : is_text_among n.now.text (texts (map (λ x. x.now) (take c.row.place row))) ≡ c.is_among.result =
    ap (λ t. is_text_among t (texts (map (λ x. x.now) (take c.row.place row)))) (sym c.as_str.ensures) ∙ sym c.is_among.ensures in
    elim c.if-not-is_among.branch [
      | then-not-is_among+in_ok-push w ↦
          push_step c.row.out c.if-not-is_among.out _ _ _ n.now
          (few_firsts_absent row c.row.place n c.row-test.true c.index-row-place.is (among ∙ w.if-not-is_among.true))
          (w.out-is ∙ w.in_ok-push.ensures) c.row.invariant
      | else-not-is_among w ↦
          keep_step c.row.out c.if-not-is_among.out _ _ _
          (few_firsts_there row c.row.place n c.row-test.true c.index-row-place.is (among ∙ w.if-not-is_among.false))
          w.out-is c.row.invariant
    ]
