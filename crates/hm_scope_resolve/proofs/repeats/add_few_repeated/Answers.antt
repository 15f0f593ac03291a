use Rattle.std.proofs.Common.{◌≡◌, ◌++◌, ◌∷◌, [], refl, sym, ap, ◌∙◌, take, map}
use Rattle.hm_names.specs.Faults.Phases.{fault}
use Rattle.hm_names.specs.Found.{repeated}
use Rattle.hm_names.specs.Texts.{is_text_among}
use Rattle.hm_names.specs.Variables.{texts}
use Rattle.hm_scope_resolve.proofs.NamesTwice.{few_repeated_there, few_repeated_absent, push_step, keep_step, all_names, no_repeated}
use Rattle.hm_scope_resolve.proofs.repeats.add_few_repeated.Goals.{then-is_among+in_ok-fault_at+in_ok-push, else-is_among}
use Rattle.hm_scope_resolve.proofs.repeats.add_few_repeated.Goals as goal

pub row-preserved : goal.row-preserved
row-preserved c =
    let row = c.args.row.now in
    let n = c.index-row-place.result in
    let f = fault c.args.kind in
    let among : is_text_among n.now.text (texts (map (λ x. x.now) (take c.row.place row))) ≡ c.is_among.result =
    ap (λ t. is_text_among t (texts (map (λ x. x.now) (take c.row.place row)))) (sym c.as_str.ensures) ∙ sym c.is_among.ensures in
    elim c.if-is_among.branch [
      | then-is_among+in_ok-fault_at+in_ok-push w ↦
          push_step c.row.faults.items c.if-is_among.faults.items _ _ _ (f n.now)
          (few_repeated_there f row c.row.place n c.row-test.true c.index-row-place.is (among ∙ w.if-is_among.true))
          (ap (λ v. v.items) w.faults-is ∙ w.in_ok-push.ensures.items ∙ ap (λ x. c.row.faults.items ++ x ∷ []) w.in_ok-fault_at.ensures) c.row.invariant
      | else-is_among w ↦
          keep_step c.row.faults.items c.if-is_among.faults.items _ _ _
          (few_repeated_absent f row c.row.place n c.row-test.true c.index-row-place.is (among ∙ w.if-is_among.false))
          (ap (λ v. v.items) w.faults-is) c.row.invariant
    ]

pub returns : goal.returns
returns c = all_names (λ l. map (fault c.args.kind) (repeated [] l)) c.args.row.now _ c.row.place _ c.args.faults.now.items c.row.faults.items refl
    (no_repeated (fault c.args.kind) c.args.row.now c.row.place (texts (map (λ x. x.now) (take c.row.place c.args.row.now))) c.row-test.false) c.row.invariant
