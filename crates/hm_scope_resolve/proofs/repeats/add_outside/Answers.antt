use Rattle.std.proofs.Common.{rules, ◌∙◌, ap, ◌++◌, ◌∷◌, [], map, sym}
use Rattle.hm_names.specs.Faults.Phases.{fault}
use Rattle.hm_names.specs.Found.{outside}
use Rattle.hm_names.specs.Texts.{is_text_among}
use Rattle.hm_names.specs.Variables.{texts}
use Rattle.hm_scope_resolve.proofs.NamesTwice.{outside_there, outside_absent, push_step, keep_step, all_names, no_outside, empty_outside}
use Rattle.hm_scope_resolve.proofs.repeats.add_outside.Goals.{then-not-contains+in_ok-fault_at+in_ok-push, else-not-contains}
use Rattle.hm_scope_resolve.proofs.repeats.add_outside.Goals as goal

pub row-preserved : goal.row-preserved
row-preserved c =
    let text = c.as_str.ensures in
    let told = c.contains.ensures in
    let row = c.as_slice-row.result.now in
    let n = c.name-item.result in
    let f = fault c.args.kind in
    let known = texts c.args.known.now in
    let among = c.in_ok-set.ensures n.now.text ∙ ap (λ l. is_text_among n.now.text (texts l)) c.as_slice.ensures in
    elim c.if-not-contains.branch [
      | then-not-contains+in_ok-fault_at+in_ok-push w ↦
          push_step c.row.faults.items c.if-not-contains.faults.items _ _ _ (f n.now)
          (outside_absent f row c.row.name-index n known c.row-test.true c.name-item.is (sym among ∙ sym (rw text at told) ∙ w.if-not-contains.true))
          (ap (λ v. v.items) w.faults-is ∙ w.in_ok-push.ensures.items ∙ ap (λ x. c.row.faults.items ++ x ∷ []) w.in_ok-fault_at.ensures) c.row.invariant
      | else-not-contains w ↦
          keep_step c.row.faults.items c.if-not-contains.faults.items _ _ _
          (outside_there f row c.row.name-index n known c.row-test.true c.name-item.is (sym among ∙ sym (rw text at told) ∙ w.if-not-contains.false))
          (ap (λ v. v.items) w.faults-is) c.row.invariant
    ]

pub returns : goal.returns
returns c = all_names (λ l. map (fault c.args.kind) (outside (texts c.args.known.now) l)) c.as_slice-row.result.now c.args.names.now c.row.name-index _ c.args.faults.now.items c.row.faults.items
    c.as_slice-row.ensures (no_outside (fault c.args.kind) c.as_slice-row.result.now c.row.name-index (texts c.args.known.now) c.row-test.false) c.row.invariant

pub returns-then-is_empty : goal.returns-then-is_empty
returns-then-is_empty c = empty_outside (fault c.args.kind) (texts c.args.known.now) c.as_slice-row.result.now c.args.names.now c.args.faults.now.items c.as_slice-row.ensures (search rules)
