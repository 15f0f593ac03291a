use Rattle.std.proofs.Common.{rules, ◌∙◌, ap, ◌++◌, ◌∷◌, [], map}
use Rattle.hm_names.specs.Faults.Phases.{fault}
use Rattle.hm_names.specs.Found.{repeated}
use Rattle.hm_names.specs.Texts.{is_text_among}
use Rattle.hm_scope_resolve.proofs.NamesTwice.{repeated_there, repeated_absent, push_step, keep_step, told_there, told_absent, all_names, no_repeated, few_repeated}
use Rattle.hm_scope_resolve.proofs.repeats.add_repeated.Goals.{then-not-branch+in_ok-fault_at+in_ok-push, else-not-branch}
use Rattle.hm_scope_resolve.proofs.repeats.add_repeated.Goals as goal

pub row-preserved : goal.row-preserved
row-preserved c =
    let text = c.as_str.ensures in
    let with_it = c.in_ok-insert.ensures.texts in
    let added = c.in_ok-insert.ensures.added in
    let row = c.as_slice-row.result.now in
    let n = c.name-item.result in
    let f = fault c.args.kind in
    elim c.if-not-branch.branch [
      | then-not-branch+in_ok-fault_at+in_ok-push w ↦
          push_step c.row.faults.items c.if-not-branch.faults.items _ _ _ (f n.now)
          (repeated_there f row c.row.name-index n c.row.seen c.insert.new.self c.row-test.true c.name-item.is (told_there c.in_ok-insert.field-0 (is_text_among n.now.text c.row.seen) (rw text at added) w.if-not-branch.true) (rw text at with_it))
          (ap (λ v. v.items) w.faults-is ∙ w.in_ok-push.ensures.items ∙ ap (λ x. c.row.faults.items ++ x ∷ []) w.in_ok-fault_at.ensures) c.row.invariant
      | else-not-branch w ↦
          keep_step c.row.faults.items c.if-not-branch.faults.items _ _ _
          (repeated_absent f row c.row.name-index n c.row.seen c.insert.new.self c.row-test.true c.name-item.is (told_absent c.in_ok-insert.field-0 (is_text_among n.now.text c.row.seen) (rw text at added) w.if-not-branch.false) (rw text at with_it))
          (ap (λ v. v.items) w.faults-is) c.row.invariant
    ]

pub returns : goal.returns
returns c = all_names (λ l. map (fault c.args.kind) (repeated [] l)) c.as_slice-row.result.now c.args.names.now c.row.name-index _ c.args.faults.now.items c.row.faults.items
    c.as_slice-row.ensures (no_repeated (fault c.args.kind) c.as_slice-row.result.now c.row.name-index c.row.seen c.row-test.false) c.row.invariant

pub returns-then-row-lt2 : goal.returns-then-row-lt2
returns-then-row-lt2 c = few_repeated (fault c.args.kind) c.as_slice-row.result.now c.args.names.now c.args.faults.now.items c.as_slice-row.ensures (search rules)
