use Rattle.std.proofs.Common.{◌∙◌}
use Rattle.hm_names.specs.Texts.{is_text_among}
use Rattle.hm_scope_resolve.proofs.NamesTwice.{firsts_there, firsts_absent, push_step, keep_step, told_there, told_absent}
use Rattle.hm_messages_variables.proofs.firsts.firsts_of.Goals.{then-branch+in_ok-push, else-branch}
use Rattle.hm_messages_variables.proofs.firsts.firsts_of.Goals as goal

pub row-preserved : goal.row-preserved
row-preserved c =
    let text = c.as_str.ensures in
    let with_it = c.in_ok-insert.ensures.texts in
    let added = c.in_ok-insert.ensures.added in
    let row = c.as_slice-row.result.now in
    let n = c.name-item.result in
    elim c.if-branch.branch [
      | then-branch+in_ok-push w ↦
          push_step c.row.out c.if-branch.out _ _ _ n.now
          (firsts_absent row c.row.name-index n c.row.seen c.insert.new.self c.row-test.true c.name-item.is (told_absent c.in_ok-insert.field-0 (is_text_among n.now.text c.row.seen) (rw text at added) w.if-branch.true) (rw text at with_it))
          (w.out-is ∙ w.in_ok-push.ensures) c.row.invariant
      | else-branch w ↦
          keep_step c.row.out c.if-branch.out _ _ _
          (firsts_there row c.row.name-index n c.row.seen c.insert.new.self c.row-test.true c.name-item.is (told_there c.in_ok-insert.field-0 (is_text_among n.now.text c.row.seen) (rw text at added) w.if-branch.false) (rw text at with_it))
          w.out-is c.row.invariant
    ]
