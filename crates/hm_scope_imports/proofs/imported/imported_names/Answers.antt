use Rattle.std.proofs.Common.{rules, ap, ◌∙◌}
use Rattle.hm_names.specs.Imports.{imported}
use Rattle.hm_scope_imports.proofs.ImportedNames.{gathered_new, gathered_old}
use Rattle.hm_scope_imports.proofs.imported.imported_names.Goals.{then-branch+in_ok-push, else-branch}
use Rattle.hm_scope_imports.proofs.imported.imported_names.Goals as goal

pub loop-import-preserved : goal.loop-import-preserved
loop-import-preserved c =
    let at = gathered_new (imported c.args.«module».now) c.as_slice-import-items.result.now c.loop-import.import-index c.import-item.result c.loop-import.names.items c.if-branch.names.items c.as_str-name.result c.loop-import.seen c.insert-in-loop-import.new.self c.in_ok-insert-2.field-0 c.loop-import-test.true c.import-item.is (search rules) c.in_ok-insert-2.ensures.added in
    let before = gathered_old (imported c.args.«module».now) c.as_slice-import-items.result.now c.loop-import.import-index c.import-item.result c.loop-import.names.items c.if-branch.names.items c.as_str-name.result c.loop-import.seen c.insert-in-loop-import.new.self c.in_ok-insert-2.field-0 c.loop-import-test.true c.import-item.is (search rules) c.in_ok-insert-2.ensures.added in
    elim c.if-branch.branch [
      | then-branch+in_ok-push w ↦ at w.if-branch.true (ap (λ v. v.items) w.names-is ∙ w.in_ok-push.ensures.items) c.in_ok-insert-2.ensures.texts c.loop-import.invariant
      | else-branch w ↦ before w.if-branch.false (ap (λ v. v.items) w.names-is) c.in_ok-insert-2.ensures.texts c.loop-import.invariant
    ]
