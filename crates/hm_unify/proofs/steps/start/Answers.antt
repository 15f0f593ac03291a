use Rattle.std.proofs.Common.{◌++◌}
use Rattle.hm_types.specs.Shape.{type_of}
use Rattle.hm_unify.specs.Steps.{equations_in, pendings_of}
use Rattle.hm_unify.proofs.Loop.{keeps_added, keeps_first, keeps_reduced, never_first, one}
use Rattle.hm_unify.proofs.Work.{reduces_same, when_solved, when_bound, when_different}
use Rattle.hm_unify.proofs.steps.start.Goals as goal

pub returns-then-are_one_variable-clause-kept : goal.returns-then-are_one_variable-clause-kept
returns-then-are_one_variable-clause-kept c =
    let es = equations_in c.args.bindings.now in
    keeps_reduced (keeps_first es c.args.work.now.items (type_of c.args.left.now) (type_of c.args.right) c.requires.empty c.requires.sound.triangular) _
    (reduces_same es _ (record { left = type_of c.args.left.now; right = type_of c.args.right }) (c.are_one_variable.ensures c.if-are_one_variable.true))

pub returns-in-Solved-clause-kept : goal.returns-in-Solved-clause-kept
returns-in-Solved-clause-kept c =
    let es = equations_in c.args.bindings.now in
    let before = pendings_of c.args.work.now.items ++ one (type_of c.args.left.now) (type_of c.args.right) in
    let after = pendings_of c.next_step.new.work.items in
    keeps_reduced (keeps_first es c.args.work.now.items (type_of c.args.left.now) (type_of c.args.right) c.requires.empty c.requires.sound.triangular) after
    (when_solved es before after _ c.in-Solved.is c.in_ok-next_step.ensures).0

pub returns-in_ok-add_binding-in-Bind-clause-kept : goal.returns-in_ok-add_binding-in-Bind-clause-kept
returns-in_ok-add_binding-in-Bind-clause-kept c =
    let es = equations_in c.args.bindings.now in
    let before = pendings_of c.args.work.now.items ++ one (type_of c.args.left.now) (type_of c.args.right) in
    let after = pendings_of c.next_step.new.work.items in
    keeps_added es (equations_in c.add_binding.new.bindings) c.in-Bind.binding
    (keeps_first es c.args.work.now.items (type_of c.args.left.now) (type_of c.args.right) c.requires.empty c.requires.sound.triangular) c.in_ok-add_binding-in-Bind.ensures.added
    (when_bound es before after _ c.in-Bind.binding c.in-Bind.is c.in_ok-next_step.ensures)

pub returns-in-Differ-clause-clash : goal.returns-in-Differ-clause-clash
returns-in-Differ-clause-clash c = λ _.
    let es = equations_in c.args.bindings.now in
    let before = pendings_of c.args.work.now.items ++ one (type_of c.args.left.now) (type_of c.args.right) in
    let after = pendings_of c.next_step.new.work.items in
    never_first es c.args.work.now.items (type_of c.args.left.now) (type_of c.args.right) c.requires.empty (when_different es before after _ c.in-Differ.is c.in_ok-next_step.ensures)
