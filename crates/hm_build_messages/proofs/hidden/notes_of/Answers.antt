use Rattle.std.proofs.Common.{rules, ◌≡◌, ◌++◌, get_or, subst}
use Rattle.hm_names.specs.declared.faults.Fault.{Fault}
use Rattle.hm_messages.proofs.InOrder.{taken_more}
use Rattle.hm_build_messages.specs.Explanations.{IsHiddenNote}
use Rattle.hm_build_messages.proofs.hidden.notes_of.Goals as goal

pub loop-fault-preserved : goal.loop-fault-preserved
loop-fault-preserved c =
    let page = c.args.page.now in
    let told = IsHiddenNote c.args.format page.file.now page.lines in
    let faults = c.args.faults.now in
    let i = c.loop-fault.fault-index in
    let item : Fault = c.fault-item.result in
    let is : item ≡ get_or faults i item = search rules in
    let note = c.in_ok-note.note.items in
    let so : told item note = search rules in
    let pushed : c.extend_from_slice.new.self.items ≡ c.loop-fault.text.items ++ note = search rules in
    taken_more told faults i item c.loop-fault.text.items c.extend_from_slice.new.self.items note (search rules) c.loop-fault.invariant
    (subst (λ (f : Fault). told f note) is so) pushed
