use Rattle.std.proofs.Common.{rules, ◌≡◌, ◌⊎◌, ◌++◌, List, ℕ, [], get_or, map, subst}
use Rattle.std.specs.Arc.{arc_value}
use Rattle.hm_names.specs.declared.faults.Fault.{Fault}
use Rattle.hm_messages.proofs.InOrder.{taken_more}
use Rattle.hm_build_messages.specs.Expected.{IsExpectedNote}
use Rattle.hm_build_messages.proofs.expected.notes_of.Goals as goal

pub loop-fault-preserved : goal.loop-fault-preserved
loop-fault-preserved c =
    let page = c.args.«module».now.page.now in
    let question = c.args.«module».now.question.now in
    let told : Fault → List ℕ → Type 0
    = λ f t. (t ≡ []) ⊎ IsExpectedNote c.args.«module».now.format page.file.now page.lines question.name.now (map arc_value question.imports.now) c.args.«module».now.faults.now f t in
    let faults = c.args.faults.now in
    let i = c.loop-fault.fault-index in
    let item : Fault = c.fault-item.result in
    let is : item ≡ get_or faults i item = search rules in
    let note = c.in_ok-note.note.items in
    let so : told item note = c.in_ok-note.ensures in
    let pushed : c.extend_from_slice.new.self.items ≡ c.loop-fault.text.items ++ note = search rules in
    taken_more told faults i item c.loop-fault.text.items c.extend_from_slice.new.self.items note (search rules) c.loop-fault.invariant
    (subst (λ (f : Fault). told f note) is so) pushed
