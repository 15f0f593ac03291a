use Rattle.std.proofs.Common.{rules, ◌≡◌, ◌++◌, get_or, map, subst}
use Rattle.std.specs.Arc.{arc_value}
use Rattle.hm_names.specs.declared.faults.Fault.{Fault}
use Rattle.hm_build_messages.specs.Explanations.{IsNoted}
use Rattle.hm_build_messages.proofs.Turns.{taken_turn}
use Rattle.hm_build_messages.proofs.faulty.noted_messages.Goals as goal

pub loop-fault-preserved : goal.loop-fault-preserved
loop-fault-preserved c =
    let told = IsNoted c.args.«module».now.format c.args.«module».now.page.now.file.now c.args.«module».now.page.now.lines c.args.«module».now.question.now.name.now (map arc_value c.args.«module».now.question.now.imports.now) in
    let faults = c.args.«module».now.faults.now in
    let i = c.loop-fault.fault-index in
    let item : Fault = c.fault-item.result in
    let is : item ≡ get_or faults i item = search rules in
    let message = c.in_ok-message.message.items in
    let before = c.args.allowance.now.is_limit_stated in
    let between = c.loop-fault.allowance.is_limit_stated in
    let after = c.fault_text.new.allowance.is_limit_stated in
    let pushed : c.extend_from_slice.new.self.items ≡ c.loop-fault.text.items ++ message = search rules in
    taken_turn told faults i item before between after c.loop-fault.text.items c.extend_from_slice.new.self.items message (search rules) c.loop-fault.invariant
    (subst (λ (f : Fault). told f between after message) is c.in_ok-message.ensures.stated) pushed
