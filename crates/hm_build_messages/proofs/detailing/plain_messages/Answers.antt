use Rattle.std.proofs.Common.{rules, ◌≡◌, ◌++◌, get_or, refl, subst}
use Rattle.hm_messages_details.specs.Details.{nothing}
use Rattle.hm_names.specs.declared.faults.Fault.{Fault}
use Rattle.hm_messages.proofs.InOrder.{taken_more}
use Rattle.hm_build_messages.specs.Explanations.{IsDetailed}
use Rattle.hm_build_messages.proofs.detailing.plain_messages.Goals as goal

pub loop-fault-preserved : goal.loop-fault-preserved
loop-fault-preserved c =
    let page = c.args.page.now in
    let faults = c.args.faults.now in
    let i = c.loop-fault.fault-index in
    let item : Fault = c.fault-item.result in
    let is : item ≡ get_or faults i item = search rules in
    let message = c.in_ok-message.message.items in
    let told : IsDetailed c.args.format page.file.now page.lines (λ f known. known ≡ nothing) item message = record { known = nothing; so = refl; stated = c.in_ok-message.ensures } in
    let pushed : c.extend_from_slice.new.self.items ≡ c.loop-fault.text.items ++ message = search rules in
    taken_more (IsDetailed c.args.format page.file.now page.lines (λ f known. known ≡ nothing)) faults i item c.loop-fault.text.items c.extend_from_slice.new.self.items message (search rules) c.loop-fault.invariant
    (subst (λ (f : Fault). IsDetailed c.args.format page.file.now page.lines (λ g known. known ≡ nothing) f message) is told) pushed
