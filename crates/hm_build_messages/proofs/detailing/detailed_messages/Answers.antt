use Rattle.std.proofs.Common.{rules, ◌≡◌, ◌++◌, get_or, subst}
use Rattle.hm_names.specs.declared.faults.Fault.{Fault}
use Rattle.hm_messages.proofs.InOrder.{taken_more}
use Rattle.hm_build_messages.specs.Following.{IsFollowedIn}
use Rattle.hm_build_messages.proofs.detailing.detailed_messages.Goals as goal

pub loop-index-preserved : goal.loop-index-preserved
loop-index-preserved c =
    let here = c.args.here.now in
    let faults = here.named.now.faulty.faults.now in
    let i = c.loop-index.index in
    let item : Fault = c.index-faults-index.result in
    let is : item ≡ get_or faults i item = search rules in
    let message = c.in_ok-message.message.items in
    let told : IsFollowedIn here item message = search rules in
    let pushed : c.extend_from_slice.new.self.items ≡ c.loop-index.text.items ++ message = search rules in
    taken_more (IsFollowedIn here) faults i item c.loop-index.text.items c.extend_from_slice.new.self.items message (search rules) c.loop-index.invariant
    (subst (λ (f : Fault). IsFollowedIn here f message) is told) pushed
