use Rattle.std.proofs.Common.{rules, ◌≡◌, ◌<◌, get_or, inr, length}
use Rattle.hm_messages_json.specs.Edits.{AreBothIn, IsEditOf, changed_of}
use Rattle.hm_messages_json.proofs.Edited.{taken_more, not_all}
use Rattle.hm_messages_json.proofs.changes.edits_of.Goals as goal

pub loop-change-preserved : goal.loop-change-preserved
loop-change-preserved c =
    let here = c.change-item.result in
    let within : c.loop-change.change-index < length c.args.changes.now = search rules in
    let at : get_or c.args.changes.now c.loop-change.change-index here ≡ here = search rules in
    let is : IsEditOf c.args.lines.now (changed_of here) c.in-Some.edit = search rules in
    taken_more c.args.lines.now c.args.changes.now c.loop-change.change-index here c.loop-change.edits.items c.push.new.self.items c.in-Some.edit within at c.loop-change.invariant is c.in_ok-push-in-Some.ensures.items

pub returns-in-None : goal.returns-in-None
returns-in-None c =
    let here = c.change-item.result in
    let within : c.loop-change.change-index < length c.args.changes.now = search rules in
    let at : get_or c.args.changes.now c.loop-change.change-index here ≡ here = search rules in
    let outside : ¬ (AreBothIn c.args.lines.now (changed_of here)) = search rules in
    inr (search rules, not_all c.args.lines.now c.args.changes.now c.loop-change.change-index here within at outside)
