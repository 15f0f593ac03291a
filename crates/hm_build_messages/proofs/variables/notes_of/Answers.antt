use Rattle.std.proofs.Common.{rules, ◌≡◌, ◌++◌, get_or, subst}
use Rattle.hm_messages.proofs.InOrder.{taken_more}
use Rattle.hm_messages_variables.specs.LikeTypes.{Likeness}
use Rattle.hm_build_messages.specs.Variables.{IsVariableNote}
use Rattle.hm_build_messages.proofs.variables.notes_of.Goals as goal

pub loop-like-preserved : goal.loop-like-preserved
loop-like-preserved c =
    let page = c.args.«module».now.page.now in
    let told = IsVariableNote c.args.«module».now.format page.file.now page.lines in
    let likes = c.args.likes.now in
    let i = c.loop-like.like-index in
    let item : Likeness = c.like-item.result in
    let is : item ≡ get_or likes i item = search rules in
    let note = c.in_ok-note.note.items in
    let so : told item note = search rules in
    let pushed : c.extend_from_slice.new.self.items ≡ c.loop-like.text.items ++ note = search rules in
    taken_more told likes i item c.loop-like.text.items c.extend_from_slice.new.self.items note (search rules) c.loop-like.invariant
    (subst (λ (l : Likeness). told l note) is so) pushed
