use Rattle.std.proofs.Common.{rules, List, ℕ, None, map, string_bytes, subst}
use Rattle.hm_messages.specs.Subjects.{unsigned as unsigned_subject}
use Rattle.hm_messages_json.specs.Edits.{Changed, changed_of}
use Rattle.hm_messages_edits.specs.Signatures.{IsRetyped}
use Rattle.hm_build_messages.specs.PartMessages.{IsPartMessage}
use Rattle.hm_build_messages.proofs.faulty.signature_text.Goals as goal

pub returns : goal.returns
returns c =
    let page = c.args.«module».now.page.now in
    let name = c.args.definition.now in
    let signature = c.args.unsigned.now.signature in
    let own = string_bytes c.args.unsigned.now.own in
    let changes : List Changed = map changed_of c.in_ok-changes.changes.items in
    let text = c.in_ok-part_message.field-0.items in
    let retyped : IsRetyped c.args.«module».now.question.now.source.now name signature own changes = search rules in
    let told : IsPartMessage c.args.«module».now.format page.file.now page.lines signature None (unsigned_subject name c.args.end own) changes text = search rules in
    (changes, subst (λ (s : List ℕ). IsRetyped s name signature own changes) c.requires.same retyped, told)
