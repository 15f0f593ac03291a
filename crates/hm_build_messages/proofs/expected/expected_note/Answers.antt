use Rattle.std.proofs.Common.{rules, ◌≡◌, List, ℕ, inr, map, string_bytes, subst}
use Rattle.std.specs.Arc.{arc_value}
use Rattle.hm_messages.specs.Messages.{IsMessage}
use Rattle.hm_messages.specs.Subjects.{unbound_type}
use Rattle.hm_messages_expected.specs.Expected.{IsExpected}
use Rattle.hm_build_messages.proofs.expected.expected_note.Goals as goal

pub returns : goal.returns
returns c =
    let format = c.args.«module».now.format in
    let page = c.args.«module».now.page.now in
    let question = c.args.«module».now.question.now in
    let fault = c.args.fault.now in
    let type = string_bytes c.in-Some.expected in
    let text = c.in_ok-message.field-0.items in
    let stated : IsMessage format page.file.now page.lines fault.place (unbound_type fault.name type) text = search rules in
    inr (record {
      type = type;
      expected = subst (λ (s : List ℕ). IsExpected s question.name.now (map arc_value question.imports.now) c.args.«module».now.faults.now fault type) c.requires c.in-Some.ensures;
      stated = stated;
    })
