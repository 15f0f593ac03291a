use Rattle.std.proofs.Common.{rules, None, [], map, string_bytes}
use Rattle.std.specs.Arc.{arc_value}
use Rattle.hm_messages_edits.specs.Spans.{first_part}
use Rattle.hm_messages.specs.Subjects.{mistyped}
use Rattle.hm_build_messages.specs.Explanations.{ArePartTypes, by_mend, by_types}
use Rattle.hm_build_messages.specs.PartMessages.{IsPartMessage}
use Rattle.hm_build_messages.proofs.faulty.note_text.Goals as goal

pub returns-in_ok-part_message-in-Some : goal.returns-in_ok-part_message-in-Some
returns-in_ok-part_message-in-Some c =
    let page = c.args.«module».now.page.now in
    let mend = c.args.part.now.mend in
    let types = c.in-Some.types in
    let expected = string_bytes types.expected in
    let actual = string_bytes types.actual in
    let are : ArePartTypes page.lines c.args.«module».now.question.now.name.now (map arc_value c.args.«module».now.question.now.imports.now) c.args.definition.now mend expected actual types.infinite = search rules in
    let says : IsPartMessage c.args.«module».now.format page.file.now page.lines (first_part mend) None (mistyped c.args.definition.now c.args.other expected actual types.infinite) [] c.in_ok-part_message-in-Some.field-0.items = search rules in
    by_types expected actual types.infinite are says

pub returns-in_ok-mend_text-in-None : goal.returns-in_ok-mend_text-in-None
returns-in_ok-mend_text-in-None c = by_mend c.in_ok-mend_text-in-None.ensures
