use Rattle.std.proofs.Common.{rules, map}
use Rattle.hm_messages.specs.Messages.{IsMessageWith}
use Rattle.hm_messages.specs.Subjects.{subject_of}
use Rattle.hm_messages_json.specs.Edits.{changed_of}
use Rattle.hm_build_messages.proofs.parts.part_message.Goals as goal

pub returns : goal.returns
returns c =
    let page = c.args.«module».now.page.now in
    let noted = c.args.noted.now in
    let told : IsMessageWith c.args.«module».now.format page.file.now page.lines noted.part.start (subject_of noted.topic)
    (record { changes = map changed_of noted.changes.now; part = c.span_of.result; second = c.span_of_any.result }) c.in_ok-message_with.field-0.items = search rules in
    record {
      whole = c.span_of.result;
      whole_is = c.span_of.ensures;
      other = c.span_of_any.result;
      other_is = c.span_of_any.ensures;
      stated = told;
    }
