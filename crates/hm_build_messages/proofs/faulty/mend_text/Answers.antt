use Rattle.std.proofs.Common.{rules, List, ℕ, map, subst}
use Rattle.hm_messages.specs.Subjects.{Subject, subject_of}
use Rattle.hm_messages_json.specs.Edits.{Changed, changed_of}
use Rattle.hm_messages_edits.specs.Edits.{HasChanges}
use Rattle.hm_messages_edits.specs.Spans.{first_part, second_part}
use Rattle.hm_build_messages.specs.Explanations.{IsSubjectOf}
use Rattle.hm_build_messages.specs.PartMessages.{IsPartMessage}
use Rattle.hm_build_messages.proofs.faulty.mend_text.Goals as goal

pub returns : goal.returns
returns c =
    let page = c.args.«module».now.page.now in
    let mend = c.args.mend.now in
    let changes : List Changed = map changed_of c.in_ok-changes.changes.items in
    let text = c.in_ok-part_message.field-0.items in
    let subject : Subject = subject_of c.topic_of.result in
    let told : IsPartMessage c.args.«module».now.format page.file.now page.lines (first_part mend) (second_part mend) subject changes text = search rules in
    record {
      changes = changes;
      edits = subst (λ (s : List ℕ). HasChanges s mend changes) c.requires.same c.in_ok-changes.ensures;
      subject = subject;
      means = subst (λ (s : List ℕ). IsSubjectOf s c.args.definition.now mend c.args.other subject) c.requires.same (c.topic_of.ensures c.args.«module».now.question.now.source.now c.counts_of-counts.ensures);
      stated = told;
    }
