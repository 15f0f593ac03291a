use Rattle.std.proofs.Common.{rules, ◌≡◌, ℕ, List, inl, option_map, string_bytes, subst}
use Rattle.hm_messages_json.specs.declared.message.Message.{Message}
use Rattle.hm_messages.specs.Messages.{IsHint}
use Rattle.hm_messages.specs.ModuleStarts.{IsModuleAround}
use Rattle.hm_messages.specs.Notices.{notice_of}
use Rattle.hm_messages.specs.Subjects.{subject_of}
use Rattle.hm_messages.proofs.objects.object_with.Goals as goal
use Rattle.hm_messages.proofs.objects.object_with.Goals.{in-Some-hint, in-None}

pub returns-clause-stated : goal.returns-clause-stated
returns-clause-stated c =
    let told : Message = record {
      file = c.as_str-2.result;
      start = c.in-Some.start;
      end = c.in-Some.end;
      level = c.notice_of-notice.result.level;
      kind = c.notice_of-notice.result.kind;
      «module» = c.module_at.result;
      name = c.notice_of-notice.result.name;
      other = c.notice_of-notice.result.other;
      part = c.range_of.result;
      second = c.range_of-2.result;
      text = c.as_str-3.result;
      hint = c.match-hint.hint;
      expected = c.notice_of-notice.result.expected;
      actual = c.notice_of-notice.result.actual;
      edits = c.as_slice.result;
    } in
    let hint_same : option_map string_bytes c.in_ok-hint.hint ≡ option_map (λ hint. hint.now) c.match-hint.hint = elim c.match-hint.branch [
      | in-Some-hint w ↦ search rules
      | in-None w ↦ search rules
    ] in
    inl (record {
      message = told;
      file_is = search rules;
      range = search rules;
      about = record {
        level_is = search rules;
        kind_is = search rules;
        name_is = search rules;
        other_is = search rules;
        text_is = search rules;
        expected_is = search rules;
        actual_is = search rules;
        hint_is = subst (IsHint (notice_of (subject_of c.args.suggestion.now.topic)).sentence) hint_same (search rules);
      };
      edited = search rules;
      part_is = search rules;
      second_is = search rules;
      module_is = subst (λ (s : List ℕ). IsModuleAround s c.args.suggestion.now.place (option_map (λ name. name.now) c.module_at.result)) c.args.page.now.same c.module_at.ensures.spelled;
      says = search rules;
    })

pub returns-clause-among : goal.returns-clause-among
returns-clause-among c =
    let told : Message = record {
      file = c.as_str-2.result;
      start = c.in-Some.start;
      end = c.in-Some.end;
      level = c.notice_of-notice.result.level;
      kind = c.notice_of-notice.result.kind;
      «module» = c.module_at.result;
      name = c.notice_of-notice.result.name;
      other = c.notice_of-notice.result.other;
      part = c.range_of.result;
      second = c.range_of-2.result;
      text = c.as_str-3.result;
      hint = c.match-hint.hint;
      expected = c.notice_of-notice.result.expected;
      actual = c.notice_of-notice.result.actual;
      edits = c.as_slice.result;
    } in
    inl (record {
      message = told;
      module_is = c.module_at.ensures.among;
      says = search rules;
    })
