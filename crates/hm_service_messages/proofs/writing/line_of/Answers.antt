use Rattle.std.proofs.Common.{rules, ◌≡◌, ◌∙◌, ap, map, string_bytes, refl}
use Rattle.std.specs.Fmt.{decimal}
use Rattle.hm_messages_json.specs.declared.message.Message.{Message}
use Rattle.hm_service_messages.specs.Lines.{edit_of, lent_of}
use Rattle.hm_service_messages.proofs.writing.line_of.Goals as goal

pub returns : goal.returns
returns c =
    let d = c.args.diagnostic.now in
    let m : Message = record {
      file = c.as_str.result;
      start = d.start;
      end = d.end;
      level = d.level;
      kind = c.as_str-2.result;
      «module» = c.lent.result;
      name = c.lent-2.result;
      other = d.other;
      text = c.as_str-3.result;
      hint = c.lent-3.result;
      expected = c.lent-4.result;
      actual = c.lent-5.result;
      part = d.part;
      second = d.second;
      edits = c.as_slice-2.result;
    } in
    let file : c.as_str.result.now ≡ decimal d.source = search rules in
    let kind : c.as_str-2.result.now ≡ string_bytes d.kind = search rules in
    let text : c.as_str-3.result.now ≡ string_bytes d.text = search rules in
    let edits : map lent_of c.as_slice-2.result.now ≡ map edit_of d.edits.items =
    ap (map lent_of) c.as_slice-2.ensures.value ∙ (c.in_ok-edits.ensures ∙ ap (map edit_of) c.as_slice.ensures.value) in (
      m,
      (
        record {
          file = file;
          start = refl;
          end = refl;
          level = refl;
          kind = kind;
          text = text;
          hint = c.lent-3.ensures;
          owner = c.lent.ensures;
          name = c.lent-2.ensures;
          other_place = refl;
          expected = c.lent-4.ensures;
          actual = c.lent-5.ensures;
          part_is = refl;
          second_is = refl;
          edits = edits;
        },
        c.in_ok-line.ensures,
      ),
    )
