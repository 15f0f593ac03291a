use Rattle.std.proofs.Common.{◌-◌, [], append-nil, refl, sym}
use Rattle.hm_messages.specs.Subjects.{lexeme}
use Rattle.hm_messages.proofs.refusals.lex_messages.Goals as goal

pub returns-in_ok-source_messages-in-Lexeme : goal.returns-in_ok-source_messages-in-Lexeme
returns-in_ok-source_messages-in-Lexeme c =
    let advice = c.lexeme_advice-hint.result in
    let text = c.in_ok-source_messages-in-Lexeme.field-0.items in
    rw c.in-Lexeme.is (record {
      subject = lexeme advice.hint advice.name.now;
      subject_is = (advice.hint, advice.name.now, refl, c.lexeme_advice-hint.ensures);
      number = c.args.source - 1;
      place = c.in-Lexeme.place;
      placed = (refl, refl);
      first = text;
      stated = c.in_ok-source_messages-in-Lexeme.ensures;
      rest = [];
      followed = (refl, refl);
      whole = sym (append-nil text);
    })
