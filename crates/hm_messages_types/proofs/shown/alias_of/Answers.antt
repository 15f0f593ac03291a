use Rattle.std.proofs.Common.{rules, ◌≡◌, ◌∙◌, string_bytes, ap, subst, sym, true}
use Rattle.hm_types.specs.Monotypes.{Mono}
use Rattle.hm_types.specs.Shape.{type_of}
use Rattle.hm_types_display.specs.Texts.{scheme_text_of}
use Rattle.hm_messages_types.specs.Shown.{is_bracketed}
use Rattle.hm_messages_types.proofs.shown.alias_of.Goals as goal

pub returns : goal.returns
returns c =
    let entry = c.args.entry.now in
    let name : string_bytes c.in_ok-name.name ≡ entry.name = search rules in
    let body : type_of c.body-body.result.now ≡ entry.synonym.body = search rules in
    let text : string_bytes c.in-Some.text ≡ scheme_text_of (record { vars = 0; body = type_of c.body-body.result.now }) = search rules in
    let home : entry.entity.«module» ≡ c.args.home.now = search rules in
    let own : entry.entity.name ≡ entry.name = search rules in
    let closed : entry.synonym.parameters ≡ 0 = search rules in
    let bracketed : is_bracketed entry.synonym.body ≡ true = subst (λ (t : Mono). is_bracketed t ≡ true) body (c.is_bracketed.ensures c.if-not-is_bracketed.false) in
    record {
      named = sym name;
      declared = home;
      own = own ∙ sym name;
      closed = closed;
      bracketed = bracketed;
      text_is = text ∙ ap (λ (t : Mono). scheme_text_of (record { vars = 0; body = t })) body;
    }
