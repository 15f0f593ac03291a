use Rattle.std.proofs.Common.{rules, ◌≡◌, ◌∙◌, ◌++◌, ap, map, string_bytes}
use Rattle.std.specs.Arc.{arc_value}
use Rattle.hm_syntax.specs.Names.{Identifier}
use Rattle.hm_messages_here.specs.TypesHere.{HasTypeAt}
use Rattle.hm_messages_here.specs.declared.here.TypeHere.{TypeHere}
use Rattle.hm_build_places.specs.TypesAt.{IsRead, IsTypedAt, place_of, qualifier_text}
use Rattle.hm_build_places.specs.Views.{known_of}
use Rattle.hm_build_places.proofs.TypesFound.{found_so, typed_at}
use Rattle.hm_build_places.proofs.here.type_at.Goals as goal

pub returns : goal.returns
returns c =
    let k = known_of c.args.view.now in
    let i = c.args.number in
    let m = c.args.one.now.mention in
    let read = c.in-Some.read in
    let whole = read.whole.source.items in
    let fs = map arc_value read.imports.items in
    let question = c.question_of-question.result in
    let gs = map arc_value question.imports.now in
    let name = c.name-name.result.now in
    let is_read : IsRead k i whole fs = search rules in
    let text : string_bytes c.in_ok-text.text ≡ qualifier_text name.qualifier ++ name.text = search rules in
    found_so (λ (t : TypeHere). HasTypeAt question.source.now question.name.now gs c.place_of.result c.as_str.result.now (string_bytes t.definition) (string_bytes t.own) (string_bytes t.here))
    (λ (t : TypeHere). IsTypedAt k i m (string_bytes t.definition) (string_bytes t.own) (string_bytes t.here))
    c.in_ok-type_here.field-0
    (λ t h. typed_at k i m whole question.source.now question.name.now fs gs c.place_of.result c.as_str.result.now (string_bytes t.definition) (string_bytes t.own) (string_bytes t.here)
    c.question_of-question.ensures.source c.question_of-question.ensures.name (ap (map arc_value) c.question_of-question.ensures.imports)
    (c.place_of.ensures ∙ ap place_of c.name-name.ensures) (c.as_str.ensures.value ∙ (text ∙ ap (λ (n : Identifier). qualifier_text n.qualifier ++ n.text) c.name-name.ensures)) is_read h)
    c.in_ok-type_here.ensures
