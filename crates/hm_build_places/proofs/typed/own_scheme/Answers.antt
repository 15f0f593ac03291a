use Rattle.std.proofs.Common.{rules, ◌≡◌, ◌++◌, ap, map, string_bytes, subst}
use Rattle.std.specs.Prelude.{codes}
use Rattle.std.specs.Arc.{arc_value}
use Rattle.hm_messages_here.specs.TypesHere.{HasSchemeHere}
use Rattle.hm_build_places.specs.Known.{IsNumberOf}
use Rattle.hm_build_places.specs.TypesAt.{HasOwnScheme, IsRead}
use Rattle.hm_build_places.specs.Views.{known_of}
use Rattle.hm_build_places.proofs.TypesFound.{found_so, own_scheme_of}
use Rattle.hm_build_places.proofs.typed.own_scheme.Goals as goal

pub returns : goal.returns
returns c =
    let k = known_of c.args.view.now in
    let e = c.args.entity.now in
    let i = c.in-Some.number in
    let read = c.in-Some-2.read in
    let whole = read.whole.source.items in
    let fs = map arc_value read.imports.items in
    let question = c.question_of-question.result in
    let gs = map arc_value question.imports.now in
    let named : IsNumberOf k c.module.result.now i = search rules in
    let is_read : IsRead k i whole fs = search rules in
    let text : c.as_str.result.now ≡ e.«module» ++ (codes "." ++ e.name) = search rules in
    found_so (λ t. HasSchemeHere question.source.now question.name.now gs c.as_str.result.now (string_bytes t))
    (λ t. HasOwnScheme k e (string_bytes t))
    c.in_ok-scheme_here.field-0
    (λ t h. own_scheme_of k e i whole question.source.now question.name.now fs gs c.as_str.result.now (string_bytes t)
    c.question_of-question.ensures.source c.question_of-question.ensures.name (ap (map arc_value) c.question_of-question.ensures.imports)
    text (subst (λ x. IsNumberOf k x i) c.module.ensures named) is_read h)
    c.in_ok-scheme_here.ensures
