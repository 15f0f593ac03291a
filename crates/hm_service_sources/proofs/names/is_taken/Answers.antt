use Rattle.std.proofs.Common.{◌≡◌, ◌≢◌, ◌∙◌, false, length, refl, sym, Some, None}
use Rattle.std.proofs.lemmas.Bool.{both_ways}
use Rattle.hm_graph.specs.Imports.{name_at, prelude}
use Rattle.hm_graph.specs.Numbering.{number_of}
use Rattle.hm_service_sources.specs.LeftOut.{outlines_of}
use Rattle.hm_service_sources.proofs.Firsts.{differs, name_is, not_absent, taken_by_other}
use Rattle.hm_service_sources.proofs.names.is_taken.Goals as goal

pub returns-in-Some : goal.returns-in-Some
returns-in-Some c =
    let modules = outlines_of c.args.located.now in
    let name = c.as_str-name.result.now in
    let is : name_at modules c.args.number ≡ name = name_is c.args.located.now c.args.number c.index-located-number.result c.requires.number ∙ sym c.as_str-name.ensures in
    let found : number_of c.args.numbers.now name ≡ Some c.in-Some.first.now = sym c.in-Some.ensures.value in
    let other : name ≢ prelude = λ same. both_ways c.is_prelude.result c.if-is_prelude.false (c.is_prelude.ensures.1 same) in
    let either = taken_by_other modules (length c.args.located.now) c.args.numbers.now c.requires.numbers name c.args.number c.in-Some.first.now c.requires.number is other found in
    let apart = differs c.in-Some.first.now c.args.number in
    (λ h. either.0 (apart.0 h), λ taken. apart.1 (either.1 taken))

pub returns-in-None : goal.returns-in-None
returns-in-None c =
    let modules = outlines_of c.args.located.now in
    let name = c.as_str-name.result.now in
    let is : name_at modules c.args.number ≡ name = name_is c.args.located.now c.args.number c.index-located-number.result c.requires.number ∙ sym c.as_str-name.ensures in
    let absent : number_of c.args.numbers.now name ≡ None = sym c.in-None.ensures.value in
    (λ no_way. absurd (both_ways false refl no_way), λ taken. absurd (not_absent modules (length c.args.located.now) c.args.numbers.now c.requires.numbers name c.args.number c.requires.number is absent))
