use Rattle.std.proofs.Common.{◌∙◌, refl, []}
use Rattle.hm_types.specs.Shape.{type_of}
use Rattle.hm_types.specs.Schemes.{variables}
use Rattle.hm_types.specs.Numbers.{Numbers}
use Rattle.hm_types.proofs.InOrder.{canonical_parts, canonical_from}
use Rattle.hm_types.proofs.Table.{empty_numbers}
use Rattle.hm_types_subsumption.proofs.Numbered.{copied_scheme, copied_valid}
use Rattle.hm_types_subsumption.proofs.numbering.canonical.Goals as goal

pub new-requires : goal.new-requires
new-requires c = copied_valid (type_of c.args.body.now) (type_of c.in_ok-copy.field-0) c.in-Some.count c.in_ok-copy.ensures c.in-Some.ensures c.requires.not_rigid c.requires.arities

pub returns-in-Some : goal.returns-in-Some
returns-in-Some c = c.new.ensures ∙ copied_scheme (type_of c.args.body.now) (type_of c.in_ok-copy.field-0) c.in-Some.count c.in_ok-copy.ensures c.in-Some.ensures

pub new-requires-2 : goal.new-requires-2
new-requires-2 c =
    let t = type_of c.args.body.now in
    let numbers : Numbers c.collect.new.places (variables t) = c.in_ok-collect.ensures [] (empty_numbers c.new-places.result c.new-places.ensures.empty) in
    canonical_parts t (type_of c.in_ok-numbered.numbered) c.len.result (variables t) refl (c.len.ensures.len ∙ numbers.many) (c.in_ok-numbered.ensures (variables t) numbers)
    c.requires.not_rigid c.requires.arities

pub returns : goal.returns
returns c =
    let t = type_of c.args.body.now in
    let numbers : Numbers c.collect.new.places (variables t) = c.in_ok-collect.ensures [] (empty_numbers c.new-places.result c.new-places.ensures.empty) in
    c.new-2.ensures ∙
    canonical_from t (type_of c.in_ok-numbered.numbered) c.len.result (variables t) refl (c.len.ensures.len ∙ numbers.many) (c.in_ok-numbered.ensures (variables t) numbers)
