use Rattle.std.proofs.Common.{rules, ◌≡◌, subst}
use Rattle.hm_build_place_texts.specs.Facts.{binding_of, in_module}
use Rattle.hm_build_places.specs.Answers.{DeclaresAt, DeclaresNowhere, IsBoundAt, declared, undeclared}
use Rattle.hm_build_places.specs.Known.{IsNumberOf, origin_of}
use Rattle.hm_build_places.specs.Views.{known_of}
use Rattle.hm_build_places.proofs.bound.entity_bound.Goals as goal

pub returns-in_ok-bound_at-in-Some-2 : goal.returns-in_ok-bound_at-in-Some-2
returns-in_ok-bound_at-in-Some-2 c =
    let k = known_of c.args.view.now in
    let e = c.args.entity.now in
    let i = c.in-Some.number in
    let place = c.in-Some-2.place in
    let number : IsNumberOf k c.module.result.now i = search rules in
    let at : DeclaresAt k c.args.kind e i place = search rules in
    let bound : IsBoundAt k (origin_of k i) place (binding_of c.in_ok-bound_at-in-Some-2.field-0) = search rules in
    declared (subst (λ x. IsNumberOf k x i) c.module.ensures number) at bound

pub returns-in_ok-bound_in-in-None : goal.returns-in_ok-bound_in-in-None
returns-in_ok-bound_in-in-None c =
    let k = known_of c.args.view.now in
    let e = c.args.entity.now in
    let i = c.in-Some.number in
    let number : IsNumberOf k c.module.result.now i = search rules in
    let nowhere : DeclaresNowhere k c.args.kind e i = search rules in
    let bound : binding_of c.in_ok-bound_in-in-None.field-0 ≡ in_module e.«module» = search rules in
    undeclared (subst (λ x. IsNumberOf k x i) c.module.ensures number) nowhere bound
