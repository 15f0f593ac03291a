use Rattle.std.proofs.Common.{rules, ◌≡◌, IfSome, ap, string_bytes, subst}
use Rattle.hm_types.specs.Schemes.{TypeScheme}
use Rattle.hm_types_display.specs.Texts.{scheme_text_of}
use Rattle.hm_build_place_texts.specs.Facts.{declared_of, not_exported, of_bad_module, principal}
use Rattle.hm_build_places.specs.Typed.{HasNoInterface, HasScheme, IsInterfaceOf, hidden, shown, unaccepted}
use Rattle.hm_build_places.specs.TypesAt.{IsOwnType}
use Rattle.hm_build_places.specs.Views.{known_of}
use Rattle.hm_build_places.proofs.typed.entity_type.Goals as goal

pub returns-in_default : goal.returns-in_default
returns-in_default c =
    let k = known_of c.args.view.now in
    let e = c.args.entity.now in
    let t = declared_of c.in_ok-own_type.field-0 in
    let none : HasNoInterface k c.module.result.now = search rules in
    let name : string_bytes c.in_ok-from_str.field-0 ≡ e.«module» = search rules in
    unaccepted (subst (HasNoInterface k) c.module.ensures none) (subst (λ l. IsOwnType k e l t) (ap of_bad_module name) c.in_ok-own_type.ensures)

pub returns-in_ok-scheme_text-in-Some-scheme_in : goal.returns-in_ok-scheme_text-in-Some-scheme_in
returns-in_ok-scheme_text-in-Some-scheme_in c =
    let k = known_of c.args.view.now in
    let f = c.in-Some.interface.now in
    let s = c.in-Some-scheme_in.scheme.now in
    let of : IsInterfaceOf k c.module.result.now f = subst (λ o. IfSome o (λ i. IsInterfaceOf k c.module.result.now i.now)) c.in-Some.is c.interface_of.ensures.some in
    let has : HasScheme f c.args.entity.now s c.args.kind = search rules in
    let text : string_bytes c.in_ok-scheme_text-in-Some-scheme_in.field-0 ≡ scheme_text_of s = search rules in
    shown (subst (λ x. IsInterfaceOf k x f) c.module.ensures of) has (ap principal text)

pub returns-in_ok-own_type-in-None : goal.returns-in_ok-own_type-in-None
returns-in_ok-own_type-in-None c =
    let k = known_of c.args.view.now in
    let e = c.args.entity.now in
    let f = c.in-Some.interface.now in
    let t = declared_of c.in_ok-own_type-in-None.field-0 in
    let of : IsInterfaceOf k c.module.result.now f = subst (λ o. IfSome o (λ i. IsInterfaceOf k c.module.result.now i.now)) c.in-Some.is c.interface_of.ensures.some in
    let none : (s : TypeScheme) → ¬ (HasScheme f e s c.args.kind) = search rules in
    let name : string_bytes c.in_ok-from_str-in-None.field-0 ≡ e.«module» = search rules in
    hidden (subst (λ x. IsInterfaceOf k x f) c.module.ensures of) none (subst (λ l. IsOwnType k e l t) (ap not_exported name) c.in_ok-own_type-in-None.ensures)
