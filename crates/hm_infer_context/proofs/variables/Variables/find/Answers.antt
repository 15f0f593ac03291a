use Rattle.std.proofs.Common.{◌≡◌, Some, None, refl, sym, subst, ◌∙◌, arith, length, take}
use Rattle.std.proofs.lemmas.Option.{slice_get_read}
use Rattle.hm_types.specs.Shape.{type_of}
use Rattle.hm_typing.specs.Names.{IsOneOf}
use Rattle.hm_names_keys.specs.Keys.{number_of, variable_of_key}
use Rattle.hm_names_keys.specs.Variables.{Variable, identifier, variable_of}
use Rattle.hm_names_keys.proofs.SameVariables.{look_up}
use Rattle.hm_infer_context.specs.Kept.{variables_of}
use Rattle.hm_infer_context.specs.Patterns.{IsTypeOf, names_of}
use Rattle.hm_infer_context.specs.Places.{IsPlaceOf, few}
use Rattle.hm_names.specs.Syntax.{name_of}
use Rattle.hm_infer_context.proofs.Placed.{place_is_inside, type_at_place, none_kept, none_of_all}
use Rattle.hm_infer_context.proofs.variables.Variables.find.Goals as goal

pub index-requires : goal.index-requires
index-requires c =
    let h = place_is_inside c.self.inside.items.items (variable_of_key c.key_of-key.result) c.in-Some.place (rw c.deref.ensures.value at c.in-Some.ensures) in
    omega (arith, h, c.self.inside.items.ok.0)

pub returns-in-Some : goal.returns-in-Some
returns-in-Some c =
    let items = c.self.inside.items.items in
    let x = variable_of c.args.name.now in
    let there : IsPlaceOf items x c.in-Some.place = subst (λ y. IsPlaceOf items y c.in-Some.place) c.key_of-key.ensures (rw c.deref.ensures.value at c.in-Some.ensures) in
    subst (λ vs. IsTypeOf (name_of c.args.name.now) (type_of c.index.result.now.ty) vs) c.self.view_is
    (type_at_place items x c.in-Some.place c.index.result.now there
    (slice_get_read items (length items) c.in-Some.place c.index.result.now refl (place_is_inside items x c.in-Some.place there) c.index.ensures))

pub returns-then-len-le-FEW : goal.returns-then-len-le-FEW
returns-then-len-le-FEW c =
    let items = c.self.inside.items.items in
    let absent : ¬ (IsOneOf (identifier (variable_of c.args.name.now)) (names_of (variables_of (take few items)))) =
    subst (λ (y : Variable). ¬ (IsOneOf (identifier y) (names_of (variables_of (take few items))))) c.key_of-key.ensures (rw c.deref.ensures.value at c.in-None.ensures) in
    none_of_all items (variable_of c.args.name.now) c.args.self.now (omega (arith, c.if-len-le-FEW.true, c.len.ensures, c.self.inside.items.ok.0)) c.self.view_is absent

pub index-requires-in-Some-get : goal.index-requires-in-Some-get
index-requires-in-Some-get c =
    let x = variable_of c.args.name.now in
    let e : number_of c.self.inside.places x ≡ Some c.in-Some-get.place.now = sym (look_up c.self.inside.places c.key_of-key.result x c.key_of-key.ensures) ∙ sym c.in-Some-get.ensures.value in
    let h = place_is_inside c.self.inside.items.items x c.in-Some-get.place.now (c.self.invariant.some x c.in-Some-get.place.now e) in
    omega (arith, h, c.self.inside.items.ok.0)

pub returns-in-Some-get : goal.returns-in-Some-get
returns-in-Some-get c =
    let items = c.self.inside.items.items in
    let x = variable_of c.args.name.now in
    let p = c.in-Some-get.place.now in
    let d = c.index-in-Some-get.result.now in
    let e : number_of c.self.inside.places x ≡ Some p = sym (look_up c.self.inside.places c.key_of-key.result x c.key_of-key.ensures) ∙ sym c.in-Some-get.ensures.value in
    let there : IsPlaceOf items x p = c.self.invariant.some x p e in
    subst (λ vs. IsTypeOf (name_of c.args.name.now) (type_of d.ty) vs) c.self.view_is
    (type_at_place items x p d there (slice_get_read items (length items) p d refl (place_is_inside items x p there) c.index-in-Some-get.ensures))

pub returns-in-None-get : goal.returns-in-None-get
returns-in-None-get c =
    let items = c.self.inside.items.items in
    let x = variable_of c.args.name.now in
    let absent : ¬ (IsOneOf (identifier x) (names_of (variables_of (take few items)))) =
    subst (λ (y : Variable). ¬ (IsOneOf (identifier y) (names_of (variables_of (take few items))))) c.key_of-key.ensures (rw c.deref.ensures.value at c.in-None.ensures) in
    let e : number_of c.self.inside.places x ≡ None = sym (look_up c.self.inside.places c.key_of-key.result x c.key_of-key.ensures) ∙ sym c.in-None-get.ensures.value in
    none_kept items c.self.inside.places x c.args.self.now c.self.invariant c.self.view_is absent e
