use Rattle.std.proofs.Common.{rules, subst, sym}
use Rattle.hm_uses_declarations.specs.Senses.{sense_of}
use Rattle.hm_build_place_texts.specs.Facts.{binding_of}
use Rattle.hm_build_places.specs.Answers.{IsBound, IsBoundAt}
use Rattle.hm_build_places.specs.Known.{origin_of}
use Rattle.hm_build_places.specs.Views.{known_of}
use Rattle.hm_build_places.proofs.bound.bound_of.Goals as goal

pub returns-in_ok-bound_at-in-Local : goal.returns-in_ok-bound_at-in-Local
returns-in_ok-bound_at-in-Local c =
    let k = known_of c.args.view.now in
    let b = binding_of c.in_ok-bound_at-in-Local.field-0 in
    let at : IsBoundAt k (origin_of k c.args.number) c.in-Local.place b = search rules in
    subst (λ m. IsBound k c.args.number c.args.kind (sense_of m) b) (sym c.in-Local.is) at

pub returns-in_ok-bound_at-in-TypeVariable : goal.returns-in_ok-bound_at-in-TypeVariable
returns-in_ok-bound_at-in-TypeVariable c =
    let k = known_of c.args.view.now in
    let b = binding_of c.in_ok-bound_at-in-TypeVariable.field-0 in
    let at : IsBoundAt k (origin_of k c.args.number) c.in-TypeVariable.place b = search rules in
    subst (λ m. IsBound k c.args.number c.args.kind (sense_of m) b) (sym c.in-TypeVariable.is) at
