use Rattle.std.proofs.Common.{◌∙◌, ap, map, refl, length, List}
use Rattle.hm_types.specs.Shape.{type_of}
use Rattle.hm_types.specs.Monotypes.{Mono}
use Rattle.hm_syntax.specs.Trees.{TypeTree}
use Rattle.hm_names.specs.DeclaredSchemes.{functions_to, numbered}
use Rattle.hm_names.specs.Entities.{named}
use Rattle.hm_names.specs.Types.{program_of, type_in}
use Rattle.hm_names.proofs.ConstructorTypes.{made_no_rigid, made_arities, scheme_is}
use Rattle.hm_names.proofs.declared_schemes.declared_scheme.Goals as goal

pub canonical-requires-clause-not_rigid : goal.canonical-requires-clause-not_rigid
canonical-requires-clause-not_rigid c =
    let arguments : List Mono = map (λ t. program_of (type_in c.in_ok-variables.variables t)) c.deref.result.now in
    made_no_rigid c.in_ok-variables.variables c.deref.result.now (named c.args.home.now c.args.owner.now.text) (numbered 0 (length c.args.params.now)) arguments (length c.args.params.now) (type_of c.in_ok-ty.ty) refl refl
    (c.in_ok-ty.ensures ∙ ap (functions_to arguments) c.in_ok-outcome.ensures)

pub canonical-requires-clause-arities : goal.canonical-requires-clause-arities
canonical-requires-clause-arities c =
    let arguments : List Mono = map (λ t. program_of (type_in c.in_ok-variables.variables t)) c.deref.result.now in
    made_arities c.in_ok-variables.variables c.deref.result.now (named c.args.home.now c.args.owner.now.text) (numbered 0 (length c.args.params.now)) arguments (length c.args.params.now) (type_of c.in_ok-ty.ty) refl refl
    (c.in_ok-ty.ensures ∙ ap (functions_to arguments) c.in_ok-outcome.ensures)

pub returns : goal.returns
returns c = λ distinct.
    let arguments : List Mono = map (λ t. program_of (type_in c.in_ok-variables.variables t)) c.deref.result.now in
    c.in_ok-canonical.ensures ∙ scheme_is c.args.home.now c.args.owner.now c.args.params.now c.constr.inside.name c.constr.inside.args.items c.args.constr.now c.in_ok-variables.variables (named c.args.home.now c.args.owner.now.text) (numbered 0 (length c.args.params.now)) arguments (type_of c.in_ok-ty.ty)
    c.constr.view_is (c.in_ok-variables.ensures distinct) refl refl
    (ap (λ (l : List TypeTree). map (λ t. program_of (type_in c.in_ok-variables.variables t)) l) c.deref.ensures.value)
    (c.in_ok-ty.ensures ∙ ap (functions_to arguments) c.in_ok-outcome.ensures)
