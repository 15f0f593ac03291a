use Rattle.std.proofs.Common.{◌∙◌, ap, false}
use Rattle.hm_types.specs.Shape.{type_of}
use Rattle.hm_types.specs.Types.{put}
use Rattle.hm_infer_context.specs.AssumedTypes.{type_in}
use Rattle.hm_infer_context.specs.Environments.{opened}
use Rattle.hm_names.specs.SchemeTables.{scheme_of}
use Rattle.hm_infer_expressions.proofs.CanonicalSchemes.{opened_arities, opened_no_rigid}
use Rattle.hm_infer_results.proofs.SchemesPut.{one_put}
use Rattle.hm_infer_results.proofs.module_schemes.put_scheme.Goals as goal

pub canonical-requires-clause-not_rigid : goal.canonical-requires-clause-not_rigid
canonical-requires-clause-not_rigid c = opened_no_rigid c.args.binding.now.quantified (type_in c.args.binding.now.body) (type_of c.in_ok-body.body) c.requires (c.in_ok-body.ensures ∙ ap (put (opened false c.args.binding.now.quantified 0)) c.as_type-assumed.ensures)

pub canonical-requires-clause-arities : goal.canonical-requires-clause-arities
canonical-requires-clause-arities c = opened_arities c.args.binding.now.quantified (type_in c.args.binding.now.body) (type_of c.in_ok-body.body) c.requires (c.in_ok-body.ensures ∙ ap (put (opened false c.args.binding.now.quantified 0)) c.as_type-assumed.ensures)

pub returns : goal.returns
returns c = one_put c.args.home.now c.in-Some.text.now c.args.binding.now (type_of c.in_ok-body.body) c.in_ok-canonical.field-0 (scheme_of c.args.schemes.now) (scheme_of c.put.new.self) c.in-Some.ensures.own (c.in_ok-body.ensures ∙ ap (put (opened false c.args.binding.now.quantified 0)) c.as_type-assumed.ensures) c.in_ok-canonical.ensures c.in_ok-put.ensures.given
