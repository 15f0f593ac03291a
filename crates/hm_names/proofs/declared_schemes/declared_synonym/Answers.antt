use Rattle.std.proofs.Common.{◌∙◌}
use Rattle.hm_names.proofs.ConstructorTypes.{synonym_fits, synonym_equal}
use Rattle.hm_names.proofs.declared_schemes.declared_synonym.Goals as goal

pub new-requires : goal.new-requires
new-requires c = synonym_fits c.args.params.now c.in_ok-variables.variables c.args.ty.now c.len.result _ c.requires (c.in_ok-variables.ensures c.requires.distinct) c.len.ensures c.in_ok-body.ensures

pub returns : goal.returns
returns c = c.new.ensures ∙ synonym_equal c.args.params.now c.in_ok-variables.variables c.args.ty.now c.len.result _ c.requires (c.in_ok-variables.ensures c.requires.distinct) c.len.ensures c.in_ok-body.ensures
