use Rattle.hm_names.proofs.TopVariables.{distinct_names_of_core, own_names_of_core, declared_names_of_core, exported_values}
use Rattle.hm_names.proofs.TopEntities.{top_is_bound}
use Rattle.hm_names.proofs.laws.variables_of_a_module.Goals as goal

pub returns : goal.returns
returns c = record { distinct = distinct_names_of_core; own = own_names_of_core; declared = declared_names_of_core; top = top_is_bound; exported = exported_values }
