use Rattle.hm_typing.proofs.FaultsOfSources.{faults_listed}
use Rattle.hm_typing.proofs.PatternsOfSources.{one_unit_fault, pattern_faults, both_nameless}
use Rattle.hm_typing.proofs.sources.sources_with_faults.Goals as goal

pub returns : goal.returns
returns c = record { some_faults = faults_listed; pattern_is_one_unit = one_unit_fault; pattern_fault = pattern_faults; nameless_faults = both_nameless }
