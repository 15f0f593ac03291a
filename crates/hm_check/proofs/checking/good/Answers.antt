use Rattle.hm_names.specs.SchemeTables.{scheme_of}
use Rattle.hm_check.proofs.ModuleVerdicts.{all_given}
use Rattle.hm_check.proofs.checking.good.Goals as goal

pub export-requires-clause-schemes : goal.export-requires-clause-schemes
export-requires-clause-schemes c = all_given c.args.core.now (scheme_of c.args.schemes.now) c.requires.principal
