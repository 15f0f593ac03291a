use Rattle.hm_service_references.specs.Imported.{AreAllImported}
use Rattle.hm_service_references.specs.Views.{known_of}
use Rattle.hm_service_references.proofs.imported.all_imported.Given as goal

abbrev pub invariant-modules : goal.invariant-modules
invariant-modules l = AreAllImported (known_of l.view) l.number l.all.items
