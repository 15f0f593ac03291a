use Rattle.hm_service_references.specs.Names.{AreFirstNames}
use Rattle.hm_service_references.specs.Views.{known_of}
use Rattle.hm_service_references.proofs.names.all_names.Given as goal

abbrev pub invariant-modules : goal.invariant-modules
invariant-modules l = AreFirstNames (known_of l.view) l.part l.number l.names.items
