-- What the code has of a checked set.
use Rattle.hm_service_fixes.specs.Judged.{JudgedSet}
use Rattle.hm_service_fixes.specs.declared.judged.Judged.{Judged}
use Rattle.hm_service_fixes.specs.declared.judged.Settled.{Settled}
use Rattle.hm_service_fixes.specs.declared.judged.Settled.TheVariants as settled
use Rattle.hm_store.specs.Builds.{set_of}
use Rattle.hm_store.specs.Settlements.{settlement}
use Rattle.hm_verdicts.specs.Verdicts.{Status, Published, Failed, Skipped}

abbrev pub judged_of : Judged → JudgedSet
judged_of j = record { set = set_of j.store.now; status = settlement j.store.now; sources = j.sources.now; checked = j.is_checked }

abbrev pub status_of : Settled → Status
status_of (settled.Published f) = Published f.now
status_of (settled.Failed found) = Failed found.now
status_of settled.Skipped = Skipped
