use Rattle.std.proofs.Common.{All}
use Rattle.hm_build_exporters.specs.Having.{IsExporter}
use Rattle.hm_build_exporters.specs.SettledSets.{set_of, status_in}
use Rattle.hm_build_exporters.proofs.exporters.exporters_of.Given as goal

abbrev pub invariant-modules : goal.invariant-modules
invariant-modules l = All (IsExporter (set_of l.set) (status_in l.set) l.importer l.missing.space l.missing.name.now) l.found.items
