use Rattle.std.proofs.Common.{All, subst, sym}
use Rattle.hm_build_exporters.specs.Having.{IsExporter}
use Rattle.hm_build_exporters.specs.SettledSets.{set_of, status_in}
use Rattle.hm_build_exporters.proofs.Rows.{all_more}
use Rattle.hm_build_exporters.proofs.exporters.exporters_of.Goals as goal

pub modules-preserved : goal.modules-preserved
modules-preserved c =
    let P = IsExporter (set_of c.args.set.now) (status_in c.args.set.now) c.args.importer c.args.missing.space c.args.missing.name.now in
    subst (All P) (sym c.in_ok-add_exporter.ensures) (all_more P c.modules.found.items c.exporter_at-exporter.result c.modules.invariant c.exporter_at-exporter.ensures)
