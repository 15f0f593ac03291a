use Rattle.std.proofs.Common.{get_or, length, refl, ap, ◌∙◌}
use Rattle.std.proofs.lemmas.List.{length-set}
use Rattle.hm_store.proofs.OpenImports.{one_closed, still_counted}
use Rattle.hm_store.proofs.store.ready_set.close_imports.Goals as goal

pub close_import-requires-clause-count : goal.close_import-requires-clause-count
close_import-requires-clause-count c = still_counted c.args.counts.now c.loop-importer.counts c.args.importers.now c.loop-importer.importer-index c.loop-importer-test.true c.requires.counts c.loop-importer.invariant.counts

pub loop-importer-preserved : goal.loop-importer-preserved
loop-importer-preserved c =
    let i = c.loop-importer.importer-index in
    let m = get_or c.args.importers.now i 0 in
    let pos = still_counted c.args.counts.now c.loop-importer.counts c.args.importers.now i c.loop-importer-test.true c.requires.counts c.loop-importer.invariant.counts in
    record {
      len = ap length c.close_import.ensures.counts ∙ (length-set c.loop-importer.counts m _ ∙ c.loop-importer.invariant.len);
      counts = rw c.close_import.ensures.counts (one_closed c.args.counts.now c.loop-importer.counts c.args.importers.now i m c.loop-importer-test.true refl pos c.loop-importer.invariant.counts);
      heap = c.close_import.ensures.heap;
      room = c.close_import.ensures.room;
    }
