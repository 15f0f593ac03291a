use Rattle.std.proofs.Common.{◌≡◌, length, take}
use Rattle.hm_graph_components.specs.Digraph.{lists}
use Rattle.hm_infer_dependencies.specs.Nodes.{AllShown}
use Rattle.hm_infer_results.specs.UnitFaults.{AreGroupsTold, IsSameTable}
use Rattle.hm_infer_results.proofs.finding_faults.faulty_groups.Given as goal

abbrev pub invariant-groups : goal.invariant-groups
invariant-groups l = record {
  told : AreGroupsTold l.list.decls.now l.list.found.now.numbers (lists l.list.found.now.rows.items) (take l.i (lists l.list.found.now.groups.items)) l.initial.typed l.faulty.items;
  same : IsSameTable l.initial.typed l.typed;
  sized : length l.typed ≡ length l.list.found.now.numbers;
  shown : AllShown l.shown.items (length l.list.found.now.numbers);
}
