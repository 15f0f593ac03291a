use Rattle.std.proofs.Common.{◌≡◌, ℕ, ◌↔◌, Bool, List, length, subst, sym, ◌∙◌}
use Rattle.std.specs.Vec.{with_items}
use Rattle.std.proofs.lemmas.List.{with_items_is}
use Rattle.hm_graph_components.specs.Digraph.{Reaches, lists}
use Rattle.hm_graph_components.specs.Marks.{IsMarked}
use Rattle.hm_graph.proofs.DependentMarks.{IsClosed-importers, marked_dependents}
use Rattle.hm_graph.proofs.dependents.Dependents.find.Goals as goal

pub mark_reached-requires-clause-closed : goal.mark_reached-requires-clause-closed
mark_reached-requires-clause-closed c = IsClosed-importers c.args.plan.now (lists c.importer_rows.result.now) c.importer_rows.ensures

pub returns-clause-marks : goal.returns-clause-marks
returns-clause-marks c =
    let found = c.mark_reached.new.marks in
    let cleared = with_items c.self.inside.marks c.clear.new.marks in
    let long : length found ≡ cleared.len = c.mark_reached.auto.marks ∙ c.deref_mut-2.ensures.len in
    let back : (with_items cleared found).items ≡ found = with_items_is cleared found long in
    subst (λ (xs : List Bool). (k : ℕ) → IsMarked xs k ↔ Reaches c.args.plan.now k c.args.number) (sym back)
    (marked_dependents c.args.plan.now (lists c.importer_rows.result.now) c.args.number found c.importer_rows.ensures c.mark_reached.ensures.reached)
