use Rattle.std.proofs.Common.{◌≡◌, ◌∙◌, ◌<◌, All, length, sym, subst, ap}
use Rattle.std.proofs.lemmas.List.{length-map}
use Rattle.hm_graph_components.specs.Digraph.{lists}
use Rattle.hm_infer.specs.UnitStarts.{AreGroupStarts}
use Rattle.hm_infer.proofs.CoreStarts.{told_long}
use Rattle.hm_infer_results.proofs.FaultyGroups.{below_all}
use Rattle.hm_infer.proofs.untyped_units.unsigned_fault_starts.Goals as goal

pub unsigned_starts-requires-clause-nodes : goal.unsigned_starts-requires-clause-nodes
unsigned_starts-requires-clause-nodes c = λ g o.
    let size : length c.args.list.now.found.now.rows.items ≡ length c.args.list.now.found.now.numbers = sym (length-map c.args.list.now.found.now.rows.items (λ r. r.items)) ∙ c.requires.rows.size in
    subst (λ n. All (λ i. i < n) g) (sym size) (below_all (length c.args.list.now.found.now.numbers) g (c.requires.groups.below g o))

pub unsigned_starts-requires-clause-sized : goal.unsigned_starts-requires-clause-sized
unsigned_starts-requires-clause-sized c =
    ap length c.deref.ensures.value ∙ (told_long c.args.list.now.decls.now c.args.list.now.found.now.numbers (lists c.args.list.now.found.now.rows.items) (lists c.args.list.now.found.now.groups.items) c.args.typed.now c.in_ok-faulty.faulty.items c.in_ok-faulty.ensures.told ∙ length-map c.args.list.now.found.now.groups.items (λ r. r.items))

pub returns : goal.returns
returns c =
    let rows = lists c.args.list.now.found.now.rows.items in
    let gs = lists c.args.list.now.found.now.groups.items in
    record {
      faulty = c.in_ok-faulty.faulty.items;
      told = c.in_ok-faulty.ensures.told;
      starts_are = subst (λ z. AreGroupStarts rows gs z (length gs) c.in_ok-unsigned_starts.field-0.items) c.deref.ensures.value c.in_ok-unsigned_starts.ensures;
    }
