use Rattle.std.proofs.Common.{◌≡◌, ◌∙◌, ◌<◌, ◌≤◌, length, get_or, ap, sym, subst, arith}
use Rattle.std.proofs.lemmas.List.{length-map}
use Rattle.hm_graph_components.specs.Digraph.{lists}
use Rattle.hm_infer_dependencies.specs.Nodes.{AllShown}
use Rattle.hm_typing.specs.Names.{IsOneOf}
use Rattle.hm_infer_expressions.proofs.ListSteps.{group_at, rows_long, written_to}
use Rattle.hm_infer_results.proofs.FaultyGroups.{alike_after, all_told, below_all, next_told, one_at, told_before}
use Rattle.hm_infer_results.proofs.finding_faults.faulty_groups.Goals as goal

pub is_faulty-requires-clause-nodes : goal.is_faulty-requires-clause-nodes
is_faulty-requires-clause-nodes c =
    let low : c.groups.i < length c.args.list.now.found.now.groups.items = (let h = c.groups-test.true in omega (arith, h, c.len-i-end.ensures, c.args.list.now.found.now.groups.ok.0)) in
    let here : c.deref.result.now ≡ get_or (lists c.args.list.now.found.now.groups.items) c.groups.i c.deref.result.now = group_at c.args.list.now.found.now.groups.items c.groups.i c.index.result.now c.deref.result.now low c.index.ensures c.deref.ensures.value in
    let one : IsOneOf c.deref.result.now (lists c.args.list.now.found.now.groups.items) = one_at (lists c.args.list.now.found.now.groups.items) c.groups.i c.deref.result.now (rows_long c.args.list.now.found.now.groups.items c.groups.i low) here in
    below_all (length c.args.list.now.found.now.numbers) c.deref.result.now (c.requires.groups.below c.deref.result.now one)

pub is_faulty-requires-clause-some : goal.is_faulty-requires-clause-some
is_faulty-requires-clause-some c =
    let low : c.groups.i < length c.args.list.now.found.now.groups.items = (let h = c.groups-test.true in omega (arith, h, c.len-i-end.ensures, c.args.list.now.found.now.groups.ok.0)) in
    let here : c.deref.result.now ≡ get_or (lists c.args.list.now.found.now.groups.items) c.groups.i c.deref.result.now = group_at c.args.list.now.found.now.groups.items c.groups.i c.index.result.now c.deref.result.now low c.index.ensures c.deref.ensures.value in
    let one : IsOneOf c.deref.result.now (lists c.args.list.now.found.now.groups.items) = one_at (lists c.args.list.now.found.now.groups.items) c.groups.i c.deref.result.now (rows_long c.args.list.now.found.now.groups.items c.groups.i low) here in
    c.requires.groups.some c.deref.result.now one

pub is_faulty-requires-clause-alike : goal.is_faulty-requires-clause-alike
is_faulty-requires-clause-alike c =
    let low : c.groups.i < length c.args.list.now.found.now.groups.items = (let h = c.groups-test.true in omega (arith, h, c.len-i-end.ensures, c.args.list.now.found.now.groups.ok.0)) in
    let here : c.deref.result.now ≡ get_or (lists c.args.list.now.found.now.groups.items) c.groups.i c.deref.result.now = group_at c.args.list.now.found.now.groups.items c.groups.i c.index.result.now c.deref.result.now low c.index.ensures c.deref.ensures.value in
    let one : IsOneOf c.deref.result.now (lists c.args.list.now.found.now.groups.items) = one_at (lists c.args.list.now.found.now.groups.items) c.groups.i c.deref.result.now (rows_long c.args.list.now.found.now.groups.items c.groups.i low) here in
    alike_after c.deref.result.now c.args.typed.now c.groups.typed c.groups.invariant.same (c.requires.groups.alike c.deref.result.now one)

pub groups-preserved : goal.groups-preserved
groups-preserved c =
    let low : c.groups.i < length c.args.list.now.found.now.groups.items = (let h = c.groups-test.true in omega (arith, h, c.len-i-end.ensures, c.args.list.now.found.now.groups.ok.0)) in
    let here : c.deref.result.now ≡ get_or (lists c.args.list.now.found.now.groups.items) c.groups.i c.deref.result.now = group_at c.args.list.now.found.now.groups.items c.groups.i c.index.result.now c.deref.result.now low c.index.ensures c.deref.ensures.value in
    let rows = lists c.args.list.now.found.now.rows.items in
    let unchanged : c.is_faulty.new.shown ≡ c.groups.shown.items = c.in_ok-is_fault.ensures.shown ∙ c.deref_mut.ensures.value in
    record {
      told = next_told c.args.list.now.decls.now c.args.list.now.found.now.numbers rows (lists c.args.list.now.found.now.groups.items) c.groups.i c.deref.result.now c.args.typed.now c.groups.faulty.items c.push.new.self.items c.in_ok-is_fault.is_fault (rows_long c.args.list.now.found.now.groups.items c.groups.i low) here c.in_ok-push.ensures.items c.groups.invariant.told
          (told_before c.args.list.now.decls.now c.args.list.now.found.now.numbers rows c.deref.result.now c.args.typed.now c.groups.typed c.in_ok-is_fault.is_fault c.groups.invariant.same c.in_ok-is_fault.ensures.told);
      same = λ j. c.in_ok-is_fault.ensures.table j ∙ c.groups.invariant.same j;
      sized = c.is_faulty.auto.typed ∙ c.groups.invariant.sized;
      shown = subst (λ s. AllShown s (length c.args.list.now.found.now.numbers)) (sym (written_to c.is_faulty.new.shown c.groups.shown.items c.groups.shown.len c.groups.shown.ok.0 (ap length unchanged) ∙ unchanged)) c.groups.invariant.shown;
    }

pub returns-clause-told : goal.returns-clause-told
returns-clause-told c =
    let last : length c.args.list.now.found.now.groups.items ≤ c.groups.i = (let h = c.groups-test.false in omega (arith, h, c.len-i-end.ensures, c.args.list.now.found.now.groups.ok.0)) in
    all_told c.args.list.now.decls.now c.args.list.now.found.now.numbers (lists c.args.list.now.found.now.rows.items) (lists c.args.list.now.found.now.groups.items) c.groups.i c.args.typed.now c.groups.faulty.items (subst (λ z. z ≤ c.groups.i) (sym (length-map c.args.list.now.found.now.groups.items (λ r. r.items))) last) c.groups.invariant.told
