use Rattle.std.proofs.Common.{◌≡◌, ◌<◌, ◌≤◌, ◌++◌, ◌∙◌, length, get_or, refl, sym, ap, subst, arith, append_assoc}
use Rattle.std.proofs.lemmas.List.{length-map}
use Rattle.hm_graph_components.specs.Digraph.{lists}
use Rattle.hm_infer_dependencies.specs.Groups.{node_name}
use Rattle.hm_infer_dependencies.specs.Nodes.{AllShown}
use Rattle.hm_syntax.specs.Lists.{declarations}
use Rattle.hm_infer_context.specs.Constructors.{known_of}
use Rattle.hm_infer_context.specs.Environments.{AreAssumed}
use Rattle.hm_infer_expressions.specs.Stages.{list_of}
use Rattle.hm_infer_generalisation.proofs.Closing.{assumed_part}
use Rattle.hm_infer_expressions.proofs.GroupEnds.{all_one}
use Rattle.hm_infer_expressions.proofs.ListSteps.{group_at, group_below, group_some, rows_long}
use Rattle.hm_infer_context.proofs.Extended.{extended}
use Rattle.hm_infer.proofs.UnitStages.{unit_step, units_end}
use Rattle.hm_infer.proofs.judging_units.judge_each.Goals as goal

pub judge_group-requires-clause-nodes : goal.judge_group-requires-clause-nodes
judge_group-requires-clause-nodes c =
    let k = known_of c.args.list.now.constructors.now in
    let gs = lists c.args.list.now.found.now.groups.items in
    let low : c.groups.i < length c.args.list.now.found.now.groups.items = (let h = c.groups-test.true in omega (arith, h, c.len-i-end.ensures, c.args.list.now.found.now.groups.ok.0)) in
    let here : c.deref.result.now ≡ get_or (lists c.args.list.now.found.now.groups.items) c.groups.i c.deref.result.now = group_at c.args.list.now.found.now.groups.items c.groups.i c.index.result.now c.deref.result.now low c.index.ensures c.deref.ensures.value in
    group_below (list_of k c.args.list.now.decls.now) (node_name k (declarations c.args.list.now.decls.now)) (length c.args.list.now.found.now.numbers) gs c.groups.i c.deref.result.now c.requires.groups (rows_long c.args.list.now.found.now.groups.items c.groups.i low) here

pub judge_group-requires-clause-some : goal.judge_group-requires-clause-some
judge_group-requires-clause-some c =
    let k = known_of c.args.list.now.constructors.now in
    let gs = lists c.args.list.now.found.now.groups.items in
    let low : c.groups.i < length c.args.list.now.found.now.groups.items = (let h = c.groups-test.true in omega (arith, h, c.len-i-end.ensures, c.args.list.now.found.now.groups.ok.0)) in
    let here : c.deref.result.now ≡ get_or (lists c.args.list.now.found.now.groups.items) c.groups.i c.deref.result.now = group_at c.args.list.now.found.now.groups.items c.groups.i c.index.result.now c.deref.result.now low c.index.ensures c.deref.ensures.value in
    group_some (list_of k c.args.list.now.decls.now) (node_name k (declarations c.args.list.now.decls.now)) (length c.args.list.now.found.now.numbers) gs c.groups.i c.deref.result.now c.requires.groups (rows_long c.args.list.now.found.now.groups.items c.groups.i low) here

pub groups-preserved : goal.groups-preserved
groups-preserved c =
    let k = known_of c.args.list.now.constructors.now in
    let gs = lists c.args.list.now.found.now.groups.items in
    let n = length c.args.list.now.found.now.numbers in
    let v = c.groups.invariant in
    let low : c.groups.i < length c.args.list.now.found.now.groups.items = (let h = c.groups-test.true in omega (arith, h, c.len-i-end.ensures, c.args.list.now.found.now.groups.ok.0)) in
    let here : c.deref.result.now ≡ get_or (lists c.args.list.now.found.now.groups.items) c.groups.i c.deref.result.now = group_at c.args.list.now.found.now.groups.items c.groups.i c.index.result.now c.deref.result.now low c.index.ensures c.deref.ensures.value in
    let within = rows_long c.args.list.now.found.now.groups.items c.groups.i low in
    let below = group_below (list_of k c.args.list.now.decls.now) (node_name k (declarations c.args.list.now.decls.now)) n gs c.groups.i c.deref.result.now c.requires.groups within here in
    record {
      judged = λ added base e start.
          unit_step k c.args.list.now.decls.now c.args.list.now.found.now.numbers (lists c.args.list.now.found.now.rows.items) c.requires.list gs n refl c.groups.i c.deref.result.now within here (all_one n c.deref.result.now below) base c.groups.inference.environment c.judge_group.new.inference.environment
          (assumed_part 0 added base (subst (AreAssumed 0) e c.requires.closed)) c.groups.typed c.judge_group.new.typed (v.judged added base e start)
          (c.in_ok-judge_group.ensures.judged (v.kept.0 ++ added) base (v.kept.1 ∙ (ap (λ z. v.kept.0 ++ z) e ∙ sym (append_assoc v.kept.0 added base))));
      closed = c.in_ok-judge_group.ensures.closed;
      kept = extended c.args.inference.now.environment c.groups.inference.environment c.judge_group.new.inference.environment v.kept c.in_ok-judge_group.ensures.kept;
      sized = c.judge_group.auto.typed ∙ v.sized;
      shown = subst (λ s. AllShown s (length c.args.list.now.found.now.numbers)) (sym c.in_ok-judge_group.ensures.shown) v.shown;
      types = c.judge_group.auto.types ∙ v.types;
      numbers = c.in_ok-judge_group.ensures.numbers;
    }

pub returns-clause-judged : goal.returns-clause-judged
returns-clause-judged c = λ added base e start.
    let last : length c.args.list.now.found.now.groups.items ≤ c.groups.i = (let h = c.groups-test.false in omega (arith, h, c.len-i-end.ensures, c.args.list.now.found.now.groups.ok.0)) in
    units_end (known_of c.args.list.now.constructors.now) c.args.list.now.decls.now (lists c.args.list.now.found.now.groups.items) (length c.args.list.now.found.now.numbers) c.groups.i base c.groups.inference.environment c.groups.typed (subst (λ z. z ≤ c.groups.i) (sym (length-map c.args.list.now.found.now.groups.items (λ r. r.items))) last) (c.groups.invariant.judged added base e start)
