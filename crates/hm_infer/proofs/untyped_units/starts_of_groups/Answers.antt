use Rattle.std.proofs.Common.{◌∙◌, ◌++◌, length, sym, subst, ap}
use Rattle.hm_graph_components.specs.Digraph.{lists}
use Rattle.hm_infer_context.specs.Constructors.{known_of}
use Rattle.hm_infer.specs.JudgedUnits.{UnitsJudged}
use Rattle.hm_infer_results.specs.UnitFaults.{ArePlainGroups}
use Rattle.hm_infer.specs.UnitStarts.{AreUnsignedStarts}
use Rattle.hm_infer.proofs.CoreStarts.{ListJudged, groups_declared, unsigned_list}
use Rattle.hm_infer.proofs.UnitFaults.{plain_groups}
use Rattle.hm_infer.proofs.untyped_units.starts_of_groups.Goals as goal

pub judge_groups-requires-clause-closed : goal.judge_groups-requires-clause-closed
judge_groups-requires-clause-closed c = c.in_ok-bind_signed.ensures.given 0 c.requires.closed

pub unsigned_fault_starts-requires-clause-groups : goal.unsigned_fault_starts-requires-clause-groups
unsigned_fault_starts-requires-clause-groups c =
    let k = known_of c.args.list.now.constructors.now in
    let ds = c.args.list.now.decls.now in
    let gs = lists c.args.list.now.found.now.groups.items in
    let rows = lists c.args.list.now.found.now.rows.items in
    let nodes = c.args.list.now.found.now.numbers in
    let base = c.args.inference.now.environment in
    let j : ListJudged nodes rows gs base c.judge_groups.new.inference.environment c.in_ok-typed.typed.items k ds = record {
      found = c.requires.list;
      groups = c.requires.groups;
      judged = c.in_ok-typed.ensures.judged c.bind_signed.ensures.kept.0 base c.bind_signed.ensures.kept.1 (c.in_ok-bind_signed.ensures.bound k);
    } in
    subst (ArePlainGroups gs (length nodes)) (sym c.deref_mut.ensures.value) (plain_groups k ds nodes rows j.found gs j.groups base c.judge_groups.new.inference.environment c.requires.closed c.in_ok-typed.typed.items j.judged)

pub unsigned_fault_starts-requires-clause-members : goal.unsigned_fault_starts-requires-clause-members
unsigned_fault_starts-requires-clause-members c = λ g o.
    let k = known_of c.args.list.now.constructors.now in
    let ds = c.args.list.now.decls.now in
    let gs = lists c.args.list.now.found.now.groups.items in
    let rows = lists c.args.list.now.found.now.rows.items in
    let nodes = c.args.list.now.found.now.numbers in
    let base = c.args.inference.now.environment in
    let j : ListJudged nodes rows gs base c.judge_groups.new.inference.environment c.in_ok-typed.typed.items k ds = record {
      found = c.requires.list;
      groups = c.requires.groups;
      judged = c.in_ok-typed.ensures.judged c.bind_signed.ensures.kept.0 base c.bind_signed.ensures.kept.1 (c.in_ok-bind_signed.ensures.bound k);
    } in
    groups_declared nodes rows gs base c.judge_groups.new.inference.environment c.requires.closed c.in_ok-typed.typed.items k ds j c.requires.core g o

pub returns : goal.returns
returns c = λ o.
    let k = known_of c.args.list.now.constructors.now in
    let ds = c.args.list.now.decls.now in
    let gs = lists c.args.list.now.found.now.groups.items in
    let rows = lists c.args.list.now.found.now.rows.items in
    let nodes = c.args.list.now.found.now.numbers in
    let base = c.args.inference.now.environment in
    let j : ListJudged nodes rows gs base c.judge_groups.new.inference.environment c.in_ok-typed.typed.items k ds = record {
      found = c.requires.list;
      groups = c.requires.groups;
      judged = c.in_ok-typed.ensures.judged c.bind_signed.ensures.kept.0 base c.bind_signed.ensures.kept.1 (c.in_ok-bind_signed.ensures.bound k);
    } in
    let unsigned : AreUnsignedStarts ds nodes rows gs c.in_ok-typed.typed.items c.in_ok-starts.starts.items = subst (λ z. AreUnsignedStarts ds nodes rows gs z c.in_ok-starts.starts.items) c.deref_mut.ensures.value c.in_ok-starts.ensures in
    record {
      without = c.in_ok-starts.starts.items;
      unsigned_ones = unsigned_list nodes rows gs base c.judge_groups.new.inference.environment c.requires.closed c.in_ok-typed.typed.items k ds j o unsigned.faulty unsigned.told c.in_ok-starts.starts.items unsigned.starts_are;
      with_signatures = c.in_ok-signed.signed.items;
      signed_ones = c.in_ok-signed.ensures o base c.requires.closed j.found j.groups
          (subst (UnitsJudged k ds gs (length nodes) (length gs) base c.judge_groups.new.inference.environment) (sym c.deref.ensures.value) j.judged);
      all = c.in_ok-extend_from_slice.ensures.items ∙ ap (λ z. c.in_ok-starts.starts.items ++ z) c.deref-2.ensures.value;
    }
