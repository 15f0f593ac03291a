use Rattle.std.proofs.Common.{◌≡◌, ◌∙◌, ap, false, length, replicate, rules, subst, sym}
use Rattle.hm_graph_components.specs.Digraph.{lists}
use Rattle.hm_infer_context.specs.Constructors.{known_of}
use Rattle.hm_infer.specs.JudgedUnits.{UnitsJudged}
use Rattle.hm_infer_expressions.proofs.ListSteps.{written_to}
use Rattle.hm_infer.proofs.UnitStages.{units_start}
use Rattle.hm_infer.proofs.judging_units.judge_groups.Goals as goal

pub returns-clause-judged : goal.returns-clause-judged
returns-clause-judged c = λ added base e binds.
    let k = known_of c.args.list.now.constructors.now in
    let gs = lists c.args.list.now.found.now.groups.items in
    let n = length c.args.list.now.found.now.numbers in
    let blank : c.in_ok-typed.typed.items ≡ replicate (length c.args.list.now.found.now.numbers) false = search rules in
    let kept : length c.judge_each.new.typed ≡ length c.in_ok-typed.typed.items = c.judge_each.auto.typed ∙ ap length c.deref_mut-3.ensures.value in
    subst (λ z. UnitsJudged k c.args.list.now.decls.now gs n (length gs) base c.judge_each.new.inference.environment z) (sym (written_to c.judge_each.new.typed c.in_ok-typed.typed.items c.in_ok-typed.typed.len (c.in_ok-typed.typed.ok.0) kept))
    (c.in_ok-judge_each.ensures.judged added base e (units_start k c.args.list.now.decls.now gs n c.requires.distinct c.requires.groups base c.args.inference.now.environment binds c.deref_mut-3.result.now (c.deref_mut-3.ensures.value ∙ blank)))
