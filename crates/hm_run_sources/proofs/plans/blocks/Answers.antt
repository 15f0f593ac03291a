use Rattle.std.proofs.Common.{rules, map, ◌∙◌, subst, sym, ap, get_or, []}
use Rattle.hm_graph.specs.Outline.{outlines}
use Rattle.hm_graph.specs.Imports.{name_at}
use Rattle.hm_run_sources.specs.Plans.{AreOrdered, IsBlockOf}
use Rattle.hm_run_sources.specs.Views.{block_of}
use Rattle.hm_run_sources.proofs.Ordering.{each_more, name_at_map, row_within}
use Rattle.hm_run_sources.proofs.plans.blocks.Goals as goal

pub loop-m-preserved : goal.loop-m-preserved
loop-m-preserved c =
    let modules = outlines c.args.headers.now in
    let h = c.index-headers-m.result in
    let names = map (λ s. s.now) c.in_ok-imports.imports.items in
    each_more block_of (λ k b. IsBlockOf modules (name_at modules k) (get_or c.args.plan.now k []) b) _ _ (record { name = c.as_str-name.result; imports = c.in_ok-imports.imports }) c.loop-m.m
    c.in_ok-push.ensures.items c.loop-m.invariant.0 c.loop-m.invariant.1
    (record {
      named = c.as_str-name.ensures ∙ ap (λ v. v.name.text) c.index-headers-m.is ∙ sym (name_at_map c.args.headers.now c.loop-m.m h (search rules));
      ordered = subst (λ row. AreOrdered (map (name_at modules) row) names) c.imports.ensures c.in_ok-imports.ensures;
    })

pub ordered_names-requires : goal.ordered_names-requires
ordered_names-requires c = row_within c.args.headers.now c.args.plan.now c.loop-m.m c.imports.result.now c.requires (search rules) c.imports.ensures
