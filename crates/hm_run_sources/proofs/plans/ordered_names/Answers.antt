use Rattle.std.proofs.Common.{rules, map, take, ◌≡◌, ◌∙◌, subst, sym, ap, get_or}
use Rattle.std.proofs.lemmas.List.{take_all}
use Rattle.std.proofs.lemmas.List.Sorted.{IsPermutation-map}
use Rattle.std.specs.List.Sorted.{IsPermutation}
use Rattle.hm_graph.specs.Outline.{outlines}
use Rattle.hm_graph.specs.Imports.{name_at}
use Rattle.hm_run_sources.specs.Names.{name_below}
use Rattle.hm_run_sources.proofs.Ordering.{name_at_map, names_more, sorted_map}
use Rattle.hm_run_sources.proofs.plans.ordered_names.Goals as goal

pub loop-index-preserved : goal.loop-index-preserved
loop-index-preserved c =
    let h = c.index-headers-index.result in
    let at = get_or c.args.row.now c.loop-index.index-index 0 in
    names_more (λ s. s.now) (name_at (outlines c.args.headers.now)) _ _ c.as_str.result c.args.row.now c.loop-index.index-index (search rules)
    c.in_ok-push.ensures.items c.loop-index.invariant
    (c.as_str.ensures ∙ sym (name_at_map c.args.headers.now at h (search rules)))

pub returns : goal.returns
returns c =
    let all : take c.loop-index.index-index c.args.row.now ≡ c.args.row.now = take_all _ _ (search rules) in
    record {
      same = subst (λ l. IsPermutation l (map (λ s. s.now) c.sort.new.self.items)) (c.loop-index.invariant ∙ ap (map (name_at (outlines c.args.headers.now))) all)
          (IsPermutation-map (λ s. s.now) _ _ c.in_ok-sort.ensures.permutation);
      sorted = sorted_map (λ s. s.now) name_below _ c.in_ok-sort.ensures.sorted;
    }
