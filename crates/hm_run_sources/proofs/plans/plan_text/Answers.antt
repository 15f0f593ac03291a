use Rattle.std.proofs.Common.{rules, map, take, ◌≡◌, ◌++◌, ◌∙◌, sym, ap, string_bytes, length}
use Rattle.std.proofs.lemmas.List.{take_all, length-map}
use Rattle.std.proofs.lemmas.List.Sorted.{IsPermutation-map, answers_always}
use Rattle.std.specs.List.{flat_map}
use Rattle.hm_graph.specs.Outline.{outline}
use Rattle.hm_run_sources.specs.Plans.{block_below, block_text, count_line}
use Rattle.hm_run_sources.specs.Views.{block_of}
use Rattle.hm_run_sources.proofs.Ordering.{sorted_map}
use Rattle.hm_run_sources.proofs.plans.plan_text.Goals as goal

pub returns : goal.returns
returns c =
    let sorted = c.sort_by_key.new.self.items in
    let all : take c.loop-block.block-index sorted ≡ sorted = take_all _ _ (search rules) in
    let blocks_text : string_bytes c.loop-block.text ≡ flat_map block_text (map block_of sorted) = c.loop-block.invariant ∙ ap (λ l. flat_map block_text (map block_of (take c.loop-block.block-index l))) c.deref-block-items.ensures.value ∙ ap (λ l. flat_map block_text (map block_of l)) all in
    record {
      blocks = map block_of c.in_ok-blocks.blocks.items;
      ordered = map block_of sorted;
      made = c.in_ok-blocks.ensures;
      same = IsPermutation-map block_of _ _ c.in_ok-sort_by_key.ensures.permutation;
      sorted = sorted_map block_of block_below _ (c.in_ok-sort_by_key.ensures.sorted (λ b. b.name) (answers_always _ (λ a r. r ≡ a.0.now.name) _ (λ f a r q k. search rules)));
      whole = c.in_ok-write.ensures.bytes ∙ ap (λ l. l ++ count_line (length c.args.headers.now)) blocks_text ∙ ap (λ n. flat_map block_text (map block_of sorted) ++ count_line n) (sym (length-map c.args.headers.now outline));
    }
