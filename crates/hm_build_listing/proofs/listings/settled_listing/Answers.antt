use Rattle.std.proofs.Common.{rules, map, take, ◌≡◌, ◌++◌, ◌∙◌, sym, ap, string_bytes, length}
use Rattle.std.specs.List.{flat_map}
use Rattle.std.proofs.lemmas.List.{take_all, length-map}
use Rattle.std.proofs.lemmas.List.Sorted.{IsPermutation-map, answers_always}
use Rattle.std.specs.Arc.{arc_value}
use Rattle.hm_run_sources.specs.Names.{name_below}
use Rattle.hm_run_sources.proofs.Ordering.{sorted_map}
use Rattle.hm_build_reports.specs.Settling.{statuses_of}
use Rattle.hm_build_listing.specs.Listings.{end_text, line_block}
use Rattle.hm_build_listing.proofs.listings.settled_listing.Goals as goal

pub returns : goal.returns
returns c =
    let set = c.args.set in
    let sorted = c.sort_by_key.new.self.items in
    let status = statuses_of set.settled.now in
    let all : take c.loop-line.line-index sorted ≡ sorted = take_all _ _ (search rules) in
    let lines_text : string_bytes c.loop-line.text ≡ flat_map (λ b. b.text) (map line_block sorted) =
    c.loop-line.invariant ∙ ap (λ l. flat_map (λ b. b.text) (map line_block (take c.loop-line.line-index l))) c.deref-line-items.ensures.value ∙ ap (λ l. flat_map (λ b. b.text) (map line_block l)) all in
    let last : string_bytes c.in_ok-end_line.field-0 ≡ end_text status (length (map arc_value set.modules.now)) =
    c.in_ok-end_line.ensures ∙ ap (end_text status) (c.requires.len ∙ sym (length-map set.modules.now arc_value)) in
    record {
      lines = map line_block c.in_ok-lines.lines.items;
      each = c.in_ok-lines.ensures;
      order = map line_block sorted;
      same = IsPermutation-map line_block _ _ c.in_ok-sort_by_key.ensures.permutation;
      ordered = sorted_map line_block (λ x y. name_below x.name y.name) _ (c.in_ok-sort_by_key.ensures.sorted (λ b. b.name) (answers_always _ (λ a r. r ≡ a.0.now.name) _ (λ f a r q k. search rules)));
      whole = search (rules, lines_text, last);
    }
