use Rattle.std.proofs.Common.{rules, ◌≡◌, ◌∙◌, ◌++◌, ◌+◌, ◌-◌, ◌≤◌, ◌<◌, List, ℕ, [], drop, length, map, get_or, ap, sym, subst, take, take_while}
use Rattle.std.proofs.lemmas.List.{length-drop, length-map, map-append, take_all}
use Rattle.hm_messages.specs.ModuleStarts.{KnownModules, is_from, start_of}
use Rattle.hm_messages.specs.Pages.{file_at, files_in, starts_in, texts_in}
use Rattle.hm_messages.specs.declared.starts.ModuleStart.{ModuleStart}
use Rattle.hm_messages.proofs.Grouping.{AreGrouped, all_grouped, mapped_at, next_grouped, next_start, next_taken, next_within, none_least, none_left, not_longer, starts_more}
use Rattle.hm_messages.proofs.Naming.{as_many_texts, files_more, texts_more}
use Rattle.hm_messages.proofs.files.pages_of.Goals as goal

pub loop-number-init : goal.loop-number-init
loop-number-init c =
    let names = map (λ s. s.items) c.args.names.now in
    let texts : texts_in c.new-items.result.items ≡ [] = search rules in
    let files : (k : ℕ) → k < length (files_in c.new-items.result.items) → get_or (files_in c.new-items.result.items) k [] ≡ file_at names k = search rules in
    let starts : starts_in c.new-items.result.items ≡ [] = search rules in
    record {
      texts = texts;
      files = files;
      from_within = none_least (length c.args.starts.now);
      starts = starts;
      grouped = all_grouped (map (λ s. s.items) c.args.sources.now) c.args.starts.now c.requires;
    }

pub new-modules-requires : goal.new-modules-requires
new-modules-requires c =
    let sources : List (List ℕ) = map (λ s. s.items) c.args.sources.now in
    let starts : List ModuleStart = c.args.starts.now in
    let own : List ModuleStart = c.in_ok-own.own.items in
    let k = c.loop-number.number in
    let from = c.loop-number.from in
    let text : c.as_slice-text.result.now ≡ get_or sources k [] =
    mapped_at c.args.sources.now (λ s. s.items) k c.index-sources-number.result c.as_slice-text.result.now c.loop-number-test.true c.index-sources-number.is c.as_slice-text.ensures.value in
    let is : own ≡ take_while (is_from k) (drop from starts) = c.in_ok-own.ensures ∙ ap (take_while (is_from k)) (take_all (length starts - from) (drop from starts) (not_longer _ _ (length-drop from starts))) in
    let low : k < length sources = subst (λ (n : ℕ). k < n) (sym (length-map c.args.sources.now (λ s. s.items))) c.loop-number-test.true in
    next_start sources starts own k from low c.loop-number.invariant.grouped is c.as_slice-text.result.now text

pub loop-number-preserved : goal.loop-number-preserved
loop-number-preserved c =
    let sources : List (List ℕ) = map (λ s. s.items) c.args.sources.now in
    let names = map (λ s. s.items) c.args.names.now in
    let starts : List ModuleStart = c.args.starts.now in
    let own : List ModuleStart = c.in_ok-own.own.items in
    let k = c.loop-number.number in
    let from = c.loop-number.from in
    let known = c.loop-number.invariant in
    let pages = c.push.new.self.items in
    let low : k < length sources = subst (λ (n : ℕ). k < n) (sym (length-map c.args.sources.now (λ s. s.items))) c.loop-number-test.true in
    let is : own ≡ take_while (is_from k) (drop from starts) = c.in_ok-own.ensures ∙ ap (take_while (is_from k)) (take_all (length starts - from) (drop from starts) (not_longer _ _ (length-drop from starts))) in
    let many : c.len-from.result ≡ length own = search rules in
    let more : starts_in pages ≡ starts_in c.loop-number.items.items ++ map start_of own =
    starts_more c.loop-number.items.items pages _ (map start_of own) c.in_ok-push.ensures.items (ap (λ (v : KnownModules). v.starts) c.new-modules.ensures) in
    let lines : c.in_ok-lines.lines ≡ c.index-sources-number.result.items = search rules in
    let texts : texts_in pages ≡ map (λ s. s.items) (take (k + 1) c.args.sources.now) =
    texts_more c.args.sources.now (λ s. s.items) k c.index-sources-number.result c.loop-number.items.items pages _ c.loop-number-test.true c.index-sources-number.is c.in_ok-push.ensures.items lines known.texts in
    let many_texts = as_many_texts c.args.sources.now (λ s. s.items) k (texts_in c.loop-number.items.items) c.loop-number-test.true known.texts in
    let files : (j : ℕ) → j < length (files_in pages) → get_or (files_in pages) j [] ≡ file_at names j =
    files_more names k c.loop-number.items.items pages _ many_texts c.in_ok-push.ensures.items c.file_at-file.ensures known.files in
    record {
      texts = texts;
      files = files;
      from_within = subst (λ (n : ℕ). from + n ≤ length starts) (sym many) (next_within sources starts own k from low known.grouped is known.from_within);
      starts = more ∙ (ap (λ l. l ++ map start_of own) known.starts ∙ (sym (map-append start_of (take from starts) own)
          ∙ ap (map start_of) (sym (next_taken sources starts own k from low known.grouped is) ∙ ap (λ (n : ℕ). take (from + n) starts) (sym many))));
      grouped = subst (λ (n : ℕ). AreGrouped (k + 1) (drop (k + 1) sources) (drop (from + n) starts)) (sym many) (next_grouped sources starts own k from low known.grouped is);
    }

pub returns-clause-starts : goal.returns-clause-starts
returns-clause-starts c =
    let sources : List (List ℕ) = map (λ s. s.items) c.args.sources.now in
    let past : length sources ≤ c.loop-number.number = subst (λ (n : ℕ). n ≤ c.loop-number.number) (sym (length-map c.args.sources.now (λ s. s.items))) c.loop-number-test.false in
    c.loop-number.invariant.starts ∙ ap (map start_of) (none_left sources c.args.starts.now c.loop-number.number c.loop-number.from past c.loop-number.invariant.grouped)
