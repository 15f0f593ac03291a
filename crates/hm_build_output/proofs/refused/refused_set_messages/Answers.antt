use Rattle.std.proofs.Common.{rules, ◌≡◌, ◌+◌, ◌++◌, ◌∙◌, List, ℕ, ap, append_assoc, arith, drop, length, length-append, map, subst}
use Rattle.std.proofs.lemmas.List.{length-map}
use Rattle.hm_messages.proofs.InOrder.{each_append}
use Rattle.hm_messages.proofs.OfSources.{refusals_are_theirs}
use Rattle.hm_messages.specs.FurtherFaults.{AreSourceFaults}
use Rattle.hm_messages.specs.Headings.{count_text}
use Rattle.hm_messages.specs.Messages.{AreEach}
use Rattle.hm_messages.specs.Pages.{AreFilesOf, files_in, texts_in}
use Rattle.hm_messages.specs.Refused.{AreRefusalMessages}
use Rattle.hm_run_sources.specs.Refusals.{Refusal}
use Rattle.hm_build_output.specs.FurtherStated.{IsLaterStated}
use Rattle.hm_build_output.proofs.refused.refused_set_messages.Goals as goal

pub returns : goal.returns
returns c =
    let sources : List (List ℕ) = map (λ s. s.items) c.args.sources.now in
    let fault : Refusal = c.args.refused.now.fault in
    let format = c.args.explain.now.format in
    let pages = c.in_ok-pages.pages in
    let files : List (List ℕ) = files_in pages.items.items in
    let texts : texts_in pages.items.items ≡ sources = c.in_ok-pages.ensures.texts in
    let formats : pages.format ≡ format = c.in_ok-pages.ensures.format in
    let own = c.in_ok-all.all in
    let messages = own.text.items in
    let errors = own.errors in
    let first : AreRefusalMessages pages.format files (texts_in pages.items.items) fault errors messages = c.in_ok-all.ensures in
    let later = c.in_ok-later.later in
    let behind : IsLaterStated pages.format files (texts_in pages.items.items) fault later.errors later.text.items = c.in_ok-later.ensures in
    let told : IsLaterStated format files sources fault later.errors later.text.items =
    subst (λ p. IsLaterStated p files sources fault later.errors later.text.items) formats
    (subst (λ (l : List (List ℕ)). IsLaterStated pages.format files l fault later.errors later.text.items) texts behind) in
    let more = c.in_ok-further.ensures in
    let further = c.in_ok-further.further in
    let from = c.in-Some.from in
    let named : AreSourceFaults (from + 1) (drop from sources) more.0 = subst (λ (l : List (List ℕ)). AreSourceFaults (from + 1) (drop from l) more.0) texts more.1 in
    let each : AreEach (λ r t. AreRefusalMessages format files sources r 1 t) more.0 further.text.items =
    subst (λ p. AreEach (λ r t. AreRefusalMessages p files sources r 1 t) more.0 further.text.items) formats
    (subst (λ (l : List (List ℕ)). AreEach (λ r t. AreRefusalMessages pages.format files l r 1 t) more.0 further.text.items) texts more.2) in
    let text : c.add.new.all.text.items ≡ messages ++ later.text.items = search rules in
    let count : c.add.new.all.errors ≡ errors + later.errors = search rules in
    let text_all : c.add-2.new.all.text.items ≡ c.add.new.all.text.items ++ further.text.items = search rules in
    let count_all : c.add-2.new.all.errors ≡ c.add.new.all.errors + further.errors = search rules in
    let counted : c.extend_from_slice.new.self.items ≡ c.add-2.new.all.text.items ++ count_text format c.add-2.new.all.errors 0 = search rules in
    let sum : c.add-2.new.all.errors ≡ errors + length (told.faults ++ more.0) = omega (arith, count, count_all, told.count, more.3, length-append told.faults more.0) in
    let rest = later.text.items ++ further.text.items in
    record {
      because = c.requires.because;
      files = files;
      named = subst (λ l. AreFilesOf (map (λ s. s.items) l) sources files) c.deref.ensures.value c.in_ok-pages.ensures.files;
      stated = record {
        messages = messages;
        errors = errors;
        stated = subst (λ p. AreRefusalMessages p files sources fault errors messages) formats (subst (λ (l : List (List ℕ)). AreRefusalMessages pages.format files l fault errors messages) texts first);
        further = told.faults ++ more.0;
        faults = c.in-Some.ensures.further sources told.faults more.0 (length-map c.args.sources.now (λ s. s.items)) told.later named;
        rest = rest;
        each = each_append (λ r t. AreRefusalMessages format files sources r 1 t) told.faults more.0 later.text.items further.text.items told.each each;
        whole = counted
            ∙ (ap (λ (l : List ℕ). l ++ count_text format c.add-2.new.all.errors 0) (text_all ∙ (ap (λ (l : List ℕ). l ++ further.text.items) text ∙ append_assoc messages later.text.items further.text.items))
            ∙ (append_assoc messages rest (count_text format c.add-2.new.all.errors 0) ∙ ap (λ (n : ℕ). messages ++ (rest ++ count_text format n 0)) sum));
      };
    }

pub advice_on-requires : goal.advice_on-requires
advice_on-requires c = c.in-Some.ensures.numbered (map (λ s. s.items) c.args.sources.now) (length-map c.args.sources.now (λ s. s.items))

pub unreachable-requires : goal.unreachable-requires
unreachable-requires c =
    let sources : List (List ℕ) = map (λ s. s.items) c.args.sources.now in
    refusals_are_theirs sources c.args.refused.now.fault c.requires.because (c.in_default.ensures.foreign sources (length-map c.args.sources.now (λ s. s.items)))
