use Rattle.std.proofs.Common.{rules, ◌≡◌, ◌<◌, ◌∙◌, List, ℕ, [], inl, length, map, get_or, ap, subst, sym}
use Rattle.std.proofs.lemmas.List.{length-map}
use Rattle.hm_lex.specs.declared.token.Place.{Place}
use Rattle.hm_messages.specs.Messages.{IsMessage}
use Rattle.hm_messages.specs.Pages.{AreFilesOf, files_in}
use Rattle.hm_messages.specs.Subjects.{exhausted}
use Rattle.hm_messages.specs.declared.heading.MessageFormat.{MessageFormat}
use Rattle.hm_messages.specs.declared.pages.Page.{Page}
use Rattle.hm_messages.proofs.AtPage.{file_is, text_is}
use Rattle.hm_build_messages.proofs.exhausted.module_message.Goals as goal

pub pages_of-requires : goal.pages_of-requires
pages_of-requires c = inl (search rules)

pub returns : goal.returns
returns c =
    let sources = map (λ s. s.items) c.args.sources.now in
    let pages = c.in_ok-pages.pages.items.items in
    let of = c.requires in
    let source = c.args.here.now.source in
    let page : Page = c.index-page.result.now in
    let is : page ≡ get_or pages source page = search rules in
    let many : length sources ≡ length pages = ap length (sym c.in_ok-pages.ensures.texts) ∙ length-map pages (λ (p : Page). p.lines) in
    let inside : source < length pages = subst (λ (n : ℕ). source < n) many of.spelled.inside in
    let name : List ℕ = c.as_str.result.now in
    let place : Place = c.name.inside.place in
    let text : List ℕ = c.in_ok-message.field-0.items in
    let told : IsMessage c.in_ok-pages.pages.format page.file.now page.lines place (exhausted name) text = c.in_ok-message.ensures in
    record {
      modules = of.modules;
      read = of.read;
      number = c.args.here.now.number;
      within = of.within;
      source = source;
      spelled = of.spelled;
      files = files_in pages;
      named = subst (λ l. AreFilesOf (map (λ s. s.items) l) sources (files_in pages)) c.deref.ensures.value c.in_ok-pages.ensures.files;
      name = name;
      called = λ d. c.as_str.ensures ∙ ap (λ n. n.text) (of.named d);
      place = place;
      stated = subst (λ (p : MessageFormat). IsMessage p (get_or (files_in pages) source []) (get_or sources source []) place (exhausted name) text) c.in_ok-pages.ensures.format
          (subst (λ (s : List ℕ). IsMessage c.in_ok-pages.pages.format (get_or (files_in pages) source []) s place (exhausted name) text) (text_is pages source page inside is ∙ ap (λ l. get_or l source []) c.in_ok-pages.ensures.texts)
          (subst (λ (f : List ℕ). IsMessage c.in_ok-pages.pages.format f page.lines place (exhausted name) text) (file_is pages source page inside is) told));
    }
