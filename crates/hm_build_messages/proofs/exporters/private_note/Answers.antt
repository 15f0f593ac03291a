use Rattle.std.proofs.Common.{rules, ◌<◌, ◌≡◌, ◌∙◌, List, ℕ, [], get_or, inr, length, subst, sym}
use Rattle.std.specs.Prelude.{IfSome}
use Rattle.hm_build_exporters.specs.Having.{IsPrivate}
use Rattle.hm_build_reports.proofs.Reporting.{name_by_place}
use Rattle.hm_messages.proofs.AtPage.{file_is, text_is}
use Rattle.hm_messages.specs.Messages.{IsMessage}
use Rattle.hm_messages.specs.Subjects.{private}
use Rattle.hm_messages.specs.declared.pages.Page.{Page}
use Rattle.hm_build_messages.specs.Exporters.{name_in}
use Rattle.hm_build_messages.specs.Searching.{all_files, all_texts, number_of, set_of, status_in, view_of}
use Rattle.hm_build_messages.proofs.exporters.private_note.Goals as goal

pub returns : goal.returns
returns c =
    let here = c.args.here.now in
    let view = view_of here in
    let s = c.args.missing.space in
    let x = c.args.missing.name.now in
    let found = c.in-Some.found in
    let text = c.in_ok-message.field-0.items in
    let pages = view.pages.now.items.items in
    let source = c.source_of-source.result in
    let page : Page = c.index.result.now in
    let is : page ≡ get_or pages source page = search rules in
    let low = c.source_of-source.ensures.within in
    let format = view.pages.now.format in
    let name : List ℕ = c.as_str-name.result.now in
    let inside = subst (λ o. IfSome o (λ q. q.number < length view.modules.now)) c.in-Some.is c.in_ok-found.ensures.within in
    let named : name ≡ name_in (set_of view) found.number = search rules ∙ sym (name_by_place view.modules.now view.plan.now found.number c.index-view-found.result inside c.index-view-found.is) in
    inr (record {
      number = found.number;
      place = found.place;
      is_private = subst (λ o. IfSome o (λ q. IsPrivate (set_of view) (status_in view) (number_of here) s x q.number q.place)) c.in-Some.is c.in_ok-found.ensures.private;
      source = source;
      spelled = c.source_of-source.ensures.spelled;
      stated = subst (λ (n : List ℕ). IsMessage format (get_or (all_files view) source []) (get_or (all_texts view) source []) found.place (private n x) text) named
          (subst (λ (t : List ℕ). IsMessage format (get_or (all_files view) source []) t found.place (private name x) text) (text_is pages source page low is)
          (subst (λ (f : List ℕ). IsMessage format f page.lines found.place (private name x) text) (file_is pages source page low is) c.in_ok-message.ensures));
    })
