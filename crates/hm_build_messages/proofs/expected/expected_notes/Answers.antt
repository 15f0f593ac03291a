use Rattle.std.proofs.Common.{rules, ◌≡◌, ◌∙◌, ◌⊎◌, IfSome, List, ℕ, [], map, subst, sym}
use Rattle.std.specs.Arc.{arc_value}
use Rattle.hm_messages.specs.declared.pages.Page.{Page}
use Rattle.hm_build_reports.specs.Settling.{module_set, statuses_of}
use Rattle.hm_store.specs.Settlements.{settlement}
use Rattle.hm_verdicts.specs.Sets.{imports_of, module_at}
use Rattle.hm_verdicts.specs.Verdicts.{ArePublished}
use Rattle.hm_build_messages.specs.Expected.{AreExpectedNotes}
use Rattle.hm_build_messages.proofs.Beyond.{expected_page}
use Rattle.hm_build_reports.proofs.Reporting.{name_by_place}
use Rattle.hm_build_messages.proofs.expected.expected_notes.Goals as goal

pub returns : goal.returns
returns c =
    let told = c.args.view.now in
    let p = module_set told.modules.now told.plan.now in
    let status = statuses_of told.settled.now in
    let faulty = c.args.faulty in
    let number = faulty.number in
    let pages = told.pages.now.items.items in
    let page : Page = c.index-page.result.now in
    let fs = map arc_value c.in-Some.imports.items in
    let name : List ℕ = c.as_str.result.now in
    let text = c.in_ok-module_notes.field-0.items in
    let named : name ≡ (module_at p number).header.name.text = search rules ∙ sym (name_by_place told.modules.now told.plan.now number c.index-view-faulty.result c.requires.number c.index-view-faulty.is) in
    let have : ArePublished (settlement told.store.now) c.imports.result.now fs =
    subst (λ o. IfSome o (λ interfaces. ArePublished (settlement told.store.now) c.imports.result.now (map arc_value interfaces.items))) c.in-Some.is c.in_ok-imports.ensures in
    let published : ArePublished status (imports_of p number) fs =
    subst (λ s. ArePublished s (imports_of p number) fs) (sym c.requires.settled) (subst (λ row. ArePublished (settlement told.store.now) row fs) c.imports.ensures have) in
    expected_page told.pages.now.format pages faulty.source page p status number name fs faulty.faults.now text c.requires.source (search rules) named published
    (subst (λ l. (text ≡ []) ⊎ AreExpectedNotes told.pages.now.format page.file.now page.lines name (map arc_value l) faulty.faults.now text) c.as_slice.ensures.value c.in_ok-module_notes.ensures)
