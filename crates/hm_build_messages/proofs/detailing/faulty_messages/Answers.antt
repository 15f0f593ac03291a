use Rattle.std.proofs.Common.{rules, ◌≡◌, ◌∷◌, ◌∙◌, IfSome, List, ℕ, inr, map, subst, sym}
use Rattle.std.specs.Arc.{arc_value}
use Rattle.hm_types.specs.Interfaces.{Exports as Interface}
use Rattle.hm_names.specs.declared.faults.Fault.{Fault}
use Rattle.hm_messages_details.specs.Details.{IsKnown, nothing}
use Rattle.hm_types.specs.StandardPrelude.{prelude_interface}
use Rattle.hm_messages.specs.Messages.{AreEach}
use Rattle.hm_messages.specs.Pages.{files_in, texts_in}
use Rattle.hm_messages.specs.declared.pages.Page.{Page}
use Rattle.hm_build_reports.specs.Settling.{module_set, statuses_of}
use Rattle.hm_store.specs.Settlements.{settlement}
use Rattle.hm_verdicts.specs.Sets.{imports_of, module_at}
use Rattle.hm_verdicts.specs.Verdicts.{ArePublished}
use Rattle.hm_build_messages.specs.Explanations.{AreInTurn, IsDetailed, IsFaultStated, IsNoted}
use Rattle.hm_build_messages.specs.Exporters.{AreExporterNotes, IsFollowed}
use Rattle.hm_build_reports.proofs.Reporting.{name_by_place}
use Rattle.hm_build_messages.proofs.Detailed.{at_page}
use Rattle.hm_build_messages.proofs.Followed.{followed_in, plain_in}
use Rattle.hm_build_messages.proofs.Turns.{quiet_turn_at, turn_so}
use Rattle.hm_build_messages.proofs.detailing.faulty_messages.Goals as goal

-- nothing is known of the faults
pub returns-in_default : goal.returns-in_default
returns-in_default c =
    let told = c.args.view.now in
    let p = module_set told.modules.now told.plan.now in
    let status = statuses_of told.settled.now in
    let faulty = c.args.faulty in
    let before = c.args.allowance.now.is_limit_stated in
    let pages = told.pages.now.items.items in
    let page : Page = c.index-page.result.now in
    at_page told.pages.now.format pages faulty.source page p status faulty.number faulty.faults.now before before c.in_ok-plain_messages.field-0.items c.requires.source (search rules)
    (quiet_turn_at (IsDetailed told.pages.now.format page.file.now page.lines (λ f known. known ≡ nothing)) (IsFaultStated told.pages.now.format page.file.now page.lines (files_in pages) (texts_in pages) p status faulty.number) before
    (plain_in told.pages.now.format page.file.now page.lines (files_in pages) (texts_in pages) p status faulty.number before) faulty.faults.now c.in_ok-plain_messages.field-0.items c.in_ok-plain_messages.ensures)

-- the scope and the trees of the module tell of names and numbers
pub returns-then-have_details : goal.returns-then-have_details
returns-then-have_details c =
    let told = c.args.view.now in
    let p = module_set told.modules.now told.plan.now in
    let status = statuses_of told.settled.now in
    let faulty = c.args.faulty in
    let number = faulty.number in
    let before = c.args.allowance.now.is_limit_stated in
    let pages = told.pages.now.items.items in
    let page : Page = c.index-page.result.now in
    let fs = map arc_value c.in-Some.imports.items in
    let have : ArePublished (settlement told.store.now) c.imports.result.now fs =
    subst (λ o. IfSome o (λ interfaces. ArePublished (settlement told.store.now) c.imports.result.now (map arc_value interfaces.items))) c.in-Some.is c.in_ok-imports.ensures in
    let published : ArePublished status (imports_of p number) fs =
    subst (λ s. ArePublished s (imports_of p number) fs) (sym c.requires.settled) (subst (λ row. ArePublished (settlement told.store.now) row fs) c.imports.ensures have) in
    let text = c.in_ok-searched_messages.field-0.items in
    let says = λ (l : List Interface) (f : Fault) (t : List ℕ). IsFollowed (IsDetailed told.pages.now.format page.file.now page.lines (IsKnown (module_at p number) l))
    (AreExporterNotes told.pages.now.format page.file.now page.lines (files_in pages) (texts_in pages) p status number l) before f t in
    let each : AreEach (says (prelude_interface ∷ fs)) faulty.faults.now text =
    subst (λ l. AreEach (says (prelude_interface ∷ map arc_value l)) faulty.faults.now text) c.as_slice.ensures.value c.in_ok-searched_messages.ensures in
    at_page told.pages.now.format pages faulty.source page p status number faulty.faults.now before before text c.requires.source (search rules)
    (quiet_turn_at (says (prelude_interface ∷ fs)) (IsFaultStated told.pages.now.format page.file.now page.lines (files_in pages) (texts_in pages) p status number) before
    (followed_in told.pages.now.format page.file.now page.lines (files_in pages) (texts_in pages) p status number fs before published) faulty.faults.now text each)

-- the checker tells of type faults
pub returns : goal.returns
returns c =
    let told = c.args.view.now in
    let p = module_set told.modules.now told.plan.now in
    let status = statuses_of told.settled.now in
    let faulty = c.args.faulty in
    let number = faulty.number in
    let before = c.args.allowance.now.is_limit_stated in
    let after = c.noted_messages.new.allowance.is_limit_stated in
    let pages = told.pages.now.items.items in
    let page : Page = c.index-page.result.now in
    let fs = map arc_value c.in-Some.imports.items in
    let name : List ℕ = c.as_str.result.now in
    let named : name ≡ (module_at p number).header.name.text = search rules ∙ sym (name_by_place told.modules.now told.plan.now number c.index-view-faulty.result c.requires.number c.index-view-faulty.is) in
    let have : ArePublished (settlement told.store.now) c.imports.result.now fs =
    subst (λ o. IfSome o (λ interfaces. ArePublished (settlement told.store.now) c.imports.result.now (map arc_value interfaces.items))) c.in-Some.is c.in_ok-imports.ensures in
    let published : ArePublished status (imports_of p number) fs =
    subst (λ s. ArePublished s (imports_of p number) fs) (sym c.requires.settled) (subst (λ row. ArePublished (settlement told.store.now) row fs) c.imports.ensures have) in
    at_page told.pages.now.format pages faulty.source page p status number faulty.faults.now before after c.in_ok-noted_messages.field-0.items c.requires.source (search rules)
    (turn_so (IsNoted told.pages.now.format page.file.now page.lines name fs) (IsFaultStated told.pages.now.format page.file.now page.lines (files_in pages) (texts_in pages) p status number)
    (λ f b d t h. inr (fs, published, subst (λ n. IsNoted told.pages.now.format page.file.now page.lines n fs f b d t) named h)) faulty.faults.now before after c.in_ok-noted_messages.field-0.items
    (subst (λ l. AreInTurn (IsNoted told.pages.now.format page.file.now page.lines name (map arc_value l)) faulty.faults.now before after c.in_ok-noted_messages.field-0.items) c.as_slice-2.ensures.value c.in_ok-noted_messages.ensures))
