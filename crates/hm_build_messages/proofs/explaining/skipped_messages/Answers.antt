use Rattle.std.proofs.Common.{rules, ◌∙◌, ◌<◌, ◌≡◌, All, List, [], ℕ, length, map, sym, take, ap, subst, get_or}
use Rattle.std.specs.Arc.{arc_value}
use Rattle.std.specs.List.Sorted.{IsPermutation}
use Rattle.std.proofs.lemmas.List.Sorted.{IsPermutation-map, answers_always}
use Rattle.hm_messages.specs.Messages.{AreEach}
use Rattle.hm_messages.specs.Pages.{files_in}
use Rattle.hm_messages.specs.declared.pages.Page.{Page}
use Rattle.hm_messages.proofs.AtPage.{file_is, text_is}
use Rattle.hm_run_sources.specs.Names.{name_below}
use Rattle.std.proofs.lemmas.List.Elements.{All-map}
use Rattle.hm_verdicts.specs.Reports.{AreBlamed}
use Rattle.hm_build_messages.specs.Explanations.{IsBlameMessage, IsBlamed, IsBlamedBy, blamed_of, noted_of}
use Rattle.std.proofs.lemmas.List.{get_or-map}
use Rattle.std.proofs.lemmas.List.Sorted.{All-permutation}
use Rattle.hm_syntax.specs.declared.ast.Module.{Module}
use Rattle.hm_verdicts.specs.Sets.{imports_of, module_at, no_module}
use Rattle.hm_build_messages.proofs.Blamed.{named_through}
use Rattle.hm_build_messages.proofs.Called.{imported_in_row}
use Rattle.hm_build_messages.proofs.Told.{first_viewed}
use Rattle.hm_build_reports.specs.ReportBlocks.{all_blamed}
use Rattle.hm_build_reports.specs.Settling.{module_set, statuses_of}
use Rattle.hm_build_reports.proofs.Blame.{are_blamed}
use Rattle.hm_run_sources.proofs.Ordering.{sorted_map}
use Rattle.hm_build_reports.proofs.Reporting.{inside_set}
use Rattle.hm_build_reports.proofs.Tables.{row_inside}
use Rattle.hm_build_messages.proofs.explaining.skipped_messages.Goals as goal

pub blames_of-requires-clause-modules : goal.blames_of-requires-clause-modules
blames_of-requires-clause-modules c k d h =
    let told = c.args.view.now in
    row_inside told.modules.now told.plan.now c.args.number c.imports-row.result.now c.requires.lawful c.requires.number c.imports-row.ensures k d h

pub blames_of-requires-clause-settled : goal.blames_of-requires-clause-settled
blames_of-requires-clause-settled c k d h =
    let told = c.args.view.now in
    subst (λ n. get_or c.imports-row.result.now k d < n) (sym c.requires.len) (row_inside told.modules.now told.plan.now c.args.number c.imports-row.result.now c.requires.lawful c.requires.number c.imports-row.ensures k d h)

pub blames_of-requires-clause-imported : goal.blames_of-requires-clause-imported
blames_of-requires-clause-imported c k d h =
    let told = c.args.view.now in
    let p = module_set told.modules.now told.plan.now in
    let program : c.deref.result.now ≡ module_at p c.args.number = c.deref.ensures ∙ sym (get_or-map arc_value told.modules.now c.args.number c.index-view-number.result no_module c.requires.number) in
    let imports : c.as_slice-imports.result.now ≡ (module_at p c.args.number).header.imports = c.as_slice-imports.ensures ∙ ap (λ (m : Module). m.header.imports) program in
    imported_in_row told.modules.now told.plan.now c.args.number c.imports-row.result.now c.as_slice-imports.result.now c.requires.lawful c.requires.number c.imports-row.ensures imports k d h

pub returns : goal.returns
returns c =
    let told = c.args.view.now in
    let p = module_set told.modules.now told.plan.now in
    let status = statuses_of told.settled.now in
    let sorted = c.sort_by_key.new.self.items in
    let blames = map blamed_of sorted in
    let pages = told.pages.now.items.items in
    let format = told.pages.now.format in
    let text = c.in_ok-blame_messages.field-0.items in
    let page : Page = c.index-page.result.now in
    let is : page ≡ get_or pages c.args.source page = search rules in
    let first = take c.noted_of-shown.result c.as_slice.result.now in
    let some : first ≡ take c.noted_of-shown.result sorted = ap (take c.noted_of-shown.result) c.as_slice.ensures.value in
    let many : c.noted_of-shown.result ≡ noted_of format (length sorted) = search rules in
    let here : AreEach (IsBlameMessage format page.file.now page.lines) (take (noted_of format (length blames)) blames) text =
    subst (λ l. AreEach (IsBlameMessage format page.file.now page.lines) l text) (first_viewed blamed_of format sorted first c.noted_of-shown.result some many) c.in_ok-blame_messages.ensures in
    let found = c.in_ok-blames.blames.items in
    let program : c.deref.result.now ≡ module_at p c.args.number = c.deref.ensures ∙ sym (get_or-map arc_value told.modules.now c.args.number c.index-view-number.result no_module c.requires.number) in
    let imports : c.as_slice-imports.result.now ≡ (module_at p c.args.number).header.imports = c.as_slice-imports.ensures ∙ ap (λ (m : Module). m.header.imports) program in
    let by_row : All (λ b. IsBlamedBy p.modules status (imports_of p c.args.number) c.as_slice-imports.result.now (blamed_of b)) found =
    subst (λ row. All (λ b. IsBlamedBy p.modules status row c.as_slice-imports.result.now (blamed_of b)) found) c.imports-row.ensures c.in_ok-blames.ensures.right in
    let by_imports : All (λ b. IsBlamed p status c.args.number (blamed_of b)) found =
    subst (λ is. All (λ b. IsBlamedBy p.modules status (imports_of p c.args.number) is (blamed_of b)) found) imports by_row in
    let right : All (λ b. IsBlamed p status c.args.number (blamed_of b)) sorted =
    All-permutation (λ b. IsBlamed p status c.args.number (blamed_of b)) found sorted c.in_ok-sort_by_key.ensures.permutation by_imports in
    record {
      blames = blames;
      blamed = subst (AreBlamed p status c.args.number) (sym (named_through sorted)) (are_blamed p c.requires.lawful status c.args.number (inside_set told.modules.now told.plan.now c.args.number c.requires.number) (map (λ b. b.name.now) sorted)
          (subst (λ l. IsPermutation l (map (λ b. b.name.now) sorted)) (c.in_ok-blames.ensures.names ∙ ap (all_blamed (map arc_value told.modules.now) status) c.imports-row.ensures)
          (IsPermutation-map (λ b. b.name.now) _ _ c.in_ok-sort_by_key.ensures.permutation))
          (sorted_map (λ b. b.name.now) name_below _ (c.in_ok-sort_by_key.ensures.sorted (λ b. b.name) (answers_always _ (λ a r. r ≡ a.0.now.name) _ (λ f a r q k. search rules)))));
      right = All-map (IsBlamed p status c.args.number) blamed_of sorted right;
      stated = subst (λ (s : List ℕ). AreEach (IsBlameMessage format (get_or (files_in pages) c.args.source []) s) (take (noted_of format (length blames)) blames) text) (text_is pages c.args.source page c.requires.source is)
          (subst (λ (f : List ℕ). AreEach (IsBlameMessage format f page.lines) (take (noted_of format (length blames)) blames) text) (file_is pages c.args.source page c.requires.source is) here);
    }
