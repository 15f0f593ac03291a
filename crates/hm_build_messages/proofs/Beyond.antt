-- Notes of the faults that the report leaves out, and of expected types.
use Rattle.std.proofs.Common.{◌≡◌, ◌⊎◌, ◌<◌, ℕ, List, [], length, get_or, inl, inr, subst}
use Rattle.hm_types.specs.Interfaces.{Exports as Interface}
use Rattle.hm_names.specs.declared.faults.Fault.{Fault}
use Rattle.hm_verdicts.specs.Sets.{ModuleSet, imports_of, module_at}
use Rattle.hm_verdicts.specs.Verdicts.{ArePublished, Status}
use Rattle.hm_messages.specs.Pages.{files_in, texts_in}
use Rattle.hm_messages.specs.declared.heading.MessageFormat.{MessageFormat}
use Rattle.hm_messages.specs.declared.pages.Page.{Page}
use Rattle.hm_messages.proofs.AtPage.{file_is, text_is}
use Rattle.hm_build_messages.specs.Expected.{AreExpectedNotes, AreExpectedStatedIn}
use Rattle.hm_build_messages.specs.Explanations.{AreHiddenStated, AreHiddenStatedIn}

-- notes of a page are notes of the file and the source that it is
pub beyond_page : (format : MessageFormat) (pages : List Page) (source : ℕ) (page : Page) (p : ModuleSet) (status : ℕ → Status) (i : ℕ) (name : List ℕ) (fs : List Interface) (faults : List Fault) (text : List ℕ)
    → source < length pages → page ≡ get_or pages source page → name ≡ (module_at p i).header.name.text → ArePublished status (imports_of p i) fs
    → (text ≡ []) ⊎ AreHiddenStated format page.file.now page.lines name fs faults text
    → (text ≡ []) ⊎ AreHiddenStatedIn format (get_or (files_in pages) source []) (get_or (texts_in pages) source []) p status i faults text
beyond_page format pages source page p status i name fs faults text inside is named published (inl e) = inl e
beyond_page format pages source page p status i name fs faults text inside is named published (inr told) =
    let of_name : AreHiddenStated format page.file.now page.lines (module_at p i).header.name.text fs faults text = subst (λ n. AreHiddenStated format page.file.now page.lines n fs faults text) named told in
    let of_text : AreHiddenStated format page.file.now (get_or (texts_in pages) source []) (module_at p i).header.name.text fs faults text
    = subst (λ (s : List ℕ). AreHiddenStated format page.file.now s (module_at p i).header.name.text fs faults text) (text_is pages source page inside is) of_name in
    inr (fs, published, subst (λ (f : List ℕ). AreHiddenStated format f (get_or (texts_in pages) source []) (module_at p i).header.name.text fs faults text) (file_is pages source page inside is) of_text)

-- and so of expected types
pub expected_page : (format : MessageFormat) (pages : List Page) (source : ℕ) (page : Page) (p : ModuleSet) (status : ℕ → Status) (i : ℕ) (name : List ℕ) (fs : List Interface) (faults : List Fault) (text : List ℕ)
    → source < length pages → page ≡ get_or pages source page → name ≡ (module_at p i).header.name.text → ArePublished status (imports_of p i) fs
    → (text ≡ []) ⊎ AreExpectedNotes format page.file.now page.lines name fs faults text
    → (text ≡ []) ⊎ AreExpectedStatedIn format (get_or (files_in pages) source []) (get_or (texts_in pages) source []) p status i faults text
expected_page format pages source page p status i name fs faults text inside is named published (inl e) = inl e
expected_page format pages source page p status i name fs faults text inside is named published (inr told) =
    let of_name : AreExpectedNotes format page.file.now page.lines (module_at p i).header.name.text fs faults text = subst (λ n. AreExpectedNotes format page.file.now page.lines n fs faults text) named told in
    let of_text : AreExpectedNotes format page.file.now (get_or (texts_in pages) source []) (module_at p i).header.name.text fs faults text
    = subst (λ (s : List ℕ). AreExpectedNotes format page.file.now s (module_at p i).header.name.text fs faults text) (text_is pages source page inside is) of_name in
    inr (fs, published, subst (λ (f : List ℕ). AreExpectedNotes format f (get_or (texts_in pages) source []) (module_at p i).header.name.text fs faults text) (file_is pages source page inside is) of_text)
