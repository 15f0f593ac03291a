-- Messages of faults with what is known of each, and the interfaces for which it is known.
use Rattle.std.proofs.Common.{◌≡◌, Bool, ℕ, ◌+◌, ◌<◌, List, [], ◌∷◌, ◌++◌, length, take, get_or, Option, Some, None, sym, ap, subst}
use Rattle.std.proofs.lemmas.List.{take_more}
use Rattle.hm_types.specs.Interfaces.{Exports as Interface}
use Rattle.hm_verdicts.specs.Outcomes.{Checked}
use Rattle.hm_store.specs.Builds.{Build, interface_at, interface_in, interface_of, kept_at}
use Rattle.hm_store.specs.Settlements.{settlement, settlement_by, settlement_with}
use Rattle.hm_verdicts.specs.ModuleVerdicts.{Verdict, Good, Faulty}
use Rattle.hm_verdicts.specs.Verdicts.{ArePublished, Status, Published}
use Rattle.hm_verdicts.specs.Sets.{ModuleSet}
use Rattle.hm_names.specs.declared.faults.Fault.{Fault}
use Rattle.hm_messages.specs.Pages.{files_in, texts_in}
use Rattle.hm_messages.specs.declared.heading.MessageFormat.{MessageFormat}
use Rattle.hm_messages.specs.declared.pages.Page.{Page}
use Rattle.hm_messages.proofs.AtPage.{file_is, text_is}
use Rattle.hm_build_messages.specs.Explanations.{AreFaultsStated, AreInTurn, IsFaultStated}

published_more : (status : ℕ → Status) (js : List ℕ) (fs : List Interface) (j : ℕ) (f : Interface) → ArePublished status js fs → status j ≡ Published f → ArePublished status (js ++ j ∷ []) (fs ++ f ∷ [])
published_more status [] [] j f h e = (e, tt)
published_more status [] (g ∷ fs) j f h e = absurd h
published_more status (i ∷ js) [] j f h e = absurd h
published_more status (i ∷ js) (g ∷ fs) j f h e = (h.0, published_more status js fs j f h.1 e)

-- the step of a loop
pub taken_published : (status : ℕ → Status) (js : List ℕ) (i d : ℕ) (fs next : List Interface) (f : Interface) → i < length js → ArePublished status (take i js) fs → status (get_or js i d) ≡ Published f → next ≡ fs ++ f ∷ [] → ArePublished status (take (i + 1) js) next
taken_published status js i d fs next f within h e pushed =
    subst (ArePublished status (take (i + 1) js)) (sym pushed) (subst (λ l. ArePublished status l (fs ++ f ∷ [])) (sym (take_more js i d within)) (published_more status (take i js) fs (get_or js i d) f h e))

interface_or : Interface → Option Interface → Interface
interface_or d None = d
interface_or d (Some f) = f

same_interface : (f g : Interface) → Some f ≡ Some g → f ≡ g
unfolding interface_or
same_interface f g e = ap (interface_or f) e

good_with : (v : Verdict) (f : Interface) → interface_of v ≡ Some f → settlement_by v ≡ Published f
good_with (Good g) f e = ap (λ x. Published x) (same_interface g f e)
good_with (Faulty found) f e = absurd (cc)

settled_with : (o : Option Checked) (f : Interface) → interface_in o ≡ Some f → settlement_with o ≡ Published f
settled_with (Some c) f e = good_with c.verdict f e
settled_with None f e = absurd (cc)

-- a module whose interface is kept is published with it
pub looked_up : (b : Build) (j : ℕ) (f : Interface) → interface_at b.kept j ≡ Some f → settlement b j ≡ Published f
looked_up b j f e = settled_with (kept_at b.kept j) f e

-- what is told of faults by a page is told by the pages that it stands among
pub at_page : (format : MessageFormat) (pages : List Page) (source : ℕ) (page : Page) (p : ModuleSet) (status : ℕ → Status) (i : ℕ) (faults : List Fault) (before after : Bool) (text : List ℕ) → source < length pages → page ≡ get_or pages source page
    → AreInTurn (IsFaultStated format page.file.now page.lines (files_in pages) (texts_in pages) p status i) faults before after text → AreFaultsStated format (files_in pages) (texts_in pages) source p status i faults before after text
at_page format pages source page p status i faults before after text inside is told =
    subst (λ (s : List ℕ). AreInTurn (IsFaultStated format (get_or (files_in pages) source []) s (files_in pages) (texts_in pages) p status i) faults before after text) (text_is pages source page inside is)
    (subst (λ (f : List ℕ). AreInTurn (IsFaultStated format f page.lines (files_in pages) (texts_in pages) p status i) faults before after text) (file_is pages source page inside is) told)
