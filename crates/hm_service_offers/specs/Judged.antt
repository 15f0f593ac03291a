-- What a check of a held set says of its modules.
use Rattle.std.specs.Prelude.{◌≡◌, ◌↔◌, ℕ, Bool, true, false, Contains, IsTrue, List, [], map, slice_index_or}
use Rattle.hm_run_sources.specs.ModuleCounts.{AreOrigins}
use Rattle.hm_service_fixes.specs.Fixes.{IsFix}
use Rattle.hm_service_fixes.specs.Judged.{JudgedSet}
use Rattle.hm_service_fixes.specs.declared.changes.SourceChange.{SourceChange}
use Rattle.hm_service_places.specs.Places.{IsIndexOf}
use Rattle.hm_service_places.specs.declared.checked.Checked.{Checked}
use Rattle.hm_service_places.specs.declared.checked.CheckedSet.{CheckedSet}
use Rattle.hm_service_sources.specs.HeldSets.{texts_of}
use Rattle.hm_service_sources.specs.declared.held.HeldSource.{HeldSource}
use Rattle.hm_store.specs.Builds.{set_of}
use Rattle.hm_store.specs.Settlements.{settlement}

-- the number of the source of each module, in the held set
abbrev pub AreSources : Checked → List ℕ → Type 0
AreSources c sources = (origins : List ℕ) × (AreOrigins c.build.counts.items origins × (sources ≡ map (λ i. slice_index_or c.part.items i 0) origins))

-- the check is of source number n with the text that it has now
pub record IsOfText (held : List HeldSource) (c : Checked) (n index : ℕ) : Type 0 where
  pub at : IsIndexOf c n index
  pub same : slice_index_or (map (λ s. s.items) c.texts.items) index [] ≡ slice_index_or (texts_of held) n []

-- why it isn't: the source is left out, or the check is of another text of it
pub data IsNotOfText (held : List HeldSource) (c : Checked) (n : ℕ) : Type 0 where
  left_out : ¬ (Contains c.part.items n) → IsNotOfText held c n
  other_text : {index : ℕ} → IsIndexOf c n index → ¬ (slice_index_or (map (λ s. s.items) c.texts.items) index [] ≡ slice_index_or (texts_of held) n []) → IsNotOfText held c n

-- whether source number n is checked as it is now
abbrev pub IsCheckedAs : List HeldSource → Checked → ℕ → Bool → Type 0
IsCheckedAs held c n true = (index : ℕ) × IsOfText held c n index
IsCheckedAs held c n false = IsNotOfText held c n

-- the modules of the check with their verdicts, for a change of source number n
pub record IsJudged (held : List HeldSource) (c : Checked) (n : ℕ) (j : JudgedSet) : Type 0 where
  pub set : j.set ≡ set_of c.build.store
  pub status : j.status ≡ settlement c.build.store
  pub sources : AreSources c j.sources
  pub checked : IsCheckedAs held c n j.checked

-- whether the change is a fix, by the check of a set before it and by one after it
pub record IsShown (set : CheckedSet) (held : List HeldSource) (c : Checked) (change : SourceChange) (fix : Bool) : Type 0 where
  pub before : JudgedSet
  pub after : JudgedSet
  pub was : IsJudged set.held.now set.checked.now change.source before
  pub will_be : IsJudged held c change.source after
  pub is : IsTrue fix ↔ IsFix before after change
