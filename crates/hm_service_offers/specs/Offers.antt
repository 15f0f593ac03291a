-- The fixes for a range of a source: the changes that a check of the set that they make shows to be fixes.
use Rattle.std.specs.Prelude.{◌≡◌, ◌<◌, ◌⊎◌, ℕ, Bool, true, false, List, [], ◌∷◌, ◌++◌, Option, None, Some, slice_index_or, string_bytes}
use Rattle.hm_service.specs.Checks.{IsHeldCheck}
use Rattle.hm_service_candidates.specs.Edited.{HasNoEdited, IsEditedText, place_of}
use Rattle.hm_service_candidates.specs.Ranges.{AreCandidatesIn, Tried}
use Rattle.hm_service_candidates.specs.declared.edited.EditedText.{EditedText}
use Rattle.hm_service_candidates.specs.declared.ranges.SourceRange.{SourceRange}
use Rattle.hm_service_fixes.specs.declared.changes.SourceChange.{SourceChange}
use Rattle.hm_service_messages.specs.declared.diagnostic.Diagnostic.{Diagnostic}
use Rattle.hm_service_offers.specs.Changed.{IsChangedSet}
use Rattle.hm_service_offers.specs.Judged.{IsShown}
use Rattle.hm_service_places.specs.Diagnostics.{in_run}
use Rattle.hm_service_places.specs.declared.checked.Checked.{Checked}
use Rattle.hm_service_places.specs.declared.checked.CheckedSet.{CheckedSet}
use Rattle.hm_service_sources.specs.HeldSets.{texts_of}
use Rattle.hm_service_sources.specs.declared.held.HeldSource.{HeldSource}

-- the change of source number n that edits make, for the error that this message reports
pub record IsChangeFor (n : ℕ) (fault : Diagnostic) (made : EditedText) (c : SourceChange) : Type 0 where
  pub source : c.source ≡ n
  pub kind : c.kind.now ≡ string_bytes fault.kind
  pub place : c.place ≡ place_of fault.start
  pub start : c.replaced.start ≡ made.start
  pub end : c.replaced.end ≡ made.end
  pub new_end : c.replaced.new_end ≡ made.new_end

-- the edits are made in source number n, the set with that text is checked, and this is whether the check shows that they are a fix
pub record IsTrial (set : CheckedSet) (n : ℕ) (t : Tried) (fix : Bool) : Type 0 where
  pub made : EditedText
  pub edited : IsEditedText (slice_index_or (texts_of set.held.now) n []) t.change.edits.items made
  pub held : List HeldSource
  pub changed : IsChangedSet set.held.now n made.text.items held
  pub check : Checked
  pub checked : IsHeldCheck set.workers held check
  pub change : SourceChange
  pub change_is : IsChangeFor n t.fault made change
  pub shown : IsShown set held check change fix

-- a number of the error's position has more than 32 bits
abbrev pub IsLong : Diagnostic → Type 0
IsLong fault = (4294967295 < fault.start.line) ⊎ (4294967295 < fault.start.columns.bytes)

-- the change isn't tried: its edits make no text, or a number of the error's position has more than 32 bits
abbrev pub IsNotTried : CheckedSet → ℕ → Tried → Type 0
IsNotTried set n t = HasNoEdited (slice_index_or (texts_of set.held.now) n []) t.change.edits.items ⊎ IsLong t.fault

-- whether the change is a fix. One that isn't tried is none
abbrev pub IsTriedAs : CheckedSet → ℕ → Tried → Bool → Type 0
IsTriedAs set n t true = IsTrial set n t true
IsTriedAs set n t false = IsNotTried set n t ⊎ IsTrial set n t false

-- those of some changes that are fixes, in order
abbrev pub AreFixes : CheckedSet → ℕ → List Tried → List Tried → Type 0
AreFixes set n [] found = found ≡ []
AreFixes set n (t ∷ ts) found = (IsTriedAs set n t true × ((later : List Tried) × ((found ≡ t ∷ later) × AreFixes set n ts later))) ⊎ (IsTriedAs set n t false × AreFixes set n ts found)

-- the fixes for the range that the messages of a run say
abbrev pub AreFixesIn : CheckedSet → SourceRange → List Diagnostic → List Tried → Type 0
AreFixesIn set r told found = (candidates : List Tried) × (AreCandidatesIn told r candidates × AreFixes set r.source candidates found)

-- by whether the source can be read: if so, those of the run of all sources and then those of the run of the sources that can be checked
abbrev pub AreFixesAs : Bool → CheckedSet → SourceRange → List Tried → Type 0
AreFixesAs true set r found =
    (first : List Tried) × ((later : List Tried) × (AreFixesIn set r (in_run set.checked.now.refused) first × (AreFixesIn set r set.checked.now.told.diagnostics.items later × (found ≡ first ++ later))))
AreFixesAs false set r found = AreFixesIn set r (in_run set.checked.now.unread) found

-- the fixes for the range, if its source is there
abbrev pub AreFixesAt : Option HeldSource → CheckedSet → SourceRange → List Tried → Type 0
AreFixesAt None set r found = found ≡ []
AreFixesAt (Some h) set r found = AreFixesAs h.is_read set r found
