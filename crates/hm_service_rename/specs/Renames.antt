-- A rename that the checker accepts (Language Server Protocol 3.17, "Rename Request").
use Rattle.std.specs.Prelude.{◌≡◌, ⊤, ℕ, All, List, [], ◌∷◌, false, true}
use Rattle.std.specs.List.{Any}
use Rattle.hm_lex.specs.declared.token.Place.{Place}
use Rattle.hm_service.specs.Checks.{IsHeldCheck}
use Rattle.hm_service_places.specs.declared.checked.Checked.{Checked}
use Rattle.hm_service_references.specs.Names.{AreNamesOf, AreReferencesAt, HasNoNameAt}
use Rattle.hm_service_rename.specs.Replaced.{AreReplaced}
use Rattle.hm_service_rename.specs.Spelling.{IsName}
use Rattle.hm_service_rename.specs.Sets.{AreHeldAs, IsAsGood, IsWhole}
use Rattle.hm_service_places.specs.declared.checked.CheckedSet.{CheckedSet}
use Rattle.hm_service_rename.specs.declared.results.Rename.{Rename}
use Rattle.hm_service_rename.specs.declared.results.Renamed.{Renamed}
use Rattle.hm_service_rename.specs.declared.results.Renamed.TheVariants.{Edits, Refused}
use Rattle.hm_service_rename.specs.declared.results.RenameRefusal.{RenameRefusal}
use Rattle.hm_service_rename.specs.declared.results.RenameRefusal.TheVariants.{NotWhole, NoName, NotBound, NotAName, NotRead, NotSame}
use Rattle.hm_service_sources.specs.HeldSets.{texts_of}
use Rattle.hm_service_sources.specs.Standing.{IsUnreadable}
use Rattle.hm_service_sources.specs.declared.held.HeldSource.{HeldSource}
use Rattle.hm_uses_references.specs.References.{names_at}
use Rattle.hm_uses_references.specs.SetNames.{SetName}
use Rattle.hm_uses_references.specs.declared.finding.Reference.{Reference}
use Rattle.hm_uses_renames.specs.Renames.{AreRenamed}

abbrev pub place_of : Rename → Place
place_of r = record { line = r.line; column = r.column }

-- one name is at the place of the source, and the others are the names of the set after it is renamed
pub record AreRenamedAt (names later : List SetName) (source : ℕ) (place : Place) (new : List ℕ) : Type 0 where
  pub one : SetName
  pub at : names_at source place names ≡ one ∷ []
  pub renamed : AreRenamed one new names later

-- the names of the second check are those of the first one, after the name at the place is renamed
abbrev pub AreNamesRenamed : Checked → Checked → Rename → Type 0
AreNamesRenamed c d r = (names : List SetName) × ((later : List SetName) × (AreNamesOf c names × (AreNamesOf d later × AreRenamedAt names later r.source (place_of r) r.name.now)))

-- the check of these sources is as good as that of the set, and its names are those of the set after the rename
abbrev pub IsAccepted : CheckedSet → List HeldSource → Rename → Type 0
IsAccepted set held r = (after : Checked) × (IsHeldCheck set.workers held after × (IsAsGood set.checked.now after × AreNamesRenamed set.checked.now after r))

-- these are the references to the name at the place, which is bound at one of them. The texts with the new name in place of all of them, and of nothing
-- else, are accepted
pub record IsRename (set : CheckedSet) (r : Rename) (references : List Reference) : Type 0 where
  pub whole : IsWhole (texts_of set.held.now) set.checked.now
  pub referring : AreReferencesAt set.checked.now r.source (place_of r) references
  pub bound : Any (λ x. x.binds ≡ true) references
  pub texts : List (List ℕ)
  pub replaced : AreReplaced (texts_of set.held.now) r.name.now references texts
  pub held : List HeldSource
  pub held_as : AreHeldAs texts held
  pub accepted : IsAccepted set held r

-- the name at the place isn't bound where a name of the set means the same
abbrev pub IsNotBound : Checked → Rename → Type 0
IsNotBound c r = (references : List Reference) × (AreReferencesAt c r.source (place_of r) references × All (λ x. x.binds ≡ false) references)

-- a text can't be read with the new name in place of the references
pub record HasUnread (texts : List (List ℕ)) (new : List ℕ) (references : List Reference) : Type 0 where
  pub made : List (List ℕ)
  pub replaced : AreReplaced texts new references made
  pub unread : Any IsUnreadable made

-- the same of the references to the name at the place
abbrev pub IsNotRead : CheckedSet → Rename → Type 0
IsNotRead set r = (references : List Reference) × (AreReferencesAt set.checked.now r.source (place_of r) references × HasUnread (texts_of set.held.now) r.name.now references)

-- what a refusal says. A set that isn't whole has names that aren't looked up. The last one says only that the checker didn't accept the set with the new name
abbrev pub IsRefused : CheckedSet → Rename → RenameRefusal → Type 0
IsRefused set r NotWhole = ¬ (IsWhole (texts_of set.held.now) set.checked.now)
IsRefused set r NoName = IsWhole (texts_of set.held.now) set.checked.now × HasNoNameAt set.checked.now r.source (place_of r)
IsRefused set r NotBound = IsWhole (texts_of set.held.now) set.checked.now × IsNotBound set.checked.now r
IsRefused set r NotAName = ¬ (IsName r.name.now)
IsRefused set r NotRead = IsNotRead set r
IsRefused set r NotSame = ⊤

abbrev pub IsRenameResult : CheckedSet → Rename → Renamed → Type 0
IsRenameResult set r (Edits references) = IsRename set r references.items
IsRenameResult set r (Refused refusal) = IsRefused set r refusal
