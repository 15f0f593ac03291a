-- The name that a rename at a place is of (Language Server Protocol 3.17, "Prepare Rename Request").
use Rattle.std.specs.Prelude.{◌≡◌, ℕ, All, Contains, List, false, string_bytes, true}
use Rattle.std.specs.List.{Any}
use Rattle.hm_lex.specs.declared.token.Place.{Place}
use Rattle.hm_service_places.specs.declared.checked.Checked.{Checked}
use Rattle.hm_service_references.specs.Names.{AreNamesIn, AreNamesOf, AreReferencesAt, HasNoNameAt}
use Rattle.hm_service_rename.specs.Sets.{IsWhole}
use Rattle.hm_service_rename.specs.declared.preparing.Asked.{Asked}
use Rattle.hm_service_places.specs.declared.checked.CheckedSet.{CheckedSet}
use Rattle.hm_service_rename.specs.declared.results.Prepared.{Prepared}
use Rattle.hm_service_rename.specs.declared.results.Prepared.TheVariants.{Refused, Renamable}
use Rattle.hm_service_rename.specs.declared.results.RenameRefusal.{RenameRefusal}
use Rattle.hm_service_rename.specs.declared.results.RenameRefusal.TheVariants.{NotAName, NotBound, NoName, NotRead, NotSame, NotWhole}
use Rattle.hm_service_rename.specs.declared.results.SourcePlace.{SourcePlace}
use Rattle.hm_service_rename.specs.declared.results.Target.{Target}
use Rattle.hm_service_sources.specs.HeldSets.{texts_of}
use Rattle.hm_store.specs.Builds.{Build}
use Rattle.hm_uses_references.specs.References.{AreReferences, HasNoName, names_at, reference_of}
use Rattle.hm_uses_references.specs.SetNames.{SetName}
use Rattle.hm_uses_references.specs.declared.finding.Reference.{Reference}

abbrev pub place_in : SourcePlace → Place
place_in p = record { line = p.line; column = p.column }

-- a name at the place, which is bound at one of its references: where it is written, without its qualifier, and its text
pub record IsTarget (names : List SetName) (source : ℕ) (place : Place) (t : Target) : Type 0 where
  pub one : SetName
  pub at : Contains (names_at source place names) one
  pub reference : t.reference ≡ reference_of one
  pub text : string_bytes t.name ≡ one.used.mention.name.text
  pub references : List Reference
  pub referring : AreReferences names source place references
  pub bound : Any (λ x. x.binds ≡ true) references

-- the same in a checked set
abbrev pub IsTargetAt : Checked → SourcePlace → Target → Type 0
IsTargetAt c p t = (names : List SetName) × (AreNamesOf c names × IsTarget names p.source (place_in p) t)

-- why a rename of the name at the place is refused, whatever its new name is
abbrev pub IsNotRenamable : CheckedSet → SourcePlace → RenameRefusal → Type 0
IsNotRenamable set p NotWhole = ¬ (IsWhole (texts_of set.held.now) set.checked.now)
IsNotRenamable set p NoName = IsWhole (texts_of set.held.now) set.checked.now × HasNoNameAt set.checked.now p.source (place_in p)
IsNotRenamable set p NotBound =
    IsWhole (texts_of set.held.now) set.checked.now × ((references : List Reference) × (AreReferencesAt set.checked.now p.source (place_in p) references × All (λ x. x.binds ≡ false) references))
IsNotRenamable set p NotAName = ⊥
IsNotRenamable set p NotRead = ⊥
IsNotRenamable set p NotSame = ⊥

-- the name at the place, or why it can't be renamed
abbrev pub IsPrepared : CheckedSet → SourcePlace → Prepared → Type 0
IsPrepared set p (Renamable t) = IsWhole (texts_of set.held.now) set.checked.now × IsTargetAt set.checked.now p t
IsPrepared set p (Refused refusal) = IsNotRenamable set p refusal

-- The steps. No public clause names these.

-- what is found among the names of a set
abbrev pub IsFoundIn : List SetName → ℕ → Place → Prepared → Type 0
IsFoundIn names source place (Renamable t) = IsTarget names source place t
IsFoundIn names source place (Refused NotWhole) = ⊥
IsFoundIn names source place (Refused NoName) = HasNoName names source place
IsFoundIn names source place (Refused NotBound) = (references : List Reference) × (AreReferences names source place references × All (λ x. x.binds ≡ false) references)
IsFoundIn names source place (Refused NotAName) = ⊥
IsFoundIn names source place (Refused NotRead) = ⊥
IsFoundIn names source place (Refused NotSame) = ⊥

-- the same among the names of a build
abbrev pub IsFoundWithin : Build → List ℕ → List ℕ → ℕ → Place → Prepared → Type 0
IsFoundWithin b counts part source place p = (names : List SetName) × (AreNamesIn b counts part names × IsFoundIn names source place p)

abbrev pub IsFoundBy : Asked → Prepared → Type 0
IsFoundBy a p = IsFoundWithin a.store.now a.counts.now a.part.now a.place.source (place_in a.place) p

-- the same in a checked set
abbrev pub IsFoundAt : Checked → SourcePlace → Prepared → Type 0
IsFoundAt c place p = IsFoundWithin c.build.store c.build.counts.items c.part.items place.source (place_in place) p
