-- The steps of a rename. No public clause names these.
use Rattle.std.specs.Prelude.{◌≡◌, ⊤, ℕ, List, true}
use Rattle.std.specs.List.{Any}
use Rattle.hm_service_places.specs.declared.checked.Checked.{Checked}
use Rattle.hm_service_references.specs.Names.{AreReferencesAt, HasNoNameAt}
use Rattle.hm_service_rename.specs.Renames.{HasUnread, IsNotBound, place_of}
use Rattle.hm_service_rename.specs.Spelling.{IsName}
use Rattle.hm_service_rename.specs.Replaced.{AreReplaced}
use Rattle.hm_service_rename.specs.Sets.{AreHeldAs}
use Rattle.hm_service_rename.specs.declared.renaming.Made.{Made}
use Rattle.hm_service_rename.specs.declared.renaming.Made.TheVariants as made
use Rattle.hm_service_rename.specs.declared.results.Rename.{Rename}
use Rattle.hm_service_rename.specs.declared.results.RenameRefusal.{RenameRefusal}
use Rattle.hm_service_rename.specs.declared.results.RenameRefusal.TheVariants.{NotWhole, NoName, NotBound, NotAName, NotRead, NotSame}
use Rattle.hm_service_rename.specs.declared.results.Renamed.{Renamed}
use Rattle.hm_service_rename.specs.declared.results.Renamed.TheVariants.{Edits, Refused}
use Rattle.hm_uses_references.specs.declared.finding.Reference.{Reference}

-- why the references aren't renamed, before a text is changed
abbrev pub HasNoReferencesTo : Checked → Rename → RenameRefusal → Type 0
HasNoReferencesTo c r NotWhole = ⊥
HasNoReferencesTo c r NoName = HasNoNameAt c r.source (place_of r)
HasNoReferencesTo c r NotBound = IsNotBound c r
HasNoReferencesTo c r NotAName = ¬ (IsName r.name.now)
HasNoReferencesTo c r NotRead = ⊥
HasNoReferencesTo c r NotSame = ⊥

-- the references of the name, which is bound in the set
abbrev pub AreReferencesTo : Checked → Rename → Renamed → Type 0
AreReferencesTo c r (Edits references) = AreReferencesAt c r.source (place_of r) references.items × Any (λ x. x.binds ≡ true) references.items
AreReferencesTo c r (Refused refusal) = HasNoReferencesTo c r refusal

-- why the set with the new name isn't made: a text can't be read, or has its references in another order
abbrev pub IsNotMade : List (List ℕ) → List ℕ → List Reference → RenameRefusal → Type 0
IsNotMade texts new references NotWhole = ⊥
IsNotMade texts new references NoName = ⊥
IsNotMade texts new references NotBound = ⊥
IsNotMade texts new references NotAName = ⊥
IsNotMade texts new references NotRead = HasUnread texts new references
IsNotMade texts new references NotSame = ⊤

-- the set with the new name in place of the references
abbrev pub IsMade : List (List ℕ) → List ℕ → List Reference → Made → Type 0
IsMade texts new references (made.Held held) = (made : List (List ℕ)) × (AreReplaced texts new references made × AreHeldAs made held.items)
IsMade texts new references (made.Refused refusal) = IsNotMade texts new references refusal
