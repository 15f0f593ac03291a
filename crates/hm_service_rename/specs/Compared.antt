-- The comparison of two builds. No public clause names these.
use Rattle.std.specs.Prelude.{ℕ, Bool, IsTrue, List}
use Rattle.hm_lex.specs.declared.token.Place.{Place}
use Rattle.hm_service_references.specs.Names.{AreNamesIn}
use Rattle.hm_service_rename.specs.Renames.{AreRenamedAt, place_of}
use Rattle.hm_service_rename.specs.declared.comparing.Side.{Side}
use Rattle.hm_service_rename.specs.declared.comparing.Sides.{Sides}
use Rattle.hm_service_rename.specs.declared.results.Rename.{Rename}
use Rattle.hm_store.specs.Builds.{Build}
use Rattle.hm_uses_references.specs.SetNames.{SetName}

abbrev pub AreRenamedWith : List SetName → Side → Rename → Type 0
AreRenamedWith names after r = (later : List SetName) × (AreNamesIn after.store.now after.counts.now after.part.now later × AreRenamedAt names later r.source (place_of r) r.name.now)

-- whether the names of the second build are those of the first one, after the name at the place is renamed
abbrev pub IsComparedIn : Build → List ℕ → List ℕ → Build → List ℕ → List ℕ → ℕ → Place → List ℕ → Bool → Type 0
IsComparedIn b counts part d later_counts later_part source place new same =
    IsTrue same → (names : List SetName) × ((later : List SetName) × (AreNamesIn b counts part names × (AreNamesIn d later_counts later_part later × AreRenamedAt names later source place new)))

abbrev pub IsComparison : Sides → Bool → Type 0
IsComparison s same = IsComparedIn s.before.store.now s.before.counts.now s.before.part.now s.after.store.now s.after.counts.now s.after.part.now s.rename.source (place_of s.rename) s.rename.name.now same
