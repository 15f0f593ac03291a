-- The names of a checked set, and those that mean the same as the name at a place.
use Rattle.std.specs.Prelude.{◌≡◌, ℕ, zero, suc, List, [], ◌++◌, Option, None, Some, Vec, length, map, slice_index_or}
use Rattle.std.specs.declared.alloc.Global.{Global}
use Rattle.hm_build_places.specs.Known.{HasNoUses, HasUses, Known, origin_of}
use Rattle.hm_build_places.specs.Views.{known_in}
use Rattle.hm_lex.specs.declared.token.Place.{Place}
use Rattle.hm_run_sources.specs.ModuleCounts.{AreOrigins}
use Rattle.hm_service_places.specs.declared.checked.Checked.{Checked}
use Rattle.hm_store.specs.Builds.{Build}
use Rattle.hm_uses.specs.Uses.{UseOf}
use Rattle.hm_uses_references.specs.References.{AreReferences, HasNoName}
use Rattle.hm_uses_references.specs.SetNames.{SetName, name_in}
use Rattle.hm_uses_references.specs.declared.finding.Reference.{Reference}

-- these are the uses of module number i. A module that is skipped has none
pub data AreUsesAt (k : Known) (i : ℕ) (us : List UseOf) : Type 0 where
  of_module : HasUses k i us → AreUsesAt k i us
  of_skipped : HasNoUses k i → us ≡ [] → AreUsesAt k i us

-- the number in the held set of the source that module number i is in
abbrev pub source_of : Known → List ℕ → ℕ → ℕ
source_of k part i = slice_index_or part (origin_of k i) 0

-- the names of the first n modules, in order
abbrev pub AreFirstNames : Known → List ℕ → ℕ → List SetName → Type 0
AreFirstNames k part zero names = names ≡ []
AreFirstNames k part (suc n) names =
    (before : List SetName) × ((us : List UseOf) × (AreFirstNames k part n before × (AreUsesAt k n us × (names ≡ before ++ map (name_in n (source_of k part n)) us))))

-- the names of all modules of a build. `counts` has the number of modules of each source, and `part` the number of the source in the held set
pub record AreNamesIn (b : Build) (counts part : List ℕ) (names : List SetName) : Type 0 where
  pub origins : List ℕ
  pub origins_are : AreOrigins counts origins
  pub all : AreFirstNames (known_in b [] [] origins) part (length b.modules) names

-- what is returned for a place of a build. No public clause names this
abbrev pub IsFound : Build → List ℕ → List ℕ → ℕ → Place → Option (Vec Reference Global) → Type 0
IsFound b counts part source place None = (names : List SetName) × (AreNamesIn b counts part names × HasNoName names source place)
IsFound b counts part source place (Some references) = (names : List SetName) × (AreNamesIn b counts part names × AreReferences names source place references.items)

-- the names of the modules of a checked set, in the order of sources and of places
abbrev pub AreNamesOf : Checked → List SetName → Type 0
AreNamesOf c names = AreNamesIn c.build.store c.build.counts.items c.part.items names

-- a name is at the place of the source, and these are the places of all names of the set that mean the same, in order
abbrev pub AreReferencesAt : Checked → ℕ → Place → List Reference → Type 0
AreReferencesAt c source place references = (names : List SetName) × (AreNamesOf c names × AreReferences names source place references)

-- no name of the set is at the place of the source
abbrev pub HasNoNameAt : Checked → ℕ → Place → Type 0
HasNoNameAt c source place = (names : List SetName) × (AreNamesOf c names × HasNoName names source place)
