-- The completions at a place of a checked set: the names that may be written there, with their types.
use Rattle.std.specs.Prelude.{◌≡◌, ℕ, ◌<◌, ◌≤◌, List, [], ◌∷◌, Option, None, Some, length}
use Rattle.hm_build_places.specs.Known.{Known}
use Rattle.hm_build_places.specs.Views.{known_in}
use Rattle.hm_run_sources.specs.ModuleCounts.{AreOrigins}
use Rattle.hm_scope_typed_names.specs.Typed.{AreTypedNames}
use Rattle.hm_scope_typed_names.specs.declared.typed.TypedName.{TypedName}
use Rattle.hm_service_places.specs.declared.checked.Checked.{Checked}
use Rattle.hm_service_references.specs.Imported.{IsImported}
use Rattle.hm_service_references.specs.Names.{source_of}
use Rattle.hm_types.specs.Interfaces.{Exports as Interface}
use Rattle.hm_types.specs.StandardPrelude.{prelude_interface}
use Rattle.hm_verdicts.specs.Sets.{module_at}
use Rattle.hm_verdicts.specs.Verdicts.{Status, Published, Failed, Skipped}

-- module number i is in the source, and its name is at or before the line
pub record IsBegun (k : Known) (part : List ℕ) (source line i : ℕ) : Type 0 where
  pub own : source_of k part i ≡ source
  pub before : (module_at k.set i).header.name.line ≤ line

-- module number i is the one at the line: the last of the source whose name is at or before it
pub record IsModuleAt (k : Known) (part : List ℕ) (source line i : ℕ) : Type 0 where
  pub inside : i < length k.set.modules
  pub begun : IsBegun k part source line i
  pub last : (j : ℕ) → i < j → j < length k.set.modules → ¬ (IsBegun k part source line j)

-- no module of the source has its name at or before the line
abbrev pub HasNoModule : Known → List ℕ → ℕ → ℕ → Type 0
HasNoModule k part source line = (j : ℕ) → j < length k.set.modules → ¬ (IsBegun k part source line j)

-- the interface of a good module
abbrev pub interface_by : Status → Option Interface
interface_by (Published f) = Some f
interface_by (Failed found) = None
interface_by Skipped = None

-- the names that mean one entity in the scope of module number i and begin with the prefix, with their types. A module that is skipped has none
pub data AreNamesOf (k : Known) (i : ℕ) (prefix : List ℕ) (names : List TypedName) : Type 0 where
  of_module : {fs : List Interface} → IsImported k i (Some fs) → AreTypedNames (module_at k.set i) (prelude_interface ∷ fs) (interface_by (k.status i)) prefix names → AreNamesOf k i prefix names
  of_skipped : IsImported k i None → names ≡ [] → AreNamesOf k i prefix names

-- those of the module at the line of the source, if there is one
pub data AreCompletionsAt (k : Known) (part : List ℕ) (source line : ℕ) (prefix : List ℕ) (names : List TypedName) : Type 0 where
  in_module : {i : ℕ} → IsModuleAt k part source line i → AreNamesOf k i prefix names → AreCompletionsAt k part source line prefix names
  nowhere : HasNoModule k part source line → names ≡ [] → AreCompletionsAt k part source line prefix names

-- the completions at the line of a source of a checked set
pub record AreCompletionsOf (c : Checked) (source line : ℕ) (prefix : List ℕ) (names : List TypedName) : Type 0 where
  pub origins : List ℕ
  pub origins_are : AreOrigins c.build.counts.items origins
  pub are : AreCompletionsAt (known_in c.build.store [] [] origins) c.part.items source line prefix names
