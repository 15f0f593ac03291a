-- A judged set of modules with its sources, and where places and modules are in it.
use Rattle.std.specs.Prelude.{◌≡◌, ℕ, ◌<◌, List, [], ◌∷◌, Option, Some, None, codes, length, slice_index_or}
use Rattle.hm_lex.specs.declared.token.Place.{Place}
use Rattle.hm_messages_excerpts.specs.Escapes.{shown}
use Rattle.hm_messages_excerpts.specs.Excerpts.{IsPlaceIn}
use Rattle.hm_messages_json.specs.Positions.{IsPositionAt}
use Rattle.hm_messages_json.specs.declared.message.Position.{Position}
use Rattle.hm_names.specs.Imports.{AreImportsOf}
use Rattle.hm_types.specs.Interfaces.{Exports as Interface}
use Rattle.hm_types.specs.StandardPrelude.{prelude_interface}
use Rattle.hm_uses.specs.Uses.{AreUses, UseOf}
use Rattle.hm_verdicts.specs.Reports.{name_of_module}
use Rattle.hm_verdicts.specs.Sets.{ModuleSet, imports_of, module_at}
use Rattle.hm_verdicts.specs.Verdicts.{ArePublished, Status}
use Rattle.hm_build_place_texts.specs.Facts.{Site}

-- the modules with their plan and their statuses, the names and the texts of the sources, and the number of each module's source
pub record Known : Type 0 where
  pub set : ModuleSet
  pub status : ℕ → Status
  pub files : List (List ℕ)
  pub texts : List (List ℕ)
  pub origins : List ℕ

-- a source without a name is standard input
abbrev pub file_at : List (List ℕ) → ℕ → List ℕ
file_at files source = slice_index_or files source (codes "<stdin>")

-- the name of a source as it is shown
abbrev pub file_text : Known → ℕ → List ℕ
file_text k source = shown (file_at k.files source)

abbrev pub text_of : Known → ℕ → List ℕ
text_of k source = slice_index_or k.texts source []

abbrev pub origin_of : Known → ℕ → ℕ
origin_of k i = slice_index_or k.origins i 0

-- the position of a place, if the place is in the source
abbrev pub IsPositionIn : List ℕ → Place → Option Position → Type 0
IsPositionIn source place (Some p) = IsPositionAt source place p
IsPositionIn source place None = ¬ (IsPlaceIn source place)

-- the place of a source, with the name of its file
pub record IsSiteOf (k : Known) (source : ℕ) (place : Place) (s : Site) : Type 0 where
  pub file_is : s.file ≡ file_text k source
  pub position_is : IsPositionIn (text_of k source) place s.position

-- module number i has the name x
pub record IsNumberOf (k : Known) (x : List ℕ) (i : ℕ) : Type 0 where
  pub inside : i < length k.set.modules
  pub named : name_of_module k.set i ≡ x

-- no module has the name x
abbrev pub HasNoNumber : Known → List ℕ → Type 0
HasNoNumber k x = (i : ℕ) → i < length k.set.modules → ¬ (name_of_module k.set i ≡ x)

-- these are the uses of module number i, for the published interfaces of its imports
pub record HasUses (k : Known) (i : ℕ) (us : List UseOf) : Type 0 where
  pub interfaces : List Interface
  pub published : ArePublished k.status (imports_of k.set i) interfaces
  pub uses : AreUses (module_at k.set i) (prelude_interface ∷ interfaces) us

-- module number i has no uses: not all of its imports are published
abbrev pub HasNoUses : Known → ℕ → Type 0
HasNoUses k i = (fs : List Interface) → ArePublished k.status (imports_of k.set i) fs → ¬ (AreImportsOf (module_at k.set i) fs)
