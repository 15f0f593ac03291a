-- Where the modules of a source start, and in which of them a place is.
use Rattle.std.specs.Prelude.{◌≡◌, ◌⊎◌, ◌<◌, ◌==◌, ℕ, ⊤, Bool, List, [], ◌∷◌, ◌++◌, Option, Some, None, length, map, slice_index_or}
use Rattle.hm_lex.specs.Places.{IsBefore}
use Rattle.hm_lex.specs.declared.token.Place.{Place}
use Rattle.hm_syntax.specs.declared.ast.Header.{Header}
use Rattle.hm_syntax.specs.declared.ast.Module.{Module}
use Rattle.hm_run_sources.specs.Origins.{IsSpelledBy}
use Rattle.hm_run_sources.specs.SourceModules.{AreModulesOf, HasModules}
use Rattle.hm_messages.specs.declared.starts.ModuleStart.{ModuleStart}

-- the name of a module, and its place
pub record Start : Type 0 where
  pub place : Place
  pub name : List ℕ

abbrev pub start_of : ModuleStart → Start
start_of s = record { place = s.place; name = s.name.now }

abbrev pub header_start : Header → Start
header_start h = record { place = record { line = h.name.line; column = h.name.column }; name = h.name.text }

abbrev pub module_start : Module → Start
module_start m = header_start m.header

-- the module is one of the source with this number
abbrev pub is_from : ℕ → ModuleStart → Bool
is_from number s = s.source == number

-- the place comes before the name of the first of these modules, if there is one
abbrev pub IsBeforeFirst : Place → List Start → Type 0
IsBeforeFirst place [] = ⊤
IsBeforeFirst place (s ∷ ss) = IsBefore place s.place

-- of modules in order, the place is in one with this name: it isn't before this name, and is before the name of the next module
pub record IsWithin (starts : List Start) (place : Place) (name : List ℕ) : Type 0 where
  pub earlier : List Start
  pub here : Start
  pub later : List Start
  pub all : starts ≡ earlier ++ here ∷ later
  pub named : here.name ≡ name
  pub begun : ¬ (IsBefore place here.place)
  pub ends : IsBeforeFirst place later

-- the name of the module that the place is in. There is none if the place is before the first name
abbrev pub IsModuleAt : List Start → Place → Option (List ℕ) → Type 0
IsModuleAt starts place None = IsBeforeFirst place starts
IsModuleAt starts place (Some name) = IsWithin starts place name

-- a module that is named is one of the source, and the place is in it
abbrev pub IsModuleAround : List ℕ → Place → Option (List ℕ) → Type 0
IsModuleAround source place None = ⊤
IsModuleAround source place (Some name) = (modules : List Module) × HasModules source modules × IsWithin (map module_start modules) place name

-- the modules of a source, or none if they aren't known
abbrev pub MayStart : List ℕ → List Start → Type 0
MayStart source starts = (starts ≡ []) ⊎ ((modules : List Module) × HasModules source modules × (starts ≡ map module_start modules))

-- the modules of these sources in order, each with its source
pub record AreStartsOf (sources : List (List ℕ)) (starts : List ModuleStart) : Type 0 where
  pub modules : List Module
  pub read : AreModulesOf sources modules
  pub named : map start_of starts ≡ map module_start modules
  pub each : (m : ℕ) (d : ModuleStart) → m < length starts → IsSpelledBy sources m (slice_index_or starts m d).source

-- the same, or none if the modules aren't known
abbrev pub MayBeStartsOf : List (List ℕ) → List ModuleStart → Type 0
MayBeStartsOf sources starts = (starts ≡ []) ⊎ AreStartsOf sources starts

-- a source with modules of it
pub record KnownModules : Type 0 where
  pub source : List ℕ
  pub starts : List Start
