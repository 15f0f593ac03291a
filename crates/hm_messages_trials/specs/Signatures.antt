-- The type that a definition has without its signature, where that is to blame for a type fault.
use Rattle.std.specs.Prelude.{◌≡◌, ◌≤◌, ◌⊎◌, ℕ, List, ◌∷◌, codes, length}
use Rattle.hm_types.specs.Interfaces.{Exports as Interface}
use Rattle.hm_types.specs.Schemes.{TypeScheme}
use Rattle.hm_types.specs.StandardPrelude.{prelude_interface}
use Rattle.hm_types_display.specs.Texts.{scheme_text_of}
use Rattle.hm_syntax.specs.declared.ast.Module.{Module}
use Rattle.hm_names.specs.Imports.{AreImportsOf}
use Rattle.hm_verdicts.specs.ModuleVerdicts.{Verdict, Good, Faulty, IsVerdict}
use Rattle.hm_messages_trials.specs.TypedSources.{HasTypesIn, IsModuleIn}
use Rattle.hm_messages_changes.specs.Holes.{IsPartOf, without}
use Rattle.hm_messages_trials.specs.PartTypes.{ExportsIn}
use Rattle.hm_messages_changes.specs.Probes.{Surroundings, with_alone}
use Rattle.hm_messages_trials.specs.ShownTypes.{IsShown}
use Rattle.hm_messages_changes.specs.declared.data.SourceRange.{SourceRange}

-- with that variable in place of the definition the module is good, and this is the text of the variable's type
pub record HasTypeAlone (source name : List ℕ) (fs : List Interface) (definition text : List ℕ) : Type 0 where
  pub place : Surroundings
  pub ordered : place.whole.from ≤ place.whole.to
  pub within : place.whole.to ≤ length source
  pub scheme : TypeScheme
  pub typed : ExportsIn (with_alone source definition place) name fs (codes "part'types") scheme
  pub text_is : text ≡ scheme_text_of scheme

-- the same, as it is shown
pub record HasShownTypeAlone (source name : List ℕ) (fs : List Interface) (definition text : List ℕ) : Type 0 where
  pub whole : List ℕ
  pub alone : HasTypeAlone source name fs definition whole
  pub shown : IsShown (λ s. with_alone source definition s) name fs whole text

-- Without this part of the source the module is good, and exports the definition with a type whose text is shown so
pub record HasShownTypeThere (source name : List ℕ) (fs : List Interface) (definition : List ℕ) (part : SourceRange) (text : List ℕ) : Type 0 where
  pub scheme : TypeScheme
  pub typed : ExportsIn (without source part.from part.to) name fs definition scheme
  pub shown : IsShown (λ s. without source part.from part.to) name fs (scheme_text_of scheme) text

-- The definition has a type without this part of the source. This is the text of the type with which the module exports it there, or of the type that it has alone
pub record IsUnsigned (source name : List ℕ) (fs : List Interface) (definition : List ℕ) (part : SourceRange) (text : List ℕ) : Type 0 where
  pub part_of : IsPartOf source part
  pub others : List (List ℕ)
  pub types : HasTypesIn (without source part.from part.to) name fs (definition ∷ others)
  pub own : HasShownTypeThere source name fs definition part text ⊎ HasShownTypeAlone source name fs definition text

abbrev pub IsGood : Verdict → Type 0
IsGood (Good f) = Unit {0}
IsGood (Faulty found) = ⊥

-- the source spells a module with this name that needs these interfaces, and it is good for them and Prelude's
pub record IsGoodIn (source name : List ℕ) (fs : List Interface) : Type 0 where
  pub «module» : Module
  pub spelled : IsModuleIn source name «module»
  pub of_imports : AreImportsOf «module» fs
  pub verdict : Verdict
  pub right : IsVerdict «module» (prelude_interface ∷ fs) verdict
  pub good : IsGood verdict

-- The signature is likelier to be wrong than its definition: without it the module is good
abbrev pub Leads : List ℕ → List ℕ → List Interface → SourceRange → Type 0
Leads source name fs part = IsGoodIn (without source part.from part.to) name fs
