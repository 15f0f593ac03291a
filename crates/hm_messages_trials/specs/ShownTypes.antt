-- The types of a part as they are shown, with the names that the module has.
use Rattle.std.specs.Prelude.{◌≡◌, ◌⊎◌, Bool, List, ◌∷◌, ℕ, All}
use Rattle.hm_types.specs.Interfaces.{Exports as Interface}
use Rattle.hm_types.specs.StandardPrelude.{prelude_interface}
use Rattle.hm_syntax.specs.declared.ast.Module.{Module}
use Rattle.hm_names.specs.Imports.{AreImportsOf}
use Rattle.hm_verdicts.specs.ModuleVerdicts.{Good, IsVerdict}
use Rattle.hm_messages_trials.specs.TypedSources.{IsModuleIn}
use Rattle.hm_messages_trials.specs.PartTypes.{HasPartTypes}
use Rattle.hm_messages_changes.specs.Probes.{Surroundings, with_probe}
use Rattle.hm_messages_changes.specs.declared.data.SourceRange.{SourceRange}
use Rattle.hm_messages_types.specs.Letters.{HaveLetters}
use Rattle.hm_messages_types.specs.Shown.{IsFolded, NamedType}
use Rattle.hm_messages_type_names.specs.TypeNames.{IsTypeName}

-- The source spells a module with this name that needs these interfaces. It is good for them and Prelude's, and with its interface these are names
pub record ExportsNames (source name : List ℕ) (fs : List Interface) (names : List NamedType) : Type 0 where
  pub «module» : Module
  pub spelled : IsModuleIn source name «module»
  pub of_imports : AreImportsOf «module» fs
  pub exports : Interface
  pub right : IsVerdict «module» (prelude_interface ∷ fs) (Good exports)
  pub each : All (IsTypeName «module» (prelude_interface ∷ fs) name exports) names

-- the text of a type is shown so, by names that the module has in a source with a definition replaced
pub record IsShown (changed : Surroundings → List ℕ) (name : List ℕ) (fs : List Interface) (text shown : List ℕ) : Type 0 where
  pub place : Surroundings
  pub names : List NamedType
  pub exported : ExportsNames (changed place) name fs names
  pub folded : IsFolded names text shown

-- the type of the definition and the two types of a part, by these names
pub record HasFoldedTypes (source name : List ℕ) (fs : List Interface) (definition : List ℕ) (part : SourceRange) (own expected actual : List ℕ) (infinite : Bool) : Type 0 where
  pub whole_own : List ℕ
  pub whole_expected : List ℕ
  pub whole_actual : List ℕ
  pub types : HasPartTypes source name fs definition part whole_own whole_expected whole_actual infinite
  pub own_shown : IsShown (λ s. with_probe source definition s part) name fs whole_own own
  pub expected_shown : IsShown (λ s. with_probe source definition s part) name fs whole_expected expected
  pub actual_shown : IsShown (λ s. with_probe source definition s part) name fs whole_actual actual

-- two types of a part are shown as they are, or with the letters of the definition's signature
abbrev pub AreShownOf : List ℕ → List ℕ → List ℕ → List ℕ → List ℕ → List ℕ → List ℕ → Type 0
AreShownOf source definition own expected actual shown_expected shown_actual =
    ((shown_expected ≡ expected) × (shown_actual ≡ actual)) ⊎ HaveLetters source definition own expected actual shown_expected shown_actual

-- the two types of a part, as they are shown: by these names, and perhaps with the letters of the definition's signature
pub record HasShownTypes (source name : List ℕ) (fs : List Interface) (definition : List ℕ) (part : SourceRange) (expected actual : List ℕ) (infinite : Bool) : Type 0 where
  pub own : List ℕ
  pub folded_expected : List ℕ
  pub folded_actual : List ℕ
  pub types : HasFoldedTypes source name fs definition part own folded_expected folded_actual infinite
  pub shown : AreShownOf source definition own folded_expected folded_actual expected actual
