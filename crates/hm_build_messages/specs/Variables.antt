-- The notes of type variables that are named like types in scope (Report 4.1.2, 4.4.1, 5.5.1).
use Rattle.std.specs.Prelude.{ℕ, List, ◌∷◌}
use Rattle.hm_types.specs.Interfaces.{Exports as Interface}
use Rattle.hm_types.specs.StandardPrelude.{prelude_interface}
use Rattle.hm_syntax.specs.Lists.{declarations}
use Rattle.hm_syntax.specs.declared.ast.Module.{Module}
use Rattle.hm_names.specs.Bindings.{IsScopeOf, Pair}
use Rattle.hm_messages.specs.Messages.{AreEach, IsMessage}
use Rattle.hm_messages.specs.Subjects.{type_variable}
use Rattle.hm_messages.specs.declared.heading.MessageFormat.{MessageFormat}
use Rattle.hm_messages_trials.specs.TypedSources.{IsModuleIn}
use Rattle.hm_messages_variables.specs.LikeTypes.{Likeness, like_types}

-- the note of a type variable, at its place, states the type that it is named like
abbrev pub IsVariableNote : MessageFormat → List ℕ → List ℕ → Likeness → List ℕ → Type 0
IsVariableNote format file source l text = IsMessage format file source l.place (type_variable l.variable l.type_name) text

-- A note for each type variable in the signature of the definition that is named like a type in the scope of its module, and no other note
pub record AreVariableNotes (format : MessageFormat) (file source name : List ℕ) (fs : List Interface) (definition text : List ℕ) : Type 0 where
  pub «module» : Module
  pub spelled : IsModuleIn source name «module»
  pub scope : List Pair
  pub of_module : IsScopeOf «module» (prelude_interface ∷ fs) scope
  pub stated : AreEach (IsVariableNote format file source) (like_types scope definition (declarations «module».decls)) text
