-- Faults that the report leaves out because names aren't in scope.
use Rattle.std.specs.Prelude.{◌≡◌, ◌≤◌, ℕ, List, ◌∷◌, ◌++◌, All, Contains, length, take, slice_range}
use Rattle.hm_lex.specs.Cut.{place_after}
use Rattle.hm_lex.specs.Places.{IsBefore}
use Rattle.hm_lex.specs.declared.token.Place.{Place}
use Rattle.hm_types.specs.Interfaces.{Exports as Interface}
use Rattle.hm_types.specs.StandardPrelude.{prelude_interface}
use Rattle.hm_syntax.specs.declared.ast.Module.{Module}
use Rattle.hm_names.specs.Imports.{AreImportsOf}
use Rattle.hm_names.specs.declared.faults.Fault.{Fault}
use Rattle.hm_names.specs.declared.faults.Kind.{Kind}
use Rattle.hm_names.specs.declared.faults.Kind.TheVariants.{NotExported, Duplicate, NoBinding, Unbound, Ambiguous, ExportClash, NotImported, NonLinear, Arity, ClauseLength, Untyped, Recursive}
use Rattle.hm_verdicts.specs.ModuleVerdicts.{Verdict, IsVerdict}
use Rattle.hm_messages_trials.specs.TypedSources.{IsModuleIn}
use Rattle.hm_messages_changes.specs.declared.data.Other.{Other}
use Rattle.hm_messages_changes.specs.Blanks.{replaced}

-- one of the faults says that the name isn't in scope
pub record IsOutOfScope (faults : List Fault) (x : List ℕ) : Type 0 where
  pub fault : Fault
  pub among : Contains faults fault
  pub unbound : fault.kind ≡ Unbound
  pub named : fault.name ≡ x

-- the kinds of faults of the phases after that of names: those of arguments, of patterns, of synonyms and of types
abbrev pub IsLaterKind : Kind → Type 0
IsLaterKind NotExported = ⊥
IsLaterKind Duplicate = ⊥
IsLaterKind NoBinding = ⊥
IsLaterKind Unbound = ⊥
IsLaterKind Ambiguous = ⊥
IsLaterKind ExportClash = ⊥
IsLaterKind NotImported = ⊥
IsLaterKind NonLinear = ⊥
IsLaterKind Arity = Unit {0}
IsLaterKind ClauseLength = Unit {0}
IsLaterKind Untyped = Unit {0}
IsLaterKind Recursive = Unit {0}

-- one of the faults says of a name from the first place up to the second that it isn't in scope
pub record HaveUnbound (faults : List Fault) (start end : Place) : Type 0 where
  pub fault : Fault
  pub among : Contains faults fault
  pub unbound : fault.kind ≡ Unbound
  pub after : ¬ (IsBefore fault.place start)
  pub ahead : IsBefore fault.place end

-- the bytes begin with a name
pub record BeginWith (bytes name : List ℕ) : Type 0 where
  pub rest : List ℕ
  pub whole : bytes ≡ name ++ rest

-- these bytes of the source begin with the definition's name, and have a name that isn't in scope
pub record IsReplaced (source : List ℕ) (faults : List Fault) (d : Other) : Type 0 where
  pub ordered : d.from ≤ d.to
  pub named : BeginWith (slice_range source d.from d.to) d.name.now
  pub unbound : HaveUnbound faults (place_after (take d.from source)) (place_after (take d.to source))

-- the fault is of a later phase, and in front of a place
abbrev pub IsLater : Place → Fault → Type 0
IsLater end f = IsLaterKind f.kind × IsBefore f.place end

-- the verdict is good, or has only such faults
abbrev pub AreLater : Place → Verdict → Type 0
AreLater end (Verdict.Good f) = Unit {0}
AreLater end (Verdict.Faulty found) = All (IsLater end) found

-- With the hole as the definition of names that the faults say aren't in scope, and in place of definitions that have such names, the source spells a module
-- with this name that needs these interfaces, and has this verdict for them and Prelude's. Its faults are of later phases, and in front of the definitions
-- that are put in. So they have the same places in the source
pub record IsVerdictBeyond (source name : List ℕ) (fs : List Interface) (faults : List Fault) (verdict : Verdict) : Type 0 where
  pub at : ℕ
  pub within : at ≤ length source
  pub names : List (List ℕ)
  pub unbound : All (IsOutOfScope faults) names
  pub definitions : List Other
  pub removed : All (IsReplaced source faults) definitions
  pub «module» : Module
  pub spelled : IsModuleIn (replaced source at names definitions) name «module»
  pub of_imports : AreImportsOf «module» fs
  pub right : IsVerdict «module» (prelude_interface ∷ fs) verdict
  pub later : AreLater (place_after (take at source)) verdict
