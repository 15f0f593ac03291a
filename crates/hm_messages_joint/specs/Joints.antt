-- Two parts of a definition that together are to blame for a type fault.
use Rattle.std.specs.Prelude.{◌≡◌, ◌≤◌, ℕ, List, ◌∷◌, All, Contains, length}
use Rattle.hm_types.specs.Interfaces.{Exports as Interface}
use Rattle.hm_types.specs.StandardPrelude.{prelude_interface}
use Rattle.hm_syntax.specs.declared.ast.Module.{Module}
use Rattle.hm_names.specs.Imports.{AreImportsOf}
use Rattle.hm_names.specs.declared.faults.Fault.{Fault}
use Rattle.hm_names.specs.declared.faults.Kind.TheVariants.{Untyped}
use Rattle.hm_verdicts.specs.ModuleVerdicts.{Verdict, IsVerdict}
use Rattle.hm_messages_changes.specs.Holes.{IsPartOf, with_hole}
use Rattle.hm_messages_changes.specs.Wildcards.{bindings, with_wildcard, IsInside}
use Rattle.hm_messages_changes.specs.declared.data.Frame.{Frame}
use Rattle.hm_messages_changes.specs.declared.data.Span.{Span}
use Rattle.hm_messages_changes.specs.declared.data.SourceRange.{SourceRange}
use Rattle.hm_messages_trials.specs.TypedSources.{HasTypesIn, IsModuleIn}
use Rattle.hm_messages_joint.specs.declared.parts.JointPart.{JointPart}
use Rattle.hm_messages_joint.specs.declared.parts.JointPart.TheVariants.{Expression, Pattern}

-- the bytes and places of a part
abbrev pub range_of : JointPart → SourceRange
range_of (Expression range) = range
range_of (Pattern range) = range

-- two parts of the source, the second of which comes after the first
pub record AreApart (source : List ℕ) (first second : JointPart) : Type 0 where
  pub first_of : IsPartOf source (range_of first)
  pub second_of : IsPartOf source (range_of second)
  pub apart : (range_of first).to ≤ (range_of second).from

-- the source with `_` in place of the pattern, where variables of it are bound to the hole
pub record IsWithoutPattern (source : List ℕ) (part : SourceRange) (made : List ℕ) : Type 0 where
  pub at : ℕ
  pub after : part.to ≤ at
  pub within : at ≤ length source
  pub frame : Frame
  pub variables : List Span
  pub inside : All (IsInside part) variables
  pub made_is : made ≡ with_wildcard source part.from part.to at (bindings source frame variables)

-- the source with something of every type in place of the part
abbrev pub IsOpened : List ℕ → JointPart → List ℕ → Type 0
IsOpened source (Expression range) made = made ≡ with_hole source range.from range.to
IsOpened source (Pattern range) made = IsWithoutPattern source range made

-- with something of every type in place of both parts the definition has a type. The second one is opened first, which doesn't move the first
pub record HasTypeWithBoth (source name : List ℕ) (fs : List Interface) (definition : List ℕ) (first second : JointPart) : Type 0 where
  pub changed : List ℕ
  pub second_opened : IsOpened source second changed
  pub both : List ℕ
  pub first_opened : IsOpened changed first both
  pub others : List (List ℕ)
  pub types : HasTypesIn both name fs (definition ∷ others)

-- a type fault of the definition
abbrev pub IsFaultOf : List ℕ → Fault → Type 0
IsFaultOf definition f = (f.kind ≡ Untyped) × (f.name ≡ definition)

-- one of the faults is
abbrev pub HasFaultIn : List ℕ → List Fault → Type 0
HasFaultIn definition found = (f : Fault) × Contains found f × IsFaultOf definition f

-- the verdict has such a fault
abbrev pub HasFaultOf : List ℕ → Verdict → Type 0
HasFaultOf definition (Verdict.Good f) = ⊥
HasFaultOf definition (Verdict.Faulty found) = HasFaultIn definition found

-- the source spells a module with this name that needs these interfaces. Its verdict for them and Prelude's has a type fault of the definition
pub record IsUntypedIn (source name : List ℕ) (fs : List Interface) (definition : List ℕ) : Type 0 where
  pub «module» : Module
  pub spelled : IsModuleIn source name «module»
  pub of_imports : AreImportsOf «module» fs
  pub verdict : Verdict
  pub right : IsVerdict «module» (prelude_interface ∷ fs) verdict
  pub untyped : HasFaultOf definition verdict

-- with something of every type in place of the part the definition is a type fault
pub record IsUntypedWithout (source name : List ℕ) (fs : List Interface) (definition : List ℕ) (part : JointPart) : Type 0 where
  pub changed : List ℕ
  pub opened : IsOpened source part changed
  pub untyped : IsUntypedIn changed name fs definition

-- with something of every type in place of one part alone the definition is a type fault
pub record NeedsBoth (source name : List ℕ) (fs : List Interface) (definition : List ℕ) (first second : JointPart) : Type 0 where
  pub not_first : IsUntypedWithout source name fs definition first
  pub not_second : IsUntypedWithout source name fs definition second
