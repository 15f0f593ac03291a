-- The types that are expected of names which aren't in scope.
use Rattle.std.specs.Prelude.{◌≡◌, ◌≤◌, ◌⊎◌, ℕ, List, ◌++◌, All, codes, drop, length, slice_range, take}
use Rattle.hm_types.specs.Interfaces.{Exports as Interface}
use Rattle.hm_names.specs.declared.faults.Fault.{Fault}
use Rattle.hm_names.specs.declared.faults.Kind.TheVariants.{Unbound}
use Rattle.hm_messages_changes.specs.Blanks.{replaced}
use Rattle.hm_messages_changes.specs.Holes.{IsPartOf}
use Rattle.hm_messages_changes.specs.declared.data.Other.{Other}
use Rattle.hm_messages_changes.specs.declared.data.SourceRange.{SourceRange}
use Rattle.hm_messages_here.specs.TypesHere.{HasTypeAt}
use Rattle.hm_messages_hidden.specs.Hidden.{IsOutOfScope, IsReplaced}
use Rattle.hm_messages_types.specs.Letters.{HaveLetters}

-- the variable that is written in place of a name
abbrev pub placeholder : List ℕ
placeholder = codes "part'hole"

-- the source with this variable in place of a part
abbrev pub with_placeholder : List ℕ → SourceRange → List ℕ
with_placeholder source part = take part.from source ++ (placeholder ++ drop part.to source)

-- the names that get a definition as the hole: the placeholder, and those that the faults say aren't in scope
abbrev pub IsDefined : List Fault → List ℕ → Type 0
IsDefined faults x = (x ≡ placeholder) ⊎ IsOutOfScope faults x

-- The placeholder is in place of a part, and after it the hole is the definition of the placeholder and of other names that aren't in scope (Report 4.4.3, 4.5). So these have every type.
-- Definitions that have other such names are the hole too
pub record IsOpened (source : List ℕ) (faults : List Fault) (part : SourceRange) (changed : List ℕ) : Type 0 where
  pub at : ℕ
  pub after : part.to ≤ at
  pub within : at ≤ length source
  pub names : List (List ℕ)
  pub defined : All (IsDefined faults) names
  pub definitions : List Other
  pub removed : All (IsReplaced source faults) definitions
  pub changed_is : changed ≡ with_placeholder (replaced source at names definitions) part

-- The name of a fault is written at its place. With the placeholder in place of it, this has the type with the text `here` there, in a definition that has the type `own`
pub record HasOpenType (source name : List ℕ) (fs : List Interface) (faults : List Fault) (f : Fault) (definition own here : List ℕ) : Type 0 where
  pub part : SourceRange
  pub part_is : IsPartOf source part
  pub starts : part.start ≡ f.place
  pub written : slice_range source part.from part.to ≡ f.name
  pub changed : List ℕ
  pub opened : IsOpened source faults part changed
  pub typed : HasTypeAt changed name fs f.place placeholder definition own here

-- the type is shown as it is, or with the letters of the definition's signature (Report 4.1.2)
abbrev pub IsShownAs : List ℕ → List ℕ → List ℕ → List ℕ → List ℕ → Type 0
IsShownAs source definition own here text = (text ≡ here) ⊎ ((other : List ℕ) × HaveLetters source definition own here here text other)

-- the fault is a name that isn't in scope, and this is the text of the type that is expected of it
pub record IsExpected (source name : List ℕ) (fs : List Interface) (faults : List Fault) (f : Fault) (text : List ℕ) : Type 0 where
  pub unbound : f.kind ≡ Unbound
  pub definition : List ℕ
  pub own : List ℕ
  pub here : List ℕ
  pub typed : HasOpenType source name fs faults f definition own here
  pub shown : IsShownAs source definition own here text
