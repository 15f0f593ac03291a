-- What gives a definition a type: another expression, another pattern, two parts exchanged, one left out, or a text put in around one.
use Rattle.std.specs.Prelude.{◌≤◌, ℕ, List, ◌∷◌, All, length}
use Rattle.hm_types.specs.Interfaces.{Exports as Interface}
use Rattle.hm_messages_trials.specs.TypedSources.{HasTypesIn, IsCulprit}
use Rattle.hm_messages_changes.specs.Holes.{IsPartOf, without}
use Rattle.hm_messages_changes.specs.declared.data.Frame.{Frame}
use Rattle.hm_messages_trials.specs.declared.mends.Mend.{Mend}
use Rattle.hm_messages_trials.specs.declared.mends.Mend.TheVariants.{Expression, Pattern, Exchange, Removal, Sides, Patterns, Insertion as insertion_mend, Wrapped}
use Rattle.hm_messages_changes.specs.declared.data.Span.{Span}
use Rattle.hm_messages_changes.specs.declared.data.SourceRange.{SourceRange}
use Rattle.hm_messages_changes.specs.Wildcards.{bindings, with_wildcard, IsInside}
use Rattle.hm_messages_changes.specs.Constructors.{with_constructor}
use Rattle.hm_messages_changes.specs.Exchanges.{with_exchanged}
use Rattle.hm_messages_changes.specs.Insertions.{with_insertion}
use Rattle.hm_messages_changes.specs.declared.insertions.Insertion.{Insertion}

-- The part is a pattern: the definition has a type with `_` in place of it, where variables of it are bound to the hole
pub record HasTypesWithPattern (source name : List ℕ) (fs : List Interface) (definition : List ℕ) (part : SourceRange) : Type 0 where
  pub at : ℕ
  pub after : part.to ≤ at
  pub within : at ≤ length source
  pub frame : Frame
  pub variables : List Span
  pub inside : All (IsInside part) variables
  pub others : List (List ℕ)
  pub types : HasTypesIn (with_wildcard source part.from part.to at (bindings source frame variables)) name fs (definition ∷ others)

pub record IsPatternPart (source name : List ℕ) (fs : List Interface) (definition : List ℕ) (part : SourceRange) : Type 0 where
  pub part_of : IsPartOf source part
  pub typed : HasTypesWithPattern source name fs definition part

-- the definition has a type with the two parts exchanged, the second of which stands after the first
pub record IsExchange (source name : List ℕ) (fs : List Interface) (definition : List ℕ) (first second : SourceRange) : Type 0 where
  pub first_of : IsPartOf source first
  pub second_of : IsPartOf source second
  pub apart : first.to ≤ second.from
  pub others : List (List ℕ)
  pub types : HasTypesIn (with_exchanged source first second) name fs (definition ∷ others)

-- the definition has a type if the part is left out
pub record IsRemoval (source name : List ℕ) (fs : List Interface) (definition : List ℕ) (part : SourceRange) : Type 0 where
  pub part_of : IsPartOf source part
  pub others : List (List ℕ)
  pub types : HasTypesIn (without source part.from part.to) name fs (definition ∷ others)

-- the definition has a type with a text put in around the part, or before it
pub record IsInsertion (source name : List ℕ) (fs : List Interface) (definition : List ℕ) (insertion : Insertion) (part : SourceRange) : Type 0 where
  pub part_of : IsPartOf source part
  pub others : List (List ℕ)
  pub types : HasTypesIn (with_insertion source insertion part) name fs (definition ∷ others)

-- the definition has a type with a constructor of this name in front of the part
pub record IsWrapped (source name : List ℕ) (fs : List Interface) (definition constructor : List ℕ) (part : SourceRange) : Type 0 where
  pub part_of : IsPartOf source part
  pub others : List (List ℕ)
  pub types : HasTypesIn (with_constructor source constructor part) name fs (definition ∷ others)

-- the definition has a type with another expression or another pattern there, with the two parts exchanged, if the part is left out, or with a text put in
-- around it or a constructor in front of it. The parts that are exchanged are expressions, sides of a `:` or patterns
abbrev pub IsMend : List ℕ → List ℕ → List Interface → List ℕ → Mend → Type 0
IsMend source name fs definition (Expression part) = IsCulprit source name fs definition part
IsMend source name fs definition (Pattern part) = IsPatternPart source name fs definition part
IsMend source name fs definition (Exchange first second) = IsExchange source name fs definition first second
IsMend source name fs definition (Removal part) = IsRemoval source name fs definition part
IsMend source name fs definition (Sides first second) = IsExchange source name fs definition first second
IsMend source name fs definition (Patterns first second) = IsExchange source name fs definition first second
IsMend source name fs definition (insertion_mend insertion part) = IsInsertion source name fs definition insertion part
IsMend source name fs definition (Wrapped constructor part) = IsWrapped source name fs definition constructor.now part
