-- The types of names at their places.
use Rattle.std.specs.Prelude.{◌≡◌, ◌⊎◌, ℕ, List, [], ◌∷◌, ◌++◌, All, codes, length, slice_range}
use Rattle.hm_types.specs.Interfaces.{Exports as Interface}
use Rattle.hm_types.specs.Monotypes.{Mono}
use Rattle.hm_types.specs.Schemes.{TypeScheme}
use Rattle.hm_types_display.specs.Texts.{scheme_text_of}
use Rattle.hm_messages_changes.specs.Blanks.{replaced}
use Rattle.hm_messages_changes.specs.declared.data.Other.{Other}
use Rattle.hm_lex.specs.declared.token.Place.{Place}
use Rattle.hm_messages_changes.specs.Holes.{IsPartOf}
use Rattle.hm_messages_changes.specs.declared.data.SourceRange.{SourceRange}
use Rattle.hm_messages_changes.specs.declared.data.Span.{Span}
use Rattle.hm_messages_copies.specs.Changes.{AreNested, Definition, Place as Target, function_of, part_of, variable_of, with_declaration}
use Rattle.hm_messages_copies.specs.declared.data.Point.{Point}
use Rattle.hm_messages_here.specs.Patterns.{IsTied}
use Rattle.hm_messages_trials.specs.PartTypes.{ExportsIn, from_pair, text_in}
use Rattle.hm_messages_trials.specs.ShownTypes.{ExportsNames}
use Rattle.hm_messages_types.specs.Shown.{IsFolded, NamedType}

-- the changed source spells a module with this name that is good for these interfaces, and exports part'types with this scheme
abbrev pub HasTypes : List ℕ → List ℕ → List Interface → TypeScheme → Type 0
HasTypes changed name fs scheme = ExportsIn changed name fs (codes "part'types") scheme

-- what is shown is this text, with names that the module has in the changed source in place of some types
pub record IsShownIn (changed name : List ℕ) (fs : List Interface) (text shown : List ℕ) : Type 0 where
  pub names : List NamedType
  pub exported : ExportsNames changed name fs names
  pub folded : IsFolded names text shown

-- a variable that is what a name means has a scheme with this text
pub record HasSchemeHere (source name : List ℕ) (fs : List Interface) (variable text : List ℕ) : Type 0 where
  pub place : Target
  pub scheme : TypeScheme
  pub typed : HasTypes (with_declaration source place (variable_of variable)) name fs scheme
  pub shown : IsShownIn (with_declaration source place (variable_of variable)) name fs (scheme_text_of scheme) text

-- a function with this scheme takes a value with the type of a definition and one with that of a part, and these are the texts of both. The first has the first letters
pub record AreTextsOf (scheme : TypeScheme) (own here : List ℕ) : Type 0 where
  pub own_type : Mono
  pub here_type : Mono
  pub pair : scheme.body ≡ from_pair own_type here_type
  pub own_is : own ≡ text_in scheme own_type
  pub here_is : here ≡ text_in scheme here_type

-- The part has the type with the text `here`, in the definition of this name, which has the type with the text `own`
pub record HasTypeHere (source name : List ℕ) (fs : List Interface) (part : Span) (definition own here : List ℕ) : Type 0 where
  pub place : Target
  pub first : Definition
  pub others : List Definition
  pub point : Point
  pub named : first.name ≡ definition
  pub tied : IsTied source name first.whole.from definition first.value first.local.name
  pub of_part : part_of point ≡ part
  pub nested : AreNested source 0 (length source) (first ∷ others) point
  pub scheme : TypeScheme
  pub typed : HasTypes (with_declaration source place (function_of source first others point)) name fs scheme
  pub whole_own : List ℕ
  pub whole_here : List ℕ
  pub texts : AreTextsOf scheme whole_own whole_here
  pub own_shown : IsShownIn (with_declaration source place (function_of source first others point)) name fs whole_own own
  pub here_shown : IsShownIn (with_declaration source place (function_of source first others point)) name fs whole_here here

-- The name with this text that is written at this place has the type with the text `here`
pub record HasTypeAt (source name : List ℕ) (fs : List Interface) (place : Place) (text definition own here : List ℕ) : Type 0 where
  pub part : SourceRange
  pub part_is : IsPartOf source part
  pub starts : part.start ≡ place
  pub written : slice_range source part.from part.to ≡ text
  pub typed : HasTypeHere source name fs (record { from = part.from; to = part.to }) definition own here

-- the source itself, or one with the hole in place of some definitions. The bytes of the others stay where they are
abbrev pub IsWithout : List ℕ → List ℕ → Type 0
IsWithout source whole = (whole ≡ source) ⊎ ((at : ℕ) × ((ds : List Other) × (whole ≡ replaced source at [] ds)))
