-- Types as they are shown: names of synonyms stand for types, as in the signatures of the module (Report 4.2.2).
use Rattle.std.specs.Prelude.{◌≡◌, ◌⊎◌, ◌&&◌, Bool, true, false, List, [], ◌∷◌, ℕ, All, Contains, codes, flat_map}
use Rattle.hm_lex.specs.Bytes.{is_name_byte}
use Rattle.hm_types.specs.Interfaces.{Exports as Interface}
use Rattle.hm_types.specs.Monotypes.{Mono}
use Rattle.hm_types.specs.StandardPrelude.{prelude_interface}
use Rattle.hm_types.specs.Types.{App as app, Var as leaf}
use Rattle.hm_types.specs.declared.Head.{Head}
use Rattle.hm_types.specs.declared.Head.TheVariants.{Arrow, List as OfList, Named, Tuple, Unit as OfUnit}
use Rattle.hm_types.specs.declared.entries.SynonymEntry.{SynonymEntry}
use Rattle.hm_types_display.specs.Texts.{scheme_text_of}

-- a name, and the text of the type that it stands for
pub record NamedType : Type 0 where
  pub name : List ℕ
  pub text : List ℕ

-- a piece of a text that is shown as it is, or by one of these names
abbrev pub IsPiece : List NamedType → NamedType → Type 0
IsPiece names p = (p.name ≡ p.text) ⊎ Contains names p

-- a name goes on where this text begins (Report 2.4)
abbrev pub starts_name : List ℕ → Bool
starts_name [] = false
starts_name (b ∷ bs) = is_name_byte b

-- a name goes on where this text ends
abbrev pub ends_name : List ℕ → Bool
ends_name [] = false
ends_name (b ∷ []) = is_name_byte b
ends_name (b ∷ c ∷ bs) = ends_name (c ∷ bs)

-- no name is cut between two of these pieces
abbrev pub AreWhole : List NamedType → Type 0
AreWhole [] = Unit {0}
AreWhole (p ∷ ps) = ((ends_name p.text && starts_name (flat_map (λ q. q.text) ps)) ≡ false) × AreWhole ps

-- what is shown is the text, with names in place of some pieces. With the type of each name put back it is the text again
pub record IsFolded (names : List NamedType) (text shown : List ℕ) : Type 0 where
  pub pieces : List NamedType
  pub each : All (IsPiece names) pieces
  pub whole : AreWhole pieces
  pub text_is : text ≡ flat_map (λ p. p.text) pieces
  pub shown_is : shown ≡ flat_map (λ p. p.name) pieces

-- the type is a list or a tuple. Its text has brackets of its own, so it is a whole type in the text of each other one
abbrev pub is_bracketed : Mono → Bool
is_bracketed (leaf v) = false
is_bracketed (app h ts) = has_brackets h
  where
    has_brackets : Head → Bool
    has_brackets OfList = true
    has_brackets (Tuple n) = true
    has_brackets OfUnit = false
    has_brackets Arrow = false
    has_brackets (Named e) = false

-- the synonym has no parameters, is declared in the module of this name, and stands for a list or a tuple with this text
pub record IsAlias (home : List ℕ) (entry : SynonymEntry) (n : NamedType) : Type 0 where
  pub named : entry.name ≡ n.name
  pub declared : entry.entity.«module» ≡ home
  pub own : entry.entity.name ≡ n.name
  pub closed : entry.synonym.parameters ≡ 0
  pub bracketed : is_bracketed entry.synonym.body ≡ true
  pub text_is : n.text ≡ scheme_text_of (record { vars = 0; body = entry.synonym.body })

-- an interface exports such a synonym
abbrev pub IsNameIn : List ℕ → Interface → NamedType → Type 0
IsNameIn home exports n = (entry : SynonymEntry) × Contains exports.synonyms entry × IsAlias home entry n

-- the module's interface exports the name as a synonym of its own, or Prelude's does
abbrev pub IsName : List ℕ → Interface → NamedType → Type 0
IsName name exports n = IsNameIn name exports n ⊎ IsNameIn (codes "Prelude") prelude_interface n
