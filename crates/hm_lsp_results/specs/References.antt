-- Where names are written (Language Server Protocol 3.17, "Find References Request", "Document Highlights Request").
use Rattle.std.specs.Prelude.{◌≡◌, ◌<◌, ◌≤◌, ◌==◌, ◌&&◌, ◌||◌, nat_lt, not, ℕ, Bool, List, Some, length, slice_get}
use Rattle.std.specs.List.{AllZip, filter}
use Rattle.serde_json.specs.Data.{Data, array, null}
use Rattle.serde_json.specs.View.{items_of}
use Rattle.hm_lex.specs.declared.token.Place.{Place as BytePlace}
use Rattle.hm_lsp_positions.specs.declared.positions.Position.{Position}
use Rattle.hm_lsp_results.specs.Asked.{HasUri, IsReadText, Subject}
use Rattle.hm_lsp_values.specs.Places.{IsPlaceAt}
use Rattle.hm_lsp_values.specs.References.{IsHighlight, IsReference}
use Rattle.hm_messages_json.specs.declared.message.Position.{Position as Place}
use Rattle.hm_service_references.specs.Names.{AreReferencesAt, HasNoNameAt}
use Rattle.hm_service_sources.specs.declared.held.HeldSource.{HeldSource}
use Rattle.hm_uses_references.specs.declared.finding.Reference.{Reference}

-- the place of the checker that has the position in source number n, which can be read. Its line is a number of 32 bits
pub record IsPlaceIn (asked : Subject) (n : ℕ) (p : Position) (place : Place) : Type 0 where
  pub text : List ℕ
  pub readable : IsReadText asked.held n text
  pub at : IsPlaceAt asked.encoding text p place
  pub line : place.line ≤ 4294967295

pub data HasNoPlace (asked : Subject) (n : ℕ) (p : Position) : Type 0 where
  unread : ((text : List ℕ) → ¬ (IsReadText asked.held n text)) → HasNoPlace asked n p
  far : {text : List ℕ} {place : Place} → IsReadText asked.held n text → IsPlaceAt asked.encoding text p place → 4294967295 < place.line → HasNoPlace asked n p

-- a place in bytes
abbrev pub in_bytes : Place → BytePlace
in_bytes place = record { line = place.line; column = place.columns.bytes }

-- all names of the set that mean the same as the one at the position, in order
pub record AreReferencesOf (asked : Subject) (n : ℕ) (p : Position) (references : List Reference) : Type 0 where
  pub place : Place
  pub is : IsPlaceIn asked n p place
  pub are : AreReferencesAt asked.checked n (in_bytes place) references

-- no name is at the position
pub data HasNoReferences (asked : Subject) (n : ℕ) (p : Position) : Type 0 where
  nowhere : HasNoPlace asked n p → HasNoReferences asked n p
  unnamed : {place : Place} → IsPlaceIn asked n p place → HasNoNameAt asked.checked n (in_bytes place) → HasNoReferences asked n p

-- an array with a value for each member, in order
pub record AreValues {X : Type 0} (P : X → Data → Type 0) (xs : List X) (value : Data) : Type 0 where
  pub values : List Data
  pub each : AllZip P xs values
  pub whole : value ≡ array (items_of values)

-- the source of the reference is there, and it is no declaration if these are left out
abbrev pub is_located : Subject → Bool → Reference → Bool
is_located asked declarations r = (declarations || not r.binds) && (nat_lt r.source (length asked.sources) && nat_lt r.source (length asked.held))

-- where the name is written in the text that stands for its source
pub record IsLocated (asked : Subject) (r : Reference) (value : Data) : Type 0 where
  pub uri : List ℕ
  pub source : HeldSource
  pub named : HasUri asked.sources r.source uri
  pub held : slice_get asked.held r.source ≡ Some source
  pub is : IsReference asked.encoding uri source.standing.items r value

-- the references of the name at the position, with their declarations or without, or null if no name is there
pub data IsReferencesResult (asked : Subject) (declarations : Bool) (n : ℕ) (p : Position) (value : Data) : Type 0 where
  found : {references : List Reference} → AreReferencesOf asked n p references → AreValues (IsLocated asked) (filter (is_located asked declarations) references) value → IsReferencesResult asked declarations n p value
  not_found : HasNoReferences asked n p → value ≡ null → IsReferencesResult asked declarations n p value

abbrev pub is_in : ℕ → Reference → Bool
is_in n r = r.source == n

-- the references in the source itself, or null if no name is there
pub data IsHighlightsResult (asked : Subject) (n : ℕ) (p : Position) (value : Data) : Type 0 where
  found : {references : List Reference} {text : List ℕ} → AreReferencesOf asked n p references → IsReadText asked.held n text → AreValues (IsHighlight asked.encoding text) (filter (is_in n) references) value
      → IsHighlightsResult asked n p value
  not_found : HasNoReferences asked n p → value ≡ null → IsHighlightsResult asked n p value
