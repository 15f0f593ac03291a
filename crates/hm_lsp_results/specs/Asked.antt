-- The results of requests about the texts (Language Server Protocol 3.17, "Hover Request", "Goto Definition Request").
use Rattle.std.specs.Prelude.{◌≡◌, ◌<◌, ◌+◌, ℕ, true, List, Option, None, Some, codes, option_map, slice_get, string_bytes}
use Rattle.percent_encoding.specs.Percent.{percent_decode}
use Rattle.serde_json.specs.Data.{Data}
use Rattle.hm_lsp_positions.specs.Positions.{IsOffsetOf, IsPositionOf}
use Rattle.hm_lsp_positions.specs.declared.positions.Position.{Position}
use Rattle.hm_lsp_positions.specs.declared.units.Encoding.{Encoding}
use Rattle.hm_lsp_positions.specs.declared.units.Encoding.TheVariants.{Utf32}
use Rattle.hm_lsp_session.specs.Params.{string_at}
use Rattle.hm_service_places.specs.Places.{HasNoName, IsNameAt}
use Rattle.hm_service_places.specs.declared.checked.Checked.{Checked}
use Rattle.hm_service_places.specs.declared.places.AtPlace.{AtPlace}
use Rattle.hm_service_sources.specs.declared.held.HeldSource.{HeldSource}
use Rattle.hm_lsp_results.specs.declared.asking.Asked.{Asked}
use Rattle.hm_lsp_sources.specs.Names.{IsNumberOf}
use Rattle.hm_lsp_sources.specs.declared.source.Source.{Source}

-- what a request is about: a check of the texts that are held for the sources, and what columns count
pub record Subject : Type 0 where
  pub encoding : Encoding
  pub sources : List Source
  pub held : List HeldSource
  pub checked : Checked

abbrev pub subject_of : Asked → Subject
subject_of asked = record { encoding = asked.encoding; sources = asked.sources.now; held = asked.held.now; checked = asked.checked.now }

-- the URI of the source with this number
abbrev pub HasUri : List Source → ℕ → List ℕ → Type 0
HasUri sources n uri = option_map (λ s. string_bytes s.uri) (slice_get sources n) ≡ Some uri

-- the source that a request is about: the first one with the name of the document, if a document is named and there is such a source
abbrev pub IsOfUri : List Source → Option (List ℕ) → Option ℕ → Type 0
IsOfUri sources None found = found ≡ None
IsOfUri sources (Some uri) found = IsNumberOf sources (percent_decode uri) found

abbrev pub IsSourceIn : List Source → Data → Option ℕ → Type 0
IsSourceIn sources request found = IsOfUri sources (string_at (codes "/params/textDocument/uri") request) found

-- the text of a source that can be read
pub record IsReadText (held : List HeldSource) (n : ℕ) (text : List ℕ) : Type 0 where
  pub source : HeldSource
  pub at : slice_get held n ≡ Some source
  pub readable : source.is_read ≡ true
  pub is : text ≡ source.text.items

-- the line and the column of a position, as the checker counts them: from 1, and in characters
pub record IsSpotOf (encoding : Encoding) (text : List ℕ) (p : Position) (line column : ℕ) : Type 0 where
  pub offset : ℕ
  pub place : Position
  pub at : IsOffsetOf encoding text p offset
  pub is : IsPositionOf Utf32 text offset place
  pub line_is : line ≡ place.line + 1
  pub column_is : column ≡ place.column + 1

-- what the name at a position of source number n means
pub record IsNamedAt (encoding : Encoding) (held : List HeldSource) (c : Checked) (n : ℕ) (p : Position) (a : AtPlace) : Type 0 where
  pub text : List ℕ
  pub line : ℕ
  pub column : ℕ
  pub readable : IsReadText held n text
  pub spot : IsSpotOf encoding text p line column
  pub named : IsNameAt c n line column a

-- no name is at the position: the source can't be read, or the line is too far, or the checker finds none
pub data HasNothingAt (encoding : Encoding) (held : List HeldSource) (c : Checked) (n : ℕ) (p : Position) : Type 0 where
  unread : ((text : List ℕ) → ¬ (IsReadText held n text)) → HasNothingAt encoding held c n p
  far : {text : List ℕ} {line column : ℕ} → IsReadText held n text → IsSpotOf encoding text p line column → 4294967295 < line → HasNothingAt encoding held c n p
  unnamed : {text : List ℕ} {line column : ℕ} → IsReadText held n text → IsSpotOf encoding text p line column → HasNoName c n line column → HasNothingAt encoding held c n p

abbrev pub IsFoundAt : Encoding → List HeldSource → Checked → ℕ → Position → Option AtPlace → Type 0
IsFoundAt encoding held c n p None = HasNothingAt encoding held c n p
IsFoundAt encoding held c n p (Some a) = IsNamedAt encoding held c n p a
