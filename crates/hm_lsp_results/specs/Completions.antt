-- The names that may be written at a place of a document (Language Server Protocol 3.17, "Completion Request").
use Rattle.std.specs.Prelude.{◌≡◌, ◌<◌, ◌≤◌, ◌+◌, ◌-◌, ◌==◌, ◌||◌, ℕ, Bool, true, false, List, Some, length, slice_get, slice_index, slice_range}
use Rattle.serde_json.specs.Data.{Data, null}
use Rattle.hm_lex.specs.Bytes.{is_name_byte}
use Rattle.hm_lsp_positions.specs.Positions.{IsOffsetOf, IsPositionOf}
use Rattle.hm_lsp_positions.specs.declared.positions.Position.{Position}
use Rattle.hm_lsp_results.specs.Asked.{Subject}
use Rattle.hm_lsp_values.specs.Completions.{completions_data}
use Rattle.hm_scope_typed_names.specs.declared.typed.TypedName.{TypedName}
use Rattle.hm_service_completions.specs.Completions.{AreCompletionsOf}
use Rattle.hm_service_sources.specs.declared.held.HeldSource.{HeldSource}

-- a letter, a digit, `_`, `'`, or the dot after a qualifier (Haskell 98 Report, section 2.4)
abbrev pub is_of_name : ℕ → Bool
is_of_name b = is_name_byte b || (b == 46)

-- what is written of a name before a place of a text: all bytes from the start to the place are of a name, and the one before the start isn't
pub record IsNameStart (text : List ℕ) (offset start : ℕ) : Type 0 where
  pub ordered : start ≤ offset
  pub named : (i : ℕ) → start ≤ i → i < offset → is_of_name (slice_index text i) ≡ true
  pub longest : 0 < start → is_of_name (slice_index text (start - 1)) ≡ false

-- a position of a text, and what is written of a name before it
pub record IsBegunAt (asked : Subject) (text : List ℕ) (p first last : Position) (prefix : List ℕ) : Type 0 where
  pub start : ℕ
  pub offset : ℕ
  pub at : IsOffsetOf asked.encoding text p offset
  pub begun : IsNameStart text offset start
  pub starts : IsPositionOf asked.encoding text start first
  pub ends : IsPositionOf asked.encoding text offset last
  pub prefix_is : prefix ≡ slice_range text start offset

-- the names of the module at the line of the position that begin with what is written there, with their types. Each has the edit that writes it there
pub record AreCompletionsIn (asked : Subject) (n : ℕ) (text : List ℕ) (p : Position) (value : Data) : Type 0 where
  pub first : Position
  pub last : Position
  pub prefix : List ℕ
  pub names : List TypedName
  pub begun : IsBegunAt asked text p first last prefix
  pub are : AreCompletionsOf asked.checked n (last.line + 1) prefix names
  pub whole : value ≡ completions_data first last names

-- the same for the text of source number n as it is now, whether it can be read or not, or null if the source isn't held
pub data IsCompletionsResult (asked : Subject) (n : ℕ) (p : Position) (value : Data) : Type 0 where
  held : {source : HeldSource} → slice_get asked.held n ≡ Some source → AreCompletionsIn asked n source.text.items p value → IsCompletionsResult asked n p value
  not_held : length asked.held ≤ n → value ≡ null → IsCompletionsResult asked n p value
