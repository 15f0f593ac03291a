-- The lines of diagnostics: the JSON objects that a run prints for them.
use Rattle.std.specs.Prelude.{◌≡◌, ℕ, Bool, List, [], ◌∷◌, ◌++◌, map, option_map, string_bytes}
use Rattle.std.specs.Fmt.{decimal}
use Rattle.hm_messages_json.specs.Objects.{counts_text, message_text}
use Rattle.hm_messages_json.specs.declared.message.Edit.{Edit as LentEdit}
use Rattle.hm_messages_json.specs.declared.message.Message.{Message}
use Rattle.hm_messages_json.specs.declared.message.Position.{Position}
use Rattle.hm_service_messages.specs.declared.diagnostic.Diagnostic.{Diagnostic}
use Rattle.hm_service_messages.specs.declared.diagnostic.Edit.{Edit}
use Rattle.hm_service_messages.specs.declared.diagnostic.Told.{Told}

-- the values of an edit
pub record Change : Type 0 where
  pub start : Position
  pub end : Position
  pub text : List ℕ
  pub checked : Bool

abbrev pub edit_of : Edit → Change
edit_of e = record { start = e.start; end = e.end; text = string_bytes e.text; checked = e.is_checked }

abbrev pub lent_of : LentEdit → Change
lent_of e = record { start = e.start; end = e.end; text = e.text.now; checked = e.is_checked }

-- the message has the values of the diagnostic, and its file is named by the number of the source
pub record IsMessageOf (d : Diagnostic) (m : Message) : Type 0 where
  pub file : m.file.now ≡ decimal d.source
  pub start : m.start ≡ d.start
  pub end : m.end ≡ d.end
  pub level : m.level ≡ d.level
  pub kind : m.kind.now ≡ string_bytes d.kind
  pub text : m.text.now ≡ string_bytes d.text
  pub hint : option_map (λ t. t.now) m.hint ≡ option_map string_bytes d.hint
  pub owner : option_map (λ t. t.now) m.«module» ≡ option_map string_bytes d.«module»
  pub name : option_map (λ t. t.now) m.name ≡ option_map string_bytes d.name
  pub other_place : m.other ≡ d.other
  pub expected : option_map (λ t. t.now) m.expected ≡ option_map string_bytes d.expected
  pub actual : option_map (λ t. t.now) m.actual ≡ option_map string_bytes d.actual
  pub part_is : m.part ≡ d.part
  pub second_is : m.second ≡ d.second
  pub edits : map lent_of m.edits.now ≡ map edit_of d.edits.items

-- the line of the diagnostic's message
abbrev pub IsLineOf : Diagnostic → List ℕ → Type 0
IsLineOf d line = (m : Message) × (IsMessageOf d m × (line ≡ message_text m))

-- a line for each diagnostic, in order
abbrev pub AreLines : List Diagnostic → List ℕ → Type 0
AreLines [] text = text ≡ []
AreLines (d ∷ ds) text = (first : List ℕ) × ((later : List ℕ) × (IsLineOf d first × (AreLines ds later × (text ≡ first ++ later))))

-- the messages of a run: the lines of its diagnostics, and then that of the counts
pub record AreTold (told : Told) (messages : List ℕ) : Type 0 where
  pub lines : List ℕ
  pub are : AreLines told.diagnostics.items lines
  pub whole : messages ≡ lines ++ counts_text told.errors told.skipped
