-- Worked examples.
use Rattle.std.specs.Prelude.{◌≡◌, [], ◌∷◌, true, false, Some, None, codes, option_map, string_bytes}
use Rattle.serde_json.specs.Data.{array, boolean, item, member, no_items, no_members, null, number, object, string, unsigned}
use Rattle.hm_lsp_positions.specs.declared.positions.Position.{Position}
use Rattle.hm_lsp_positions.specs.declared.units.Encoding.TheVariants.{Utf8, Utf16}
use Rattle.hm_messages_json.specs.declared.message.Level.TheVariants.{Error, Note}
use Rattle.hm_messages_json.specs.declared.message.Position.{Position as Place}
use Rattle.hm_lsp_values.specs.Completions.{completion_data, completion_kind, completions_data}
use Rattle.hm_lsp_values.specs.Diagnostics.{severity_of, text_with}
use Rattle.hm_lsp_values.specs.Names.{IsShown}
use Rattle.hm_lsp_values.specs.Places.{position_of_place}
use Rattle.hm_lsp_values.specs.References.{kind_of}
use Rattle.hm_lsp_values.specs.Renames.{IsReplacement, IsTargetValue, document_edit_data, replacement_data, target_data, workspace_edit_data}
use Rattle.hm_lsp_values.specs.Spans.{IsSpan, span_data}
use Rattle.hm_lsp_values.specs.Symbols.{symbol_data, symbol_kind}
use Rattle.hm_names.specs.Worked.{at}
use Rattle.hm_names.specs.declared.namespace.Namespace.TheVariants.{Constructors, Types, Values}
use Rattle.hm_scope_typed_names.specs.declared.typed.TypedName.{TypedName}
use Rattle.hm_uses_references.specs.declared.finding.Reference.{Reference}
use Rattle.hm_uses_symbols.specs.Symbols.{symbol}
use Rattle.hm_uses_symbols.specs.declared.symbol.SymbolKind.TheVariants.{Constructor, DataType, Variable}

-- a place in line 2, after a letter of two bytes
abbrev pub second_line : Place
second_line = record { line = 2; columns = record { bytes = 3; characters = 2; utf16 = 2 } }

pub record ValuesRow : Type 0 where
  pub pairs : position_of_place Utf16 second_line ≡ record { line = 1; column = 1 }
  pub bytes : position_of_place Utf8 second_line ≡ record { line = 1; column = 2 }
  pub not_alike : ¬ (severity_of Error ≡ severity_of Note)
  pub hinted : text_with (codes "no") (Some (codes "yes")) ≡ codes "no\nyes"
  pub alone : text_with (codes "no") None ≡ codes "no"

-- the line of the place is left out, and the others are kept
pub record HoverRow : Type 0 where
  pub shown : IsShown (codes "variable x\n  bound at 0:1:1\n  a -> a\n") (codes "variable x\n  a -> a\n")
  pub not_bound : ¬ (IsShown (codes "  bound at 0:1:1") (codes "  bound at 0:1:1"))

-- in `f = f` the second name is used, and not bound
pub record SpanRow : Type 0 where
  pub second : IsSpan Utf16 (codes "f = f") 1 5 1 (record { line = 0; column = 4 }) (record { line = 0; column = 5 })
  pub bound : (r : Reference) → r.binds ≡ true → kind_of r ≡ 3
  pub not_bound : (r : Reference) → r.binds ≡ false → ¬ (kind_of r ≡ 3)

-- the range of a symbol is there twice. Types and constructors are of different kinds
pub record SymbolsRow : Type 0 where
  pub whole : symbol_data (symbol Variable (at 18 (codes "f"))) null
      ≡ object (member (codes "kind") (number (unsigned 12)) (member (codes "name") (string (codes "f")) (member (codes "range") null (member (codes "selectionRange") null no_members))))
  pub not_alike : ¬ (symbol_kind DataType ≡ symbol_kind Constructor)

-- the second name in `f = f` gets the name `g`, and only that one. All edits of a document are in one value. A rename there is of `f`, and of nothing else
pub record RenamesRow : Type 0 where
  pub second : (r : Reference) → r.line ≡ 1 → r.column ≡ 5 → r.length ≡ 1 → IsReplacement Utf16 (codes "f = f") (codes "g") r (replacement_data (codes "g") (record { line = 0; column = 4 }) (record { line = 0; column = 5 }))
  pub not_other : ¬ (replacement_data (codes "g") (record { line = 0; column = 4 }) (record { line = 0; column = 5 }) ≡ replacement_data (codes "h") (record { line = 0; column = 4 }) (record { line = 0; column = 5 }))
  pub whole : workspace_edit_data (document_edit_data (codes "u") (null ∷ []) ∷ [])
      ≡ object (member (codes "documentChanges") (array (item (object (member (codes "edits") (array (item null no_items))
      (member (codes "textDocument") (object (member (codes "uri") (string (codes "u")) (member (codes "version") null no_members))) no_members))) no_items)) no_members)
  pub target : (r : Reference) → r.line ≡ 1 → r.column ≡ 5 → r.length ≡ 1 → IsTargetValue Utf16 (codes "f = f") (codes "f") r (target_data (codes "f") (record { line = 0; column = 4 }) (record { line = 0; column = 5 }))
  pub not_target : (r : Reference) → ¬ (IsTargetValue Utf16 (codes "f = f") (codes "f") r null)

-- the start of a text, and the place after its first unit
abbrev pub start : Position
start = record { line = 0; column = 0 }

abbrev pub second : Position
second = record { line = 0; column = 1 }

-- a type `T` in place of one letter, and a variable, which has a type. Constructors are of another kind. A list without names isn't null
pub record CompletionsRow : Type 0 where
  pub of_type : (n : TypedName) → n.space ≡ Types → string_bytes n.text ≡ codes "T" → option_map string_bytes n.scheme ≡ None
      → completion_data start second n ≡ object (member (codes "kind") (number (unsigned 22)) (member (codes "label") (string (codes "T"))
      (member (codes "textEdit") (object (member (codes "newText") (string (codes "T")) (member (codes "range") (span_data start second) no_members))) no_members)))
  pub of_variable : (n : TypedName) → n.space ≡ Values → string_bytes n.text ≡ codes "A.f" → option_map string_bytes n.scheme ≡ Some (codes "Int")
      → completion_data start second n ≡ object (member (codes "detail") (string (codes "Int")) (member (codes "kind") (number (unsigned 3)) (member (codes "label") (string (codes "A.f"))
      (member (codes "textEdit") (object (member (codes "newText") (string (codes "A.f")) (member (codes "range") (span_data start second) no_members))) no_members))))
  pub not_alike : ¬ (completion_kind Values ≡ completion_kind Constructors)
  pub no_names : completions_data start second [] ≡ object (member (codes "isIncomplete") (boolean false) (member (codes "items") (array no_items) no_members))
