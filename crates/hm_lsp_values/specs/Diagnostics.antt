-- Diagnostics and actions (Language Server Protocol 3.17, "Diagnostic", "TextEdit", "Code Action Request").
use Rattle.std.specs.Prelude.{ℕ, List, [], ◌∷◌, ◌++◌, Option, None, Some, codes, map, option_map, string_bytes}
use Rattle.serde_json.specs.Data.{Data, array, item, member, no_items, no_members, number, object, string, unsigned}
use Rattle.serde_json.specs.View.{items_of}
use Rattle.hm_lsp_positions.specs.declared.units.Encoding.{Encoding}
use Rattle.hm_messages_json.specs.declared.message.Level.{Level}
use Rattle.hm_messages_json.specs.declared.message.Level.TheVariants.{Error, Note}
use Rattle.hm_service_messages.specs.declared.diagnostic.Diagnostic.{Diagnostic}
use Rattle.hm_service_messages.specs.declared.diagnostic.Edit.{Edit}
use Rattle.hm_lsp_values.specs.Places.{range_data}

-- an error is 1, and a note is information, which is 3
abbrev pub severity_of : Level → ℕ
severity_of Error = 1
severity_of Note = 3

-- a text, and a hint on a line of its own
abbrev pub text_with : List ℕ → Option (List ℕ) → List ℕ
text_with text None = text
text_with text (Some hint) = text ++ (codes "\n" ++ hint)

abbrev pub diagnostic_data : Encoding → Diagnostic → Data
diagnostic_data encoding d = object (member (codes "code") (string (string_bytes d.kind))
    (member (codes "message") (string (text_with (string_bytes d.text) (option_map string_bytes d.hint)))
    (member (codes "range") (range_data encoding d.start d.end)
    (member (codes "severity") (number (unsigned (severity_of d.level)))
    (member (codes "source") (string (codes "hmc")) no_members)))))

abbrev pub edit_data : Encoding → Edit → Data
edit_data encoding e = object (member (codes "newText") (string (string_bytes e.text)) (member (codes "range") (range_data encoding e.start e.end) no_members))

abbrev pub edits_data : Encoding → List Edit → Data
edits_data encoding es = array (items_of (map (edit_data encoding) es))

-- the title of an action that writes a text, in place of another one or between others
abbrev pub text_title : List ℕ → List ℕ
text_title [] = codes "remove this"
text_title text = codes "write '" ++ (text ++ codes "'")

-- the title of the action for a message with this text: what its edit writes, if it has one edit
abbrev pub title_of : List ℕ → List Edit → List ℕ
title_of text (e ∷ []) = text_title (string_bytes e.text)
title_of text edits = text

-- the action with this title that makes edits in the document with this URI, and solves a diagnostic
abbrev pub action_of : List ℕ → List ℕ → Data → Data → Data
action_of uri title solved edits = object (member (codes "diagnostics") (array (item solved no_items))
    (member (codes "edit") (object (member (codes "changes") (object (member uri edits no_members)) no_members))
    (member (codes "kind") (string (codes "quickfix"))
    (member (codes "title") (string title) no_members))))

-- all edits of a message, in the document with this URI. They solve the fault
abbrev pub action_data : Encoding → List ℕ → Diagnostic → Diagnostic → Data
action_data encoding uri fault d = action_of uri (title_of (string_bytes d.text) d.edits.items) (diagnostic_data encoding fault) (edits_data encoding d.edits.items)
