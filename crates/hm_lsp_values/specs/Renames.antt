-- The edits of a rename, and the name that it is of (Language Server Protocol 3.17, "Rename Request", "Prepare Rename Request", "TextEdit", "TextDocumentEdit", "WorkspaceEdit").
use Rattle.std.specs.Prelude.{◌≡◌, List, ℕ, codes}
use Rattle.serde_json.specs.Data.{Data, array, member, no_members, null, object, string}
use Rattle.serde_json.specs.View.{items_of}
use Rattle.hm_lsp_positions.specs.declared.positions.Position.{Position}
use Rattle.hm_lsp_positions.specs.declared.units.Encoding.{Encoding}
use Rattle.hm_lsp_values.specs.Spans.{IsSpan, span_data}
use Rattle.hm_uses_references.specs.declared.finding.Reference.{Reference}

abbrev pub replacement_data : List ℕ → Position → Position → Data
replacement_data new start end = object (member (codes "newText") (string new) (member (codes "range") (span_data start end) no_members))

-- the new name in place of a name that is written in a text
pub record IsReplacement (encoding : Encoding) (text new : List ℕ) (r : Reference) (value : Data) : Type 0 where
  pub start : Position
  pub end : Position
  pub span : IsSpan encoding text r.line r.column r.length start end
  pub whole : value ≡ replacement_data new start end

-- the edits of the document with this URI, in whatever version it is
abbrev pub document_edit_data : List ℕ → List Data → Data
document_edit_data uri edits = object (member (codes "edits") (array (items_of edits))
    (member (codes "textDocument") (object (member (codes "uri") (string uri) (member (codes "version") null no_members))) no_members))

-- the edits of documents
abbrev pub workspace_edit_data : List Data → Data
workspace_edit_data documents = object (member (codes "documentChanges") (array (items_of documents)) no_members)

abbrev pub target_data : List ℕ → Position → Position → Data
target_data name start end = object (member (codes "placeholder") (string name) (member (codes "range") (span_data start end) no_members))

-- a name, with where it is written in a text
pub record IsTargetValue (encoding : Encoding) (text name : List ℕ) (r : Reference) (value : Data) : Type 0 where
  pub start : Position
  pub end : Position
  pub span : IsSpan encoding text r.line r.column r.length start end
  pub whole : value ≡ target_data name start end
