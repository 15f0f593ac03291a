-- Where names are written (Language Server Protocol 3.17, "Find References Request", "Document Highlights Request").
use Rattle.std.specs.Prelude.{◌≡◌, ℕ, List, codes, if◌then◌else◌}
use Rattle.serde_json.specs.Data.{Data, member, no_members, number, object, string, unsigned}
use Rattle.hm_lsp_positions.specs.declared.positions.Position.{Position}
use Rattle.hm_lsp_positions.specs.declared.units.Encoding.{Encoding}
use Rattle.hm_lsp_values.specs.Spans.{IsSpan, span_data}
use Rattle.hm_uses_references.specs.declared.finding.Reference.{Reference}

-- a name in a document
pub record IsReference (encoding : Encoding) (uri text : List ℕ) (r : Reference) (value : Data) : Type 0 where
  pub start : Position
  pub end : Position
  pub span : IsSpan encoding text r.line r.column r.length start end
  pub whole : value ≡ object (member (codes "range") (span_data start end) (member (codes "uri") (string uri) no_members))

-- 3 is a place where something is written, and 2 one where it is read
abbrev pub kind_of : Reference → ℕ
kind_of r = if r.binds then 3 else 2

-- a name in the document that the request is about
pub record IsHighlight (encoding : Encoding) (text : List ℕ) (r : Reference) (value : Data) : Type 0 where
  pub start : Position
  pub end : Position
  pub span : IsSpan encoding text r.line r.column r.length start end
  pub whole : value ≡ object (member (codes "kind") (number (unsigned (kind_of r))) (member (codes "range") (span_data start end) no_members))
