-- The documents that a client has open, with their texts (Language Server Protocol 3.17, "Text Document Synchronization").
use Rattle.std.specs.Prelude.{◌≡◌, ◌≢◌, ◌<◌, ℕ, Bool, false, not, true, get_or, length, take, List, [], ◌∷◌, Option, None, Some, option_map, string_bytes, if◌then◌else◌}
use Rattle.std.specs.List.{list_all}
use Rattle.std.specs.Str.{bytes_eq}
use Rattle.hm_lsp_session.specs.declared.documents.Document.{Document}
use Rattle.hm_lsp_session.specs.declared.documents.Documents.{Documents}

-- the documents, in the order in which the client opened them first
abbrev pub listed : Documents → List Document
listed documents = documents.items.items

-- the text that the client holds under a URI, if the document is open
abbrev pub text_in : List Document → List ℕ → Option (List ℕ)
text_in [] uri = None
text_in (d ∷ ds) uri = if bytes_eq (string_bytes d.uri) uri then option_map (λ text. text.items) d.text else text_in ds uri

abbrev pub held_text : Documents → List ℕ → Option (List ℕ)
held_text documents uri = text_in (listed documents) uri

-- the document has this text now, and all others have those of before
pub record IsHeldNow (before after : Documents) (uri : List ℕ) (text : Option (List ℕ)) : Type 0 where
  pub now : held_text after uri ≡ text
  pub others : (other : List ℕ) → other ≢ uri → held_text after other ≡ held_text before other

-- the document has another URI
abbrev pub is_other : List ℕ → Document → Bool
is_other uri d = not (bytes_eq (string_bytes d.uri) uri)

-- the number of the first document with this URI
abbrev pub IsNumberOf : List Document → List ℕ → Option ℕ → Type 0
IsNumberOf ds uri None = list_all (is_other uri) ds ≡ true
IsNumberOf ds uri (Some i) = (i < length ds) × (list_all (is_other uri) (take i ds) ≡ true) × ((d : Document) → is_other uri (get_or ds i d) ≡ false)

-- all documents have the texts of before
abbrev pub SameTexts : Documents → Documents → Type 0
SameTexts before after = (uri : List ℕ) → held_text after uri ≡ held_text before uri
