-- The texts of sources: those of the client's documents, and of files (Language Server Protocol 3.17, "Text Document Synchronization": while a document is open, its text is the client's).
use Rattle.std.specs.Prelude.{◌≡◌, ◌<◌, ◌&&◌, ◌++◌, ℕ, Bool, true, List, [], ◌∷◌, All, Contains, IfSome, Option, None, Some, get_or, is_some, length, map, string_bytes, if◌then◌else◌}
use Rattle.std.specs.Str.{bytes_eq}
use Rattle.percent_encoding.specs.Percent.{percent_decode}
use Rattle.hm_lsp_session.specs.declared.documents.Document.{Document}
use Rattle.hm_lsp_sources.specs.declared.source.Source.{Source}
use Rattle.hm_service_sources.specs.declared.held.HeldSource.{HeldSource}

-- the document is open, and its name is this
abbrev pub is_open_as : List ℕ → Document → Bool
is_open_as name d = is_some d.text && bytes_eq (percent_decode (string_bytes d.uri)) name

-- the first of two, or else the second
abbrev pub or_else : Option Document → Option Document → Option Document
or_else None second = second
or_else (Some d) second = Some d

-- the last open document of this name
abbrev pub last_open : List Document → List ℕ → Option Document
last_open [] name = None
last_open (d ∷ ds) name = or_else (last_open ds name) (if is_open_as name d then Some d else None)

-- the text of a source with this file, by its last open document
abbrev pub HasText : List ℕ → Option Document → List ℕ → Type 0
HasText file None text = text ≡ file
HasText file (Some d) text = IfSome d.text (λ t. text ≡ t.items)

-- the source has the text of this document and its URI, or else the text of its file
pub record IsFollowing (document : Option Document) (s : Source) (h : HeldSource) : Type 0 where
  pub named : s.name.items ≡ percent_decode (string_bytes s.uri)
  pub text : HasText s.file.items document h.text.items
  pub uri : IfSome document (λ d. string_bytes s.uri ≡ string_bytes d.uri)

-- the source follows the last open document of its name
abbrev pub IsFollowingIn : List Document → Source → HeldSource → Type 0
IsFollowingIn documents s h = IsFollowing (last_open documents s.name.items) s h

abbrev pub names_in : List Source → List (List ℕ)
names_in sources = map (λ s. s.name.items) sources

abbrev pub uris_in : List Source → List (List ℕ)
uris_in sources = map (λ s. string_bytes s.uri) sources

abbrev pub files_in : List Source → List (List ℕ)
files_in sources = map (λ s. s.file.items) sources

-- an open document is that of a source
abbrev pub HasSource : List Source → Document → Type 0
HasSource sources d = is_some d.text ≡ true → Contains (names_in sources) (percent_decode (string_bytes d.uri))

-- the sources follow the documents: each has the text that the client has given it, or else that of its file, and each open document is one
pub record AreFollowing (documents : List Document) (sources : List Source) (held : List HeldSource) : Type 0 where
  pub as_many : length held ≡ length sources
  pub each : (n : ℕ) (s : Source) (h : HeldSource) → n < length sources → IsFollowingIn documents (get_or sources n s) (get_or held n h)
  pub known : All (HasSource sources) documents

-- sources stay with their names and files, in their order. One that is added has no file
pub record AreKept (before after : List Source) : Type 0 where
  pub added : List (List ℕ)
  pub names : names_in after ≡ names_in before ++ added
  pub files : files_in after ≡ files_in before ++ map (λ name. []) added
