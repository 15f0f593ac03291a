-- The steps by which sources follow documents. No public clause names these.
use Rattle.std.specs.Prelude.{◌≡◌, ◌≢◌, ◌<◌, ◌≤◌, ◌++◌, ℕ, Bool, false, List, [], ◌∷◌, None, Option, Some, get_or, length, set, string_bytes}
use Rattle.percent_encoding.specs.Percent.{percent_decode}
use Rattle.hm_lsp_session.specs.declared.documents.Document.{Document}
use Rattle.hm_lsp_sources.specs.Files.{IsFileIn}
use Rattle.hm_lsp_sources.specs.Following.{AreKept, IsFollowing, IsFollowingIn, files_in, names_in, uris_in}
use Rattle.hm_lsp_sources.specs.Held.{held_in, named_in}
use Rattle.hm_lsp_sources.specs.declared.following.Sources.{Sources}
use Rattle.hm_lsp_sources.specs.declared.source.Source.{Source}
use Rattle.hm_service_sources.specs.declared.held.HeldSource.{HeldSource}

-- there are as many texts as sources, and each source has the name of its URI
pub record AreNamed (sources : List Source) (held : List HeldSource) : Type 0 where
  pub as_many : length held ≡ length sources
  pub each : (n : ℕ) (s : Source) → n < length sources → (get_or sources n s).name.items ≡ percent_decode (string_bytes (get_or sources n s).uri)

-- nothing has changed
pub record IsAsBefore (before after : Sources) : Type 0 where
  pub named : named_in after ≡ named_in before
  pub held : held_in after ≡ held_in before

-- a source with this URI and this file is added, and has the text of the file
pub record IsPushed (uri file : List ℕ) (before after : Sources) : Type 0 where
  pub s : Source
  pub h : HeldSource
  pub named : named_in after ≡ named_in before ++ s ∷ []
  pub held : held_in after ≡ held_in before ++ h ∷ []
  pub uri_is : string_bytes s.uri ≡ uri
  pub name_is : s.name.items ≡ percent_decode uri
  pub file_is : s.file.items ≡ file
  pub text_is : h.text.items ≡ file

-- sources were added or none, and then this is so
pub record IsGrown (P : Type 0) (is_added : Bool) (before after : Sources) : Type 0 where
  pub holds : P
  pub kept : AreKept (named_in before) (named_in after)
  pub named : AreNamed (named_in before) (held_in before) → AreNamed (named_in after) (held_in after)
  pub same : is_added ≡ false → IsAsBefore before after

-- the source is called like the document, or has the name of its own URI if there is none
abbrev pub IsNameOf : Option Document → Source → Type 0
IsNameOf None s = s.name.items ≡ percent_decode (string_bytes s.uri)
IsNameOf (Some d) s = s.name.items ≡ percent_decode (string_bytes d.uri)

-- the source with number n follows the document, and the others are as before
pub record IsFollowedAt (document : Option Document) (n : ℕ) (is_other : Bool) (before after : Sources) : Type 0 where
  pub names : names_in (named_in after) ≡ names_in (named_in before)
  pub files : files_in (named_in after) ≡ files_in (named_in before)
  pub as_many : length (held_in after) ≡ length (held_in before)
  pub own : n < length (named_in before) → n < length (held_in before) → (s : Source) (h : HeldSource) → IsNameOf document (get_or (named_in before) n s)
      → IsFollowing document (get_or (named_in after) n s) (get_or (held_in after) n h)
  pub other_named : (k : ℕ) (s : Source) → k ≢ n → get_or (named_in after) k s ≡ get_or (named_in before) k s
  pub other_held : (k : ℕ) (h : HeldSource) → k ≢ n → get_or (held_in after) k h ≡ get_or (held_in before) k h
  pub same : is_other ≡ false → IsAsBefore before after

-- the first n sources follow the documents, and the others are as before
pub record IsFollowedBelow (documents : List Document) (n : ℕ) (is_other : Bool) (before after : Sources) : Type 0 where
  pub names : names_in (named_in after) ≡ names_in (named_in before)
  pub files : files_in (named_in after) ≡ files_in (named_in before)
  pub as_many : length (held_in after) ≡ length (held_in before)
  pub below : AreNamed (named_in before) (held_in before) → (k : ℕ) (s : Source) (h : HeldSource) → k < n → k < length (named_in before)
      → IsFollowingIn documents (get_or (named_in after) k s) (get_or (held_in after) k h)
  pub above_named : (k : ℕ) (s : Source) → n ≤ k → get_or (named_in after) k s ≡ get_or (named_in before) k s
  pub above_held : (k : ℕ) (h : HeldSource) → n ≤ k → get_or (held_in after) k h ≡ get_or (held_in before) k h
  pub same : is_other ≡ false → IsAsBefore before after

-- the source with number n has this file, and nothing else has changed
pub record IsFileSet (n : ℕ) (file : List ℕ) (before after : Sources) : Type 0 where
  pub s : Source
  pub t : Source
  pub at : s ≡ get_or (named_in before) n s
  pub named : named_in after ≡ set (named_in before) n t
  pub held : held_in after ≡ held_in before
  pub name_is : t.name ≡ s.name
  pub uri_is : t.uri ≡ s.uri
  pub file_is : t.file.items ≡ file

-- a file is read, before the sources follow documents
pub record IsFilePlaced (name : List ℕ) (file : Option (List ℕ)) (is_added : Bool) (before after : Sources) : Type 0 where
  pub is : IsFileIn name file (named_in before) (named_in after)
  pub named : AreNamed (named_in before) (held_in before) → AreNamed (named_in after) (held_in after)
  pub held : is_added ≡ false → held_in after ≡ held_in before
  pub uris : is_added ≡ false → uris_in (named_in after) ≡ uris_in (named_in before)
  pub names : is_added ≡ false → names_in (named_in after) ≡ names_in (named_in before)
