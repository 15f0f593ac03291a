-- A server, and what is always so of it.
use Rattle.std.specs.Prelude.{◌≡◌, ◌++◌, ℕ, Bool, true, IfSome, List, Option, codes, map, option_map, string_bytes}
use Rattle.hm_lsp_session.specs.Documents.{listed}
use Rattle.hm_lsp_session.specs.Effects.{documents_of}
use Rattle.hm_lsp_session.specs.declared.documents.Document.{Document}
use Rattle.hm_lsp_session.specs.declared.session.Session.{Session}
use Rattle.hm_lsp_sources.specs.Following.{AreFollowing, files_in, names_in, uris_in}
use Rattle.hm_lsp_sources.specs.Held.{held_in, named_in}
use Rattle.hm_service.specs.Checks.{IsHeldCheck}
use Rattle.hm_service_places.specs.declared.checked.Checked.{Checked}
use Rattle.hm_service_sources.specs.declared.held.HeldSource.{HeldSource}
use Rattle.hm_lsp_server.specs.Second.{workers}
use Rattle.hm_lsp_server.specs.declared.server.Server.{Server}
use Rattle.hm_lsp_server.specs.declared.server.SourceFile.{SourceFile}
use Rattle.hm_lsp_sources.specs.declared.source.Source.{Source}

abbrev pub session_of : Server → Session
session_of s = s.session

-- the sources, in the order of their numbers
abbrev pub sources_of : Server → List Source
sources_of s = named_in s.sources

-- their texts
abbrev pub held_of : Server → List HeldSource
held_of s = held_in s.sources

-- the URI under which the client shows diagnostics of each source, if it shows some
abbrev pub shown_of : Server → List (Option (List ℕ))
shown_of s = map (option_map string_bytes) s.shown.items

-- the last good text of each source, if it had one: the last one of which all modules were good when diagnostics were sent
abbrev pub good_of : Server → List (Option (List ℕ))
good_of s = map (option_map (λ t. t.items)) s.good.items

-- the last check, if the texts are still those of before
abbrev pub checked_of : Server → Option Checked
checked_of s = s.checked

-- whether the texts have changed since the diagnostics were sent
abbrev pub is_changed : Server → Bool
is_changed s = s.is_changed

-- a check is always one of the texts that are held now
abbrev pub IsCurrent : Server → Type 0
IsCurrent s = IfSome (checked_of s) (IsHeldCheck workers (held_of s))

-- the documents of the client
abbrev pub documents_in : Server → List Document
documents_in s = listed (documents_of (session_of s))

-- the sources follow these documents: each has the text of the last open document of its name, or else that of its file
abbrev pub IsFollowing : List Document → Server → Type 0
IsFollowing documents s = AreFollowing documents (sources_of s) (held_of s)

-- the sources are those of these files
pub record HasFiles (files : List SourceFile) (sources : List Source) : Type 0 where
  pub names : names_in sources ≡ map (λ f. codes "file://" ++ string_bytes f.path) files
  pub texts : files_in sources ≡ map (λ f. f.text.items) files

-- if a text or a URI is another or a source was added, this is noted until the diagnostics are sent
pub data IsNoted (before after : Server) : Type 0 where
  changed : is_changed after ≡ true → IsNoted before after
  as_before : is_changed after ≡ is_changed before → sources_of after ≡ sources_of before → held_of after ≡ held_of before → IsNoted before after

-- the same after a file is read. The texts of files that aren't shown may be others
pub data IsFileNoted (before after : Server) : Type 0 where
  changed : is_changed after ≡ true → IsFileNoted before after
  as_before : is_changed after ≡ is_changed before → names_in (sources_of after) ≡ names_in (sources_of before) → uris_in (sources_of after) ≡ uris_in (sources_of before) → held_of after ≡ held_of before → IsFileNoted before after

-- the sources follow the client's documents, and a check is one of the texts that are held
pub record IsOrderly (s : Server) : Type 0 where
  pub current : IsCurrent s
  pub follows : IsFollowing (documents_in s) s
