-- Worked examples: what a server does with a message, the changes, files and folders that a message has, and the request that one cancels.
use Rattle.std.specs.Prelude.{◌≡◌, ℕ, List, [], ◌∷◌, false, true, None, Some, codes}
use Rattle.serde_json.specs.Data.{Data, Items, array, boolean, item, member, no_items, no_members, null, number, object, string, unsigned}
use Rattle.serde_json.specs.Find.{get}
use Rattle.hm_lsp_positions.specs.declared.changes.Change.{Change}
use Rattle.hm_lsp_session.specs.Cancelled.{IsOfId, IsSameId}
use Rattle.hm_lsp_session.specs.Folders.{IsOpening, folders_in, sources_in}
use Rattle.hm_lsp_session.specs.Params.{AreChangesIn, changed_files}
use Rattle.hm_lsp_positions.specs.declared.units.Encoding.TheVariants.{Utf16, Utf8}
use Rattle.hm_lsp_session.specs.Units.{HasText, IsAgreed, capabilities_data}
use Rattle.hm_lsp_session.specs.Watching.{IsWatching}
use Rattle.hm_lsp_session.specs.Stages.{method_named, notification_decision, question_named, request_decision}
use Rattle.hm_lsp_session.specs.declared.stages.Decision.TheVariants.{End, Go, Ignore, Refuse}
use Rattle.hm_lsp_session.specs.declared.stages.Method.TheVariants.{DidOpen, Exit, Initialize, Question}
use Rattle.hm_lsp_session.specs.declared.stages.Question.{Question as Asked}
use Rattle.hm_lsp_session.specs.declared.stages.Question.TheVariants.{CodeAction, Completion, Definition, DocumentHighlight, DocumentSymbol, Hover, References, Rename, WorkspaceSymbol}
use Rattle.hm_lsp_session.specs.declared.stages.Refusal.TheVariants.{InvalidRequest, NotInitialized}
use Rattle.hm_lsp_session.specs.declared.stages.Stage.TheVariants.{New, Ready, ShutDown}

pub record DecisionsRow : Type 0 where
  pub first : request_decision New Initialize ≡ Go
  pub early : request_decision New (Question Hover) ≡ Refuse NotInitialized
  pub twice : request_decision Ready Initialize ≡ Refuse InvalidRequest
  pub late : request_decision ShutDown (Question Hover) ≡ Refuse InvalidRequest
  pub early_text : notification_decision New DidOpen ≡ Ignore
  pub orderly : notification_decision ShutDown Exit ≡ End 0
  pub named : method_named (codes "textDocument/hover") ≡ Question Hover
  pub not_named : ¬ (method_named (codes "hover") ≡ Question Hover)
  pub not_orderly : ¬ (notification_decision Ready Exit ≡ End 0)

-- a change of the whole text
abbrev pub whole_text : Data
whole_text = object (member (codes "text") (string (codes "x")) no_members)

-- the change with this text, and no other one and no more
pub record ChangesRow : Type 0 where
  pub whole : (change : Change) → change.range ≡ None → change.text.items ≡ codes "x" → AreChangesIn (item whole_text no_items) (change ∷ [])
  pub not_other : (change : Change) → change.text.items ≡ codes "y" → ¬ (AreChangesIn (item whole_text no_items) (change ∷ []))
  pub not_missing : ¬ (AreChangesIn (item whole_text no_items) [])

-- a list of two files, of which the second has no URI
abbrev pub two_files : Data
two_files = object (member (codes "changes") (array (item (object (member (codes "uri") (string (codes "b")) no_members)) (item (object no_members) no_items))) no_members)

-- the file with a URI, and no others. Without a list there are none
pub record FilesRow : Type 0 where
  pub named : changed_files two_files ≡ Some (codes "b" ∷ [])
  pub not_listed : ¬ (changed_files (object no_members) ≡ Some [])

-- the message that cancels request 7
abbrev pub cancel : Data
cancel = object (member (codes "method") (string (codes "$/cancelRequest")) (member (codes "params") (object (member (codes "id") (number (unsigned 7)) no_members)) no_members))

-- it is of this request, and of no other. A text isn't a number
pub record CancelRow : Type 0 where
  pub own : IsOfId (number (unsigned 7)) cancel
  pub not_other : ¬ (IsOfId (number (unsigned 8)) cancel)
  pub not_text : ¬ (IsSameId (number (unsigned 7)) (string (codes "7")))

-- a folder in the list of a client, and another one as its root
abbrev pub two_folders : Data
two_folders = object (member (codes "rootUri") (string (codes "a")) (member (codes "workspaceFolders") (array (item (object (member (codes "uri") (string (codes "b")) no_members)) no_items)) no_members))

-- the parameters of an older client, which has a root alone
abbrev pub root_alone : Data
root_alone = object (member (codes "rootUri") (string (codes "a")) no_members)

-- the options of a client that lists a source, beside what is no name
abbrev pub one_source : Data
one_source = object (member (codes "initializationOptions") (object (member (codes "sources") (array (item (string (codes "c")) (item (number (unsigned 1)) no_items))) no_members)) no_members)

-- the first message of a client, without parameters
abbrev pub first_message : Data
first_message = object (member (codes "id") (number (unsigned 1)) (member (codes "method") (string (codes "initialize")) no_members))

-- the list of folders comes before the root. A client without options lists no sources. A message of another request opens no folder
pub record FoldersRow : Type 0 where
  pub listed : folders_in (Some two_folders) ≡ codes "b" ∷ []
  pub root : folders_in (Some root_alone) ≡ codes "a" ∷ []
  pub sources : sources_in (Some one_source) ≡ Some (codes "c" ∷ [])
  pub no_sources : sources_in (Some root_alone) ≡ None
  pub opens : IsOpening first_message (number (unsigned 1))
  pub not_root : ¬ (folders_in (Some two_folders) ≡ codes "a" ∷ [])
  pub not_cancel : ¬ (IsOpening cancel (number (unsigned 7)))

-- a client that offers units of UTF-16 and of UTF-8
abbrev pub two_units : Items
two_units = item (string (codes "utf-16")) (item (string (codes "utf-8")) no_items)

-- UTF-8 is among the offered units, wherever it is in the list. A client that offers none has those of UTF-16
pub record UnitsRow : Type 0 where
  pub offered : HasText (codes "utf-8") two_units
  pub not_offered : ¬ (HasText (codes "utf-32") two_units)
  pub each_has : IsAgreed null Utf16
  pub not_bytes : ¬ (IsAgreed null Utf8)

-- the server lists a capability, and the service replies to requests of this method
pub record IsProvided (list : Data) (capability method : List ℕ) (question : Asked) : Type 0 where
  pub provider : Data
  pub listed : get capability list ≡ Some provider
  pub served : question_named method ≡ Some question

-- each capability that stands for requests has them
pub record AreProvided (list : Data) : Type 0 where
  pub actions : IsProvided list (codes "codeActionProvider") (codes "textDocument/codeAction") CodeAction
  pub completions : IsProvided list (codes "completionProvider") (codes "textDocument/completion") Completion
  pub definitions : IsProvided list (codes "definitionProvider") (codes "textDocument/definition") Definition
  pub highlights : IsProvided list (codes "documentHighlightProvider") (codes "textDocument/documentHighlight") DocumentHighlight
  pub symbols : IsProvided list (codes "documentSymbolProvider") (codes "textDocument/documentSymbol") DocumentSymbol
  pub hovers : IsProvided list (codes "hoverProvider") (codes "textDocument/hover") Hover
  pub references : IsProvided list (codes "referencesProvider") (codes "textDocument/references") References
  pub renames : IsProvided list (codes "renameProvider") (codes "textDocument/rename") Rename
  pub of_all : IsProvided list (codes "workspaceSymbolProvider") (codes "workspace/symbol") WorkspaceSymbol

-- the capabilities that a server lists. Formatting isn't among them, and has no requests
pub record CapabilitiesRow : Type 0 where
  pub each : (units : List ℕ) (completions renames : Data) → AreProvided (capabilities_data units completions renames)
  pub not_listed : (units : List ℕ) (completions renames : Data) → get (codes "documentFormattingProvider") (capabilities_data units completions renames) ≡ None
  pub no_requests : question_named (codes "textDocument/formatting") ≡ None

-- a client that offers to watch files, and one that offers nothing
pub record WatchingRow : Type 0 where
  pub offered : IsWatching (object (member (codes "capabilities") (object (member (codes "workspace") (object (member (codes "didChangeWatchedFiles") (object (member (codes "dynamicRegistration") (boolean true) no_members)) no_members)) no_members)) no_members)) true
  pub not_offered : IsWatching null false
  pub not_without : ¬ (IsWatching null true)
