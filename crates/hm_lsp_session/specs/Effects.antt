-- What a notification does to the texts of documents (Language Server Protocol 3.17, "Text Document Synchronization").
use Rattle.std.specs.Prelude.{◌≡◌, ◌⊎◌, ℕ, List, None, Some, codes}
use Rattle.std.specs.Str.{IsUtf8}
use Rattle.serde_json.specs.Data.{Data}
use Rattle.serde_json.specs.Find.{get}
use Rattle.serde_json.specs.Read.{read}
use Rattle.hm_lsp_positions.specs.Changes.{AreApplied, HasReversed}
use Rattle.hm_lsp_positions.specs.declared.changes.Change.{Change}
use Rattle.hm_lsp_positions.specs.declared.units.Encoding.{Encoding}
use Rattle.hm_lsp_session.specs.Documents.{IsHeldNow, held_text}
use Rattle.hm_lsp_session.specs.Params.{AreListedIn, changed_files, string_at}
use Rattle.hm_lsp_session.specs.Replies.{method_of}
use Rattle.hm_lsp_session.specs.Stages.{method_named}
use Rattle.hm_lsp_session.specs.declared.documents.Documents.{Documents}
use Rattle.hm_lsp_session.specs.declared.session.Outcome.{Outcome}
use Rattle.hm_lsp_session.specs.declared.session.Outcome.TheVariants.{Ask, Begun, Changed, Ended, Files, Nothing, Reply}
use Rattle.hm_lsp_session.specs.declared.session.Session.{Session}
use Rattle.hm_lsp_session.specs.declared.stages.Method.{Method}
use Rattle.hm_lsp_session.specs.declared.stages.Method.TheVariants.{DidChange, DidChangeWatchedFiles, DidClose, DidOpen, Exit, Initialize, Initialized, Question, Shutdown, Unknown}
use Rattle.hm_lsp_session.specs.declared.stages.Stage.{Stage}
use Rattle.hm_lsp_session.specs.declared.stages.Stage.TheVariants.{Ready}

abbrev pub documents_of : Session → Documents
documents_of s = s.documents

abbrev pub encoding_of : Session → Encoding
encoding_of s = s.encoding

-- `didOpen`: the document has the text of the message
pub record IsOpened (params : Data) (before after : Documents) : Type 0 where
  pub uri : List ℕ
  pub text : List ℕ
  pub named : string_at (codes "/textDocument/uri") params ≡ Some uri
  pub given : string_at (codes "/textDocument/text") params ≡ Some text
  pub held : IsHeldNow before after uri (Some text)

-- a document was open, and its text is that of before after these changes
pub record IsAppliedTo (encoding : Encoding) (uri : List ℕ) (changes : List Change) (before after : Documents) : Type 0 where
  pub old : List ℕ
  pub new : List ℕ
  pub was : held_text before uri ≡ Some old
  pub applied : AreApplied encoding old changes new
  pub held : IsHeldNow before after uri (Some new)

-- `didChange`: the text of the document is that after the changes of the message
pub record IsChanged (encoding : Encoding) (params : Data) (before after : Documents) : Type 0 where
  pub uri : List ℕ
  pub changes : List Change
  pub named : string_at (codes "/textDocument/uri") params ≡ Some uri
  pub listed : AreListedIn params changes
  pub applied : IsAppliedTo encoding uri changes before after

-- `didClose`: the document has no text
pub record IsClosed (params : Data) (before after : Documents) : Type 0 where
  pub uri : List ℕ
  pub named : string_at (codes "/textDocument/uri") params ≡ Some uri
  pub held : IsHeldNow before after uri None

-- what a notification with these parameters does
abbrev pub HasEffect : Method → Data → Encoding → Documents → Documents → Type 0
HasEffect DidOpen params encoding before after = IsOpened params before after
HasEffect DidChange params encoding before after = IsChanged encoding params before after
HasEffect DidClose params encoding before after = IsClosed params before after
HasEffect DidChangeWatchedFiles params encoding before after = ⊥
HasEffect Initialize params encoding before after = ⊥
HasEffect Initialized params encoding before after = ⊥
HasEffect Shutdown params encoding before after = ⊥
HasEffect Exit params encoding before after = ⊥
HasEffect (Question q) params encoding before after = ⊥
HasEffect Unknown params encoding before after = ⊥

-- what a notification with this method does
pub record HasParamsEffect (method : Method) (message : Data) (encoding : Encoding) (before after : Documents) : Type 0 where
  pub params : Data
  pub given : get (codes "params") message ≡ Some params
  pub effect : HasEffect method params encoding before after

-- what a message without an identifier does
pub record HasMessageEffect (message : Data) (encoding : Encoding) (before after : Documents) : Type 0 where
  pub name : List ℕ
  pub named : method_of message ≡ Some name
  pub notified : get (codes "id") message ≡ None
  pub effect : HasParamsEffect (method_named name) message encoding before after

-- what the body of a frame does
pub record HasBodyEffect (body : List ℕ) (encoding : Encoding) (before after : Documents) : Type 0 where
  pub message : Data
  pub is_read : read body ≡ Some message
  pub effect : HasMessageEffect message encoding before after

-- the documents change only if the outcome says so, and then like this
abbrev pub TextsAre : Outcome → Type 0 → Documents → Documents → Type 0
TextsAre (Reply reply) effect before after = after ≡ before
TextsAre (Ask question asked) effect before after = after ≡ before
TextsAre Changed effect before after = effect
TextsAre Begun effect before after = after ≡ before
TextsAre (Files uris) effect before after = after ≡ before
TextsAre Nothing effect before after = after ≡ before
TextsAre (Ended status) effect before after = after ≡ before

-- Why a notification has no effect

-- `didOpen` without a URI or a text
abbrev pub HasNoText : Data → Type 0
HasNoText params = (string_at (codes "/textDocument/uri") params ≡ None) ⊎ (string_at (codes "/textDocument/text") params ≡ None)

-- `didChange` without a URI or a list of changes, of a document that isn't open, or with a range that ends before it starts
pub data HasNoChange (encoding : Encoding) (params : Data) (before : Documents) : Type 0 where
  unnamed : string_at (codes "/textDocument/uri") params ≡ None → HasNoChange encoding params before
  unlisted : ((changes : List Change) → ¬ (AreListedIn params changes)) → HasNoChange encoding params before
  closed : {uri : List ℕ} → string_at (codes "/textDocument/uri") params ≡ Some uri → held_text before uri ≡ None → HasNoChange encoding params before
  reversed : {uri text : List ℕ} {changes : List Change} → string_at (codes "/textDocument/uri") params ≡ Some uri → held_text before uri ≡ Some text → AreListedIn params changes → HasReversed encoding text changes
      → HasNoChange encoding params before

-- the document isn't open, or a range ends before it starts
abbrev pub IsNotApplied : Encoding → List ℕ → List Change → Documents → Type 0
IsNotApplied encoding uri changes before = (held_text before uri ≡ None) ⊎ ((text : List ℕ) × ((held_text before uri ≡ Some text) × HasReversed encoding text changes))

-- `didClose` without a URI, or of a document that isn't open
abbrev pub HasNoDocument : Data → Documents → Type 0
HasNoDocument params before = (string_at (codes "/textDocument/uri") params ≡ None) ⊎ ((uri : List ℕ) × ((string_at (codes "/textDocument/uri") params ≡ Some uri) × (held_text before uri ≡ None)))

abbrev pub IsIgnored : Method → Data → Encoding → Documents → Type 0
IsIgnored DidOpen params encoding before = HasNoText params
IsIgnored DidChange params encoding before = HasNoChange encoding params before
IsIgnored DidClose params encoding before = HasNoDocument params before
IsIgnored DidChangeWatchedFiles params encoding before = changed_files params ≡ None
IsIgnored Initialize params encoding before = Unit {0}
IsIgnored Initialized params encoding before = ⊥
IsIgnored Shutdown params encoding before = Unit {0}
IsIgnored Exit params encoding before = Unit {0}
IsIgnored (Question q) params encoding before = Unit {0}
IsIgnored Unknown params encoding before = Unit {0}

-- the message has no parameters, or its method ignores them
abbrev pub IsIgnoredIn : Method → Data → Encoding → Documents → Type 0
IsIgnoredIn method message encoding before = (get (codes "params") message ≡ None) ⊎ ((params : Data) × ((get (codes "params") message ≡ Some params) × IsIgnored method params encoding before))

-- nothing is done only for this reason
abbrev pub IsNothingOnlyFor : Type 0 → Outcome → Type 0
IsNothingOnlyFor why (Reply reply) = Unit {0}
IsNothingOnlyFor why (Ask question asked) = Unit {0}
IsNothingOnlyFor why Changed = Unit {0}
IsNothingOnlyFor why Begun = Unit {0}
IsNothingOnlyFor why (Files uris) = Unit {0}
IsNothingOnlyFor why Nothing = why
IsNothingOnlyFor why (Ended status) = Unit {0}

-- while the session is ready, a notification is ignored only for such a reason
abbrev pub IsHeard : Stage → Data → Encoding → Documents → Outcome → Type 0
IsHeard stage message encoding before outcome =
    (name : List ℕ) → method_of message ≡ Some name → get (codes "id") message ≡ None → stage ≡ Ready → IsNothingOnlyFor (IsIgnoredIn (method_named name) message encoding before) outcome

abbrev pub IsBodyHeard : List ℕ → Stage → Encoding → Documents → Outcome → Type 0
IsBodyHeard body stage encoding before outcome = (message : Data) → IsUtf8 body → read body ≡ Some message → IsHeard stage message encoding before outcome
