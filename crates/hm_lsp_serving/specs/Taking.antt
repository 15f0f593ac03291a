-- What a server does with a frame (Language Server Protocol 3.17, "Base Protocol", "Cancellation Support", "Initialize Request").
use Rattle.std.specs.Prelude.{◌≡◌, ℕ, true, List, [], ◌∷◌, ◌++◌, Option, None, Some, codes, drop, map, string_bytes}
use Rattle.std.specs.Str.{IsUtf8}
use Rattle.percent_encoding.specs.Percent.{percent_decode}
use Rattle.serde_json.specs.Data.{Data, null}
use Rattle.serde_json.specs.Read.{read}
use Rattle.serde_json.specs.View.{view}
use Rattle.hm_lsp_frames.specs.Frames.{Item, body, too_long, malformed}
use Rattle.hm_lsp_session.specs.Cancelled.{IsCancelled, IsCancelledReply, IsNoted as IsCancelNoted}
use Rattle.hm_lsp_session.specs.Files.{IsBody}
use Rattle.hm_lsp_session.specs.Folders.{IsOpening}
use Rattle.hm_lsp_session.specs.Replies.{refusal_data}
use Rattle.hm_lsp_session.specs.Stages.{code_of}
use Rattle.hm_lsp_session.specs.Steps.{stage_of}
use Rattle.hm_lsp_session.specs.declared.stages.Refusal.TheVariants.{InvalidRequest, ParseError}
use Rattle.hm_lsp_session.specs.declared.stages.Stage.TheVariants.{New}
use Rattle.hm_lsp_sources.specs.Files.{IsFileRead}
use Rattle.hm_lsp_sources.specs.Following.{AreKept}
use Rattle.hm_lsp_server.specs.Replied.{IsReplyOf}
use Rattle.hm_lsp_server.specs.Served.{IsServed}
use Rattle.hm_lsp_server.specs.Servers.{HasFiles, IsFileNoted, IsFollowing, IsNoted, documents_in, good_of, is_changed, session_of, sources_of}
use Rattle.hm_lsp_server.specs.Steps.{IsSteppedBy}
use Rattle.hm_lsp_server.specs.Taken.{IsTakenFrom, replies_in}
use Rattle.hm_lsp_server.specs.declared.server.Server.{Server}
use Rattle.hm_lsp_server.specs.declared.server.SourceFile.{SourceFile}
use Rattle.hm_lsp_server.specs.declared.taken.Taken.{Taken}
use Rattle.hm_lsp_server.specs.declared.taken.Taken.TheVariants.{Ended, Files, Nothing, Reply, Request}

-- a server of files before its first message
pub record IsNew (s : Server) : Type 0 where
  pub files : List SourceFile
  pub has : HasFiles files (sources_of s)
  pub follows : IsFollowing [] s
  pub documents : documents_in s ≡ []
  pub stage : stage_of (session_of s) ≡ New
  pub good : good_of s ≡ []
  pub changed : is_changed s ≡ true

-- the server that takes a body: that of before, or a new one of the files of the folders that the body opens. Only the first `initialize` opens some
pub data IsOpenedBy (bytes : List ℕ) (before after : Server) : Type 0 where
  as_before : after ≡ before → IsOpenedBy bytes before after
  anew : stage_of (session_of before) ≡ New → IsBody bytes (λ message. (id : Data) × IsOpening message id) → IsNew after → IsOpenedBy bytes before after

-- all that a server promises of a body that it takes, and of what follows
pub record IsTakenBody (bytes : List ℕ) (before after : Server) (taken : Taken) : Type 0 where
  pub step : IsSteppedBy bytes (session_of before) (session_of after) taken
  pub reply : IsReplyOf bytes (replies_in taken)
  pub served : IsServed before after bytes (replies_in taken)
  pub from : IsTakenFrom (session_of after) bytes taken
  pub kept : AreKept (sources_of before) (sources_of after)
  pub good : good_of after ≡ good_of before
  pub noted : IsNoted before after

-- no message of these cancels the body
abbrev pub IsNotCancelled : List Data → List ℕ → Type 0
IsNotCancelled cancels bytes = (message id : Data) → IsUtf8 bytes → read bytes ≡ Some message → ¬ (IsCancelled cancels message id)

-- what follows from a reply that is made without the server
abbrev pub IsReplyAlone : Data → Taken → Type 0
IsReplyAlone reply Nothing = ⊥
IsReplyAlone reply (Reply value) = view value ≡ reply
IsReplyAlone reply (Request value) = ⊥
IsReplyAlone reply (Files uris) = ⊥
IsReplyAlone reply (Ended status) = ⊥

-- a server before and after the body of a frame, and what follows, while these messages cancel requests
pub data IsBodyTaken (cancels : List Data) (bytes : List ℕ) (before after : Server) (taken : Taken) : Type 0 where
  cancelled : {reply : Data} → IsCancelledReply cancels bytes reply → IsReplyAlone reply taken → after ≡ before → IsBodyTaken cancels bytes before after taken
  understood : {opened : Server} → IsNotCancelled cancels bytes → IsOpenedBy bytes before opened → IsTakenBody bytes opened after taken → IsBodyTaken cancels bytes before after taken

-- the same of a frame. One without a body has a reply that says so
abbrev pub IsFrameTaken : List Data → Item → Server → Server → Taken → Type 0
IsFrameTaken cancels (body bytes) before after taken = IsBodyTaken cancels bytes before after taken
IsFrameTaken cancels too_long before after taken = (after ≡ before) × IsReplyAlone (refusal_data null (code_of InvalidRequest) (codes "this message is too long")) taken
IsFrameTaken cancels malformed before after taken = (after ≡ before) × IsReplyAlone (refusal_data null (code_of ParseError) (codes "this is no header")) taken

-- the server has read the file with this URI, or passed it over as no source of its folders
pub data IsRead (uri : List ℕ) (before after : Server) : Type 0 where
  passed : after ≡ before → IsRead uri before after
  taken : {text : Option (List ℕ)} → IsFileRead (percent_decode uri) text (sources_of before) (sources_of after) → session_of after ≡ session_of before → good_of after ≡ good_of before → IsFileNoted before after
      → IsRead uri before after

-- the same of these files, in order
pub data AreRead (before : Server) : List (List ℕ) → Server → Type 0 where
  none : {uris : List (List ℕ)} {after : Server} → uris ≡ [] → after ≡ before → AreRead before uris after
  more : {uris first : List (List ℕ)} {last : List ℕ} {middle after : Server} → AreRead before first middle → IsRead last middle after → uris ≡ first ++ last ∷ [] → AreRead before uris after

-- what follows was done: a message was sent to the client, or files were read
abbrev pub IsDone : Taken → Server → Server → List Data → Type 0
IsDone Nothing before after sent = (after ≡ before) × (sent ≡ [])
IsDone (Reply value) before after sent = (after ≡ before) × (sent ≡ view value ∷ [])
IsDone (Request value) before after sent = (after ≡ before) × (sent ≡ view value ∷ [])
IsDone (Files uris) before after sent = AreRead before (map string_bytes uris.items) after × (sent ≡ [])
IsDone (Ended status) before after sent = (after ≡ before) × (sent ≡ [])

-- the exit status, if the server ends
abbrev pub status_in : Taken → Option ℕ
status_in (Ended status) = Some status
status_in Nothing = None
status_in (Reply value) = None
status_in (Request value) = None
status_in (Files uris) = None

-- a server before and after a frame, with what is sent, and the exit status if it ends
pub record IsFrameDone (cancels : List Data) (item : Item) (before after : Server) (sent : List Data) (status : Option ℕ) : Type 0 where
  pub middle : Server
  pub what : Taken
  pub taken : IsFrameTaken cancels item before middle what
  pub follows : IsDone what middle after sent
  pub ends : status_in what ≡ status

-- the messages that cancel requests are noted of a frame
abbrev pub IsItemNoted : Item → List Data → List Data → Type 0
IsItemNoted (body bytes) before after = IsCancelNoted before after bytes
IsItemNoted too_long before after = after ≡ before
IsItemNoted malformed before after = after ≡ before

-- these are the messages of frames that cancel requests, in order
pub data AreNoted : List Item → List Data → Type 0 where
  none : {items : List Item} {cancels : List Data} → items ≡ [] → cancels ≡ [] → AreNoted items cancels
  more : {items first : List Item} (last : Item) {before cancels : List Data} → AreNoted first before → IsItemNoted last before cancels → items ≡ first ++ last ∷ [] → AreNoted items cancels

-- those of frames that wait together: the first of them cancels none that waits
abbrev pub AreCancels : List Item → List Data → Type 0
AreCancels items cancels = AreNoted (drop 1 items) cancels
