-- What else a notification says: that the client is ready, which files may have changed on the disk, or that the server ends (Language Server Protocol 3.17, "Initialized Notification", "DidChangeWatchedFiles Notification",
-- "Exit Notification").
use Rattle.std.specs.Prelude.{◌≡◌, ⊤, ℕ, Bool, List, None, Some, codes, map, string_bytes}
use Rattle.std.specs.Str.{IsUtf8}
use Rattle.serde_json.specs.Data.{Data}
use Rattle.serde_json.specs.Find.{get}
use Rattle.serde_json.specs.Read.{read}
use Rattle.hm_lsp_session.specs.Params.{changed_files}
use Rattle.hm_lsp_session.specs.Replies.{method_of}
use Rattle.hm_lsp_session.specs.Stages.{method_named}
use Rattle.hm_lsp_session.specs.declared.session.Outcome.{Outcome}
use Rattle.hm_lsp_session.specs.declared.session.Outcome.TheVariants.{Ask, Begun, Changed, Ended, Files, Nothing, Reply}
use Rattle.hm_lsp_session.specs.declared.session.Session.{Session}
use Rattle.hm_lsp_session.specs.declared.stages.Method.{Method}
use Rattle.hm_lsp_session.specs.declared.stages.Method.TheVariants.{DidChangeWatchedFiles, Exit, Initialized}

-- whether the client offers to watch files
abbrev pub watches_files : Session → Bool
watches_files s = s.watches_files

-- the client is ready for requests of the server only if this is so
abbrev pub IfBegun : Outcome → Type 0 → Type 0
IfBegun Begun why = why
IfBegun (Reply reply) why = ⊤
IfBegun (Ask question asked) why = ⊤
IfBegun Changed why = ⊤
IfBegun (Files uris) why = ⊤
IfBegun Nothing why = ⊤
IfBegun (Ended status) why = ⊤

-- of files that are named this is so
abbrev pub IfFiles : Outcome → (List (List ℕ) → Type 0) → Type 0
IfFiles (Files uris) P = P (map string_bytes uris.items)
IfFiles Begun P = ⊤
IfFiles (Reply reply) P = ⊤
IfFiles (Ask question asked) P = ⊤
IfFiles Changed P = ⊤
IfFiles Nothing P = ⊤
IfFiles (Ended status) P = ⊤

-- the server ends only if this is so
abbrev pub IfEnded : Outcome → Type 0 → Type 0
IfEnded (Ended status) why = why
IfEnded (Reply reply) why = ⊤
IfEnded (Ask question asked) why = ⊤
IfEnded Changed why = ⊤
IfEnded Begun why = ⊤
IfEnded (Files uris) why = ⊤
IfEnded Nothing why = ⊤

-- the server ends
abbrev pub IsEnded : Outcome → Type 0
IsEnded (Ended status) = ⊤
IsEnded (Reply reply) = ⊥
IsEnded (Ask question asked) = ⊥
IsEnded Changed = ⊥
IsEnded Begun = ⊥
IsEnded (Files uris) = ⊥
IsEnded Nothing = ⊥

-- a notification of this method with these parameters names the files
abbrev pub AreFilesOf : Method → Data → List (List ℕ) → Type 0
AreFilesOf method params uris = (method ≡ DidChangeWatchedFiles) × (changed_files params ≡ Some uris)

-- the same by the message
abbrev pub AreFilesIn : Method → Data → List (List ℕ) → Type 0
AreFilesIn method message uris = (params : Data) × ((get (codes "params") message ≡ Some params) × AreFilesOf method params uris)

-- the message is a notification of a method for which this is so
abbrev pub IsNotice : Data → (Method → Type 0) → Type 0
IsNotice message P = (name : List ℕ) × ((method_of message ≡ Some name) × ((get (codes "id") message ≡ None) × P (method_named name)))

-- `initialized`
abbrev pub IsBegin : Data → Type 0
IsBegin message = IsNotice message (λ method. method ≡ Initialized)

-- `didChangeWatchedFiles` with these files
abbrev pub AreFilesSaid : Data → List (List ℕ) → Type 0
AreFilesSaid message uris = IsNotice message (λ method. AreFilesIn method message uris)

-- the body of a frame is a message of which this is so
abbrev pub IsBody : List ℕ → (Data → Type 0) → Type 0
IsBody body P = (message : Data) × ((read body ≡ Some message) × P message)

-- `exit`
abbrev pub IsExit : Data → Type 0
IsExit message = IsNotice message (λ method. method ≡ Exit)

-- the server ends if the body of the frame is `exit`
abbrev pub EndsAfter : List ℕ → Outcome → Type 0
EndsAfter body outcome = (message : Data) → IsUtf8 body → read body ≡ Some message → IsExit message → IsEnded outcome
