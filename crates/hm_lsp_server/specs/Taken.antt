-- What follows from a message (Language Server Protocol 3.17, "Register Capability", "DidChangeWatchedFiles Notification").
use Rattle.std.specs.Prelude.{◌≡◌, ⊤, ℕ, true, List, [], ◌∷◌, codes, map, string_bytes}
use Rattle.serde_json.specs.Data.{Data, array, item, member, no_items, no_members, object, string}
use Rattle.serde_json.specs.View.{view}
use Rattle.hm_lsp_session.specs.Files.{AreFilesSaid, IsBegin, IsBody, watches_files}
use Rattle.hm_lsp_session.specs.declared.session.Session.{Session}
use Rattle.hm_lsp_server.specs.declared.taken.Taken.{Taken}
use Rattle.hm_lsp_server.specs.declared.taken.Taken.TheVariants.{Ended, Files, Nothing, Reply, Request}

-- the replies to the message
abbrev pub replies_in : Taken → List Data
replies_in Nothing = []
replies_in (Reply reply) = view reply ∷ []
replies_in (Request request) = []
replies_in (Files uris) = []
replies_in (Ended status) = []

-- the request that the client says when a file of a source changes
abbrev pub options_data : Data
options_data = object (member (codes "watchers") (array (item (object (member (codes "globPattern") (string (codes "**/*.hs")) no_members)) no_items)) no_members)

abbrev pub registrations_data : Data
registrations_data = object (member (codes "registrations") (array (item (object (member (codes "id") (string (codes "files")) (member (codes "method") (string (codes "workspace/didChangeWatchedFiles"))
    (member (codes "registerOptions") options_data no_members)))) no_items)) no_members)

abbrev pub registration_data : Data
registration_data = object (member (codes "id") (string (codes "files")) (member (codes "jsonrpc") (string (codes "2.0"))
    (member (codes "method") (string (codes "client/registerCapability")) (member (codes "params") registrations_data no_members))))

-- the client offers to watch files, and the body of the frame is its `initialized`
pub record IsRegistration (s : Session) (body : List ℕ) (request : Data) : Type 0 where
  pub whole : request ≡ registration_data
  pub offered : watches_files s ≡ true
  pub begun : IsBody body IsBegin

-- a request for the client is this one, and files that are to be read are those of the message
abbrev pub IsTakenFrom : Session → List ℕ → Taken → Type 0
IsTakenFrom s body Nothing = ⊤
IsTakenFrom s body (Reply reply) = ⊤
IsTakenFrom s body (Request request) = IsRegistration s body (view request)
IsTakenFrom s body (Files uris) = IsBody body (λ message. AreFilesSaid message (map string_bytes uris.items))
IsTakenFrom s body (Ended status) = ⊤
