-- The replies of a server to requests about what texts mean.
use Rattle.std.specs.Prelude.{◌≡◌, ◌⊎◌, ℕ, List, [], ◌∷◌, Some, codes}
use Rattle.std.specs.Str.{IsUtf8}
use Rattle.serde_json.specs.Data.{Data}
use Rattle.serde_json.specs.Find.{get}
use Rattle.serde_json.specs.Read.{read}
use Rattle.hm_lsp_session.specs.Effects.{encoding_of}
use Rattle.hm_lsp_session.specs.Replies.{method_of}
use Rattle.hm_lsp_session.specs.Stages.{method_named}
use Rattle.hm_lsp_session.specs.Steps.{stage_of}
use Rattle.hm_lsp_session.specs.declared.stages.Method.TheVariants.{Question}
use Rattle.hm_lsp_session.specs.declared.stages.Question.{Question as Asked}
use Rattle.hm_lsp_session.specs.declared.stages.Stage.TheVariants.{Ready}
use Rattle.hm_service.specs.Checks.{IsHeldCheck}
use Rattle.hm_service_places.specs.declared.checked.Checked.{Checked}
use Rattle.hm_lsp_results.specs.Asked.{Subject}
use Rattle.hm_lsp_results.specs.Results.{IsReply, failure_data}
use Rattle.hm_lsp_server.specs.Second.{workers}
use Rattle.hm_lsp_server.specs.Servers.{IsFollowing, checked_of, documents_in, held_of, session_of, sources_of}
use Rattle.hm_lsp_server.specs.declared.server.Server.{Server}

-- what the server replies from, by a check
abbrev pub subject_in : Server → Checked → Subject
subject_in s c = record { encoding = encoding_of (session_of s); sources = sources_of s; held = held_of s; checked = c }

-- the reply by a check of the texts that are held, or that there is none: memory ran out, no thread could start, or two results contradict each other
abbrev pub IsServedBy : Server → Asked → Data → Data → Data → Type 0
IsServedBy s question message id reply =
    (reply ≡ failure_data id) ⊎ ((c : Checked) × ((checked_of s ≡ Some c) × (IsHeldCheck workers (held_of s) c × IsReply (subject_in s c) question message id reply)))

-- the replies to the body of a frame, if it is such a request and the session was ready. The texts are then those of the client's documents
abbrev pub IsServed : Server → Server → List ℕ → List Data → Type 0
IsServed before after body replies =
    (message : Data) (name : List ℕ) (id : Data) (question : Asked) → IsUtf8 body → read body ≡ Some message → method_of message ≡ Some name → get (codes "id") message ≡ Some id → stage_of (session_of before) ≡ Ready
    → method_named name ≡ Question question → (reply : Data) × ((replies ≡ reply ∷ []) × (IsFollowing (documents_in after) after × IsServedBy after question message id reply))
