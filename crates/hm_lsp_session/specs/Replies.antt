-- Replies (Language Server Protocol 3.17, "Response Message"), and the message that each belongs to.
use Rattle.std.specs.Prelude.{◌≡◌, ℕ, ℤ, List, Option, None, Some, codes, option_and_then}
use Rattle.std.specs.Str.{IsUtf8}
use Rattle.serde_json.specs.Data.{Data, member, no_members, null, number, object, string}
use Rattle.serde_json.specs.Find.{as_str, get, of_integer}
use Rattle.serde_json.specs.Read.{read}
use Rattle.serde_json.specs.View.{view}
use Rattle.hm_lsp_session.specs.Stages.{method_named}
use Rattle.hm_lsp_session.specs.declared.session.Outcome.{Outcome}
use Rattle.hm_lsp_session.specs.declared.session.Outcome.TheVariants.{Ask, Begun, Changed, Ended, Files, Nothing, Reply}
use Rattle.hm_lsp_session.specs.declared.stages.Method.TheVariants.{Question}
use Rattle.hm_lsp_session.specs.declared.stages.Question.{Question as Asked}
use Rattle.hm_lsp_session.specs.declared.stages.Stage.{Stage}
use Rattle.hm_lsp_session.specs.declared.stages.Stage.TheVariants.{Ready}

-- a reply with a result, one with an error, and a notification of the server
abbrev pub reply_data : Data → Data → Data
reply_data id result = object (member (codes "id") id (member (codes "jsonrpc") (string (codes "2.0")) (member (codes "result") result no_members)))

abbrev pub error_data : ℤ → List ℕ → Data
error_data code text = object (member (codes "code") (number (of_integer code)) (member (codes "message") (string text) no_members))

abbrev pub refusal_data : Data → ℤ → List ℕ → Data
refusal_data id code text = object (member (codes "error") (error_data code text) (member (codes "id") id (member (codes "jsonrpc") (string (codes "2.0")) no_members)))

abbrev pub notice_data : List ℕ → Data → Data
notice_data method params = object (member (codes "jsonrpc") (string (codes "2.0")) (member (codes "method") (string method) (member (codes "params") params no_members)))

-- the name of a message's method
abbrev pub method_of : Data → Option (List ℕ)
method_of message = option_and_then as_str (get (codes "method") message)

-- a reply with this identifier
abbrev pub IsReplyTo : Data → Data → Type 0
IsReplyTo id reply = get (codes "id") reply ≡ Some id

-- the one reply to a request has its identifier. It is made now, or it is that of the service to the request
abbrev pub AnswersRequest : Data → Data → Outcome → Type 0
AnswersRequest request id (Reply reply) = IsReplyTo id (view reply)
AnswersRequest request id (Ask question asked) = view asked ≡ request
AnswersRequest request id Changed = ⊥
AnswersRequest request id Begun = ⊥
AnswersRequest request id (Files uris) = ⊥
AnswersRequest request id Nothing = ⊥
AnswersRequest request id (Ended status) = ⊥

-- the service has to reply to this request, which is this question about texts
abbrev pub IsAsked : Asked → Data → Outcome → Type 0
IsAsked question request (Reply reply) = ⊥
IsAsked question request (Ask own asked) = (own ≡ question) × (view asked ≡ request)
IsAsked question request Changed = ⊥
IsAsked question request Begun = ⊥
IsAsked question request (Files uris) = ⊥
IsAsked question request Nothing = ⊥
IsAsked question request (Ended status) = ⊥

-- while the session is ready, the requests about what texts mean are left to the service
abbrev pub IsLeft : Stage → Data → Outcome → Type 0
IsLeft stage message outcome =
    (name : List ℕ) (id : Data) (question : Asked) → method_of message ≡ Some name → get (codes "id") message ≡ Some id → stage ≡ Ready → method_named name ≡ Question question → IsAsked question message outcome

-- a notification has no reply
abbrev pub TakesNotification : Outcome → Type 0
TakesNotification (Reply reply) = ⊥
TakesNotification (Ask question asked) = ⊥
TakesNotification Changed = Unit {0}
TakesNotification Begun = Unit {0}
TakesNotification (Files uris) = Unit {0}
TakesNotification Nothing = Unit {0}
TakesNotification (Ended status) = Unit {0}

-- what isn't a message has a reply without an identifier
abbrev pub RefusesMessage : Outcome → Type 0
RefusesMessage (Reply reply) = IsReplyTo null (view reply)
RefusesMessage (Ask question asked) = ⊥
RefusesMessage Changed = ⊥
RefusesMessage Begun = ⊥
RefusesMessage (Files uris) = ⊥
RefusesMessage Nothing = ⊥
RefusesMessage (Ended status) = ⊥

-- what has no method is no message, or a reply of the client
abbrev pub TakesOther : Option Data → Outcome → Type 0
TakesOther None (Reply reply) = IsReplyTo null (view reply)
TakesOther (Some id) (Reply reply) = IsReplyTo id (view reply)
TakesOther id (Ask question asked) = ⊥
TakesOther id Changed = ⊥
TakesOther id Begun = ⊥
TakesOther id (Files uris) = ⊥
TakesOther id Nothing = Unit {0}
TakesOther id (Ended status) = ⊥

-- a request has a method and an identifier, and a notification has a method alone
abbrev pub Takes : Data → Option (List ℕ) → Option Data → Outcome → Type 0
Takes message None id outcome = TakesOther id outcome
Takes message (Some name) None outcome = TakesNotification outcome
Takes message (Some name) (Some id) outcome = AnswersRequest message id outcome

-- what the body of a frame leads to. One that isn't UTF-8 or isn't JSON is refused
pub data TakesBody (body : List ℕ) (outcome : Outcome) : Type 0 where
  unread : (IsUtf8 body → read body ≡ None) → RefusesMessage outcome → TakesBody body outcome
  understood : {message : Data} → read body ≡ Some message → Takes message (method_of message) (get (codes "id") message) outcome → TakesBody body outcome

abbrev pub IsLeftOf : List ℕ → Stage → Outcome → Type 0
IsLeftOf body stage outcome = (message : Data) → IsUtf8 body → read body ≡ Some message → IsLeft stage message outcome
