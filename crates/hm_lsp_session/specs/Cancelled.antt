-- Requests that the client cancels before they are begun (Language Server Protocol 3.17, "Cancellation Support").
use Rattle.std.specs.Prelude.{◌≡◌, ◌++◌, ℕ, ℤ, List, [], ◌∷◌, Option, Some, codes, map, option_and_then}
use Rattle.std.specs.List.{Any}
use Rattle.std.specs.Str.{IsUtf8}
use Rattle.serde_json.specs.Data.{Data}
use Rattle.serde_json.specs.Find.{as_i64, as_number, as_str, get, pointer}
use Rattle.serde_json.specs.Read.{read}
use Rattle.serde_json.specs.View.{view}
use Rattle.hm_lsp_session.specs.Replies.{method_of, refusal_data}
use Rattle.hm_lsp_session.specs.Stages.{code_of, method_named}
use Rattle.hm_lsp_session.specs.declared.cancelling.Cancelled.{Cancelled}
use Rattle.hm_lsp_session.specs.declared.stages.Method.TheVariants.{Question}
use Rattle.hm_lsp_session.specs.declared.stages.Question.{Question as Asked}
use Rattle.hm_lsp_session.specs.declared.stages.Refusal.TheVariants.{RequestCancelled}

-- the messages that cancel a request, in order
abbrev pub cancels_of : Cancelled → List Data
cancels_of c = map view c.messages.items

-- the number of an identifier, if it is one
abbrev pub number_of : Data → Option ℤ
number_of id = option_and_then as_i64 (as_number id)

-- the identifiers are one number or one text
pub data IsSameId (a b : Data) : Type 0 where
  numbers : {n : ℤ} → number_of a ≡ Some n → number_of b ≡ Some n → IsSameId a b
  texts : {t : List ℕ} → as_str a ≡ Some t → as_str b ≡ Some t → IsSameId a b

-- the message cancels a request
abbrev pub IsCancel : Data → Type 0
IsCancel message = method_of message ≡ Some (codes "$/cancelRequest")

-- it has this identifier as its parameter
abbrev pub IsOfId : Data → Data → Type 0
IsOfId id message = (given : Data) × ((pointer (codes "/params/id") message ≡ Some given) × IsSameId given id)

-- the body of a frame is noted if it cancels a request
pub data IsNoted (before after : List Data) (body : List ℕ) : Type 0 where
  noted : {message : Data} → read body ≡ Some message → IsCancel message → after ≡ before ++ message ∷ [] → IsNoted before after body
  passed : ((message : Data) → IsUtf8 body → read body ≡ Some message → ¬ (IsCancel message)) → after ≡ before → IsNoted before after body

-- the message is a request about what texts mean, with this identifier
pub record IsRequest (message id : Data) : Type 0 where
  pub name : List ℕ
  pub question : Asked
  pub named : method_of message ≡ Some name
  pub is : method_named name ≡ Question question
  pub has : get (codes "id") message ≡ Some id

-- it is such a request, and one of these messages cancels it
abbrev pub IsCancelled : List Data → Data → Data → Type 0
IsCancelled cancels message id = IsRequest message id × Any (IsOfId id) cancels

-- the reply to the request with this identifier
abbrev pub cancelled_data : Data → Data
cancelled_data id = refusal_data id (code_of RequestCancelled) (codes "the client cancelled this request")

-- the reply to the body of a frame that is a cancelled request
abbrev pub IsCancelledReply : List Data → List ℕ → Data → Type 0
IsCancelledReply cancels body reply = (message : Data) × ((read body ≡ Some message) × ((id : Data) × (IsCancelled cancels message id × (reply ≡ cancelled_data id))))
