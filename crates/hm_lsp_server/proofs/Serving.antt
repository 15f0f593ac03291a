-- Replies to requests about what texts mean.
use Rattle.std.proofs.Common.{◌≡◌, ℕ, List, [], ◌∷◌, Option, None, Some, Result, Ok, Err, IfOk, IfSome, codes, inl, inr, refl, sym, ap, subst, ◌∙◌}
use Rattle.std.specs.Str.{IsUtf8}
use Rattle.serde_json.specs.Data.{Data, null}
use Rattle.serde_json.specs.Find.{get}
use Rattle.serde_json.specs.Read.{read}
use Rattle.serde_json.specs.View.{view}
use Rattle.serde_json.specs.declared.value.Value.{Value}
use Rattle.hm_lsp_session.specs.Replies.{IsAsked, IsLeftOf, method_of}
use Rattle.hm_lsp_session.specs.Stages.{method_named}
use Rattle.hm_lsp_session.specs.Steps.{stage_of}
use Rattle.hm_lsp_session.specs.declared.session.Outcome.{Outcome}
use Rattle.hm_lsp_session.specs.declared.session.Outcome.TheVariants.{Ask}
use Rattle.hm_lsp_session.specs.declared.stages.Method.TheVariants.{Question}
use Rattle.hm_lsp_session.specs.declared.stages.Question.{Question as Asked}
use Rattle.hm_lsp_session.specs.declared.stages.Stage.TheVariants.{Ready}
use Rattle.hm_service.specs.Checks.{IsHeldCheck}
use Rattle.hm_service_places.specs.declared.checked.Checked.{Checked}
use Rattle.hm_lsp_results.specs.Asked.{Subject}
use Rattle.hm_lsp_results.specs.Results.{IsReply}
use Rattle.hm_lsp_server.specs.Served.{IsServed, IsServedBy, subject_in}
use Rattle.hm_lsp_server.specs.Second.{workers}
use Rattle.hm_lsp_server.specs.Servers.{IsCurrent, IsFollowing, checked_of, documents_in, held_of, session_of}
use Rattle.hm_lsp_server.specs.declared.server.Server.{Server}

by_reply : (s : Server) (c : Checked) (question : Asked) (message id reply : Data) → checked_of s ≡ Some c → IsHeldCheck workers (held_of s) c → IsReply (subject_in s c) question message id reply → IsServedBy s question message id reply
by_reply s c question message id reply at check h = elim h [
  | inl failed ↦ inl failed
  | inr w ↦ inr (c, (at, (check, inr w)))
]

pub served_asked : (before after : Server) (body : List ℕ) (k : Asked) (q r : Value) → IsLeftOf body (stage_of (session_of before)) (Ask k q) → IsFollowing (documents_in after) after
    → ((id : Data) → get (codes "id") (view q) ≡ Some id → IsServedBy after k (view q) id (view r)) → IsServed before after body (view r ∷ [])
served_asked before after body k q r left follows serve message name id question u e n i ready is =
    let asked = left message u e name id question n i ready is in (
      view r,
      (
        refl,
        (
          follows,
          subst (λ x. IsServedBy after x message id (view r)) asked.0
              (subst (λ d. IsServedBy after k d id (view r)) asked.1 (serve id (subst (λ d. get (codes "id") d ≡ Some id) (sym asked.1) i))),
        ),
      ),
    )

-- what isn't left to the service is no such request
pub never_left : (before : Server) (body : List ℕ) (out : Outcome) → IsLeftOf body (stage_of (session_of before)) out → ((question : Asked) (message : Data) → IsAsked question message out → ⊥) → (message : Data) (name : List ℕ) (id : Data)
    (question : Asked) → IsUtf8 body → read body ≡ Some message → method_of message ≡ Some name → get (codes "id") message ≡ Some id → stage_of (session_of before) ≡ Ready → method_named name ≡ Question question → ⊥
never_left before body out left never message name id question u e n i ready is = never question message (left message u e name id question n i ready is)

data_in : Option Data → Data
data_in None = null
data_in (Some d) = d

same_id : (d e : Data) (found : Option Data) → Some d ≡ found → found ≡ Some e → d ≡ e
unfolding data_in
same_id d e found one other = ap data_in (one ∙ other)

-- a reply by the check of a server
pub served_by : {E : Type 0} (s : Server) (c : Checked) (a : Subject) (question : Asked) (message id : Data) (made : Result Value E) → checked_of s ≡ Some c → IsCurrent s → a ≡ subject_in s c → Some id ≡ get (codes "id") message
    → IfOk made (λ v. IsReply a question message id (view v)) → IfOk made (λ v. (i : Data) → get (codes "id") message ≡ Some i → IsServedBy s question message i (view v))
served_by s c a question message id (Err fault) at current same id_is reply = tt
served_by s c a question message id (Ok v) at current same id_is reply = λ i is.
    let check : IsHeldCheck workers (held_of s) c = subst (λ o. IfSome o (IsHeldCheck workers (held_of s))) at current in
    let two = subst (λ d. IsReply a question message d (view v)) (same_id id i (get (codes "id") message) id_is is) reply in
    by_reply s c question message i (view v) at check (subst (λ x. IsReply x question message i (view v)) same two)
