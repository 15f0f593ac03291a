-- What a server sends for each outcome of its session.
use Rattle.std.proofs.Common.{◌≡◌, inl, inr, ℕ, List, [], ◌∷◌, Option, None, Some, codes, refl}
use Rattle.serde_json.specs.Data.{Data}
use Rattle.serde_json.specs.Find.{get}
use Rattle.serde_json.specs.View.{view}
use Rattle.serde_json.specs.declared.value.Value.{Value}
use Rattle.hm_lsp_session.specs.Replies.{IsReplyTo, RefusesMessage, Takes, TakesBody, TakesOther, method_of, unread, understood}
use Rattle.hm_lsp_session.specs.declared.session.Outcome.{Outcome}
use Rattle.hm_lsp_session.specs.declared.stages.Question.{Question}
use Rattle.hm_lsp_session.specs.declared.session.Outcome.TheVariants.{Ask, Begun, Changed, Ended, Files, Nothing, Reply}
use Rattle.hm_lsp_server.specs.Replied.{IsOneReply, AreOther, AreRepliesTo, IsReplyOf}
use Rattle.hm_lsp_server.specs.Replied as replied

other_reply : (id : Option Data) (r : Value) → TakesOther id (Reply r) → AreOther id (view r ∷ [])
other_reply None r t = inr (view r, refl, t)
other_reply (Some id) r t = inr (view r, refl, t)

takes_reply : (m : Data) (name : Option (List ℕ)) (id : Option Data) (r : Value) → Takes m name id (Reply r) → AreRepliesTo name id (view r ∷ [])
takes_reply m None id r t = other_reply id r t
takes_reply m (Some n) None r t = absurd t
takes_reply m (Some n) (Some id) r t = (view r, refl, t)

pub body_reply : (body : List ℕ) (r : Value) → TakesBody body (Reply r) → IsReplyOf body (view r ∷ [])
body_reply body r (unread n t) = replied.unread n (view r, refl, t)
body_reply body r (understood {message} e t) = replied.understood e (takes_reply message (method_of message) (get (codes "id") message) r t)

takes_asked : (m : Data) (name : Option (List ℕ)) (id : Option Data) (k : Question) (q r : Value) → Takes m name id (Ask k q) → ((i : Data) → get (codes "id") (view q) ≡ Some i → IsReplyTo i (view r)) → get (codes "id") m ≡ id → AreRepliesTo name id (view r ∷ [])
takes_asked m None None k q r t f e = absurd t
takes_asked m None (Some id) k q r t f e = absurd t
takes_asked m (Some n) None k q r t f e = absurd t
takes_asked m (Some n) (Some id) k q r t f e = (view r, refl, f id (Rattle.std.proofs.Common.subst (λ d. get (codes "id") d ≡ Some id) (Rattle.std.proofs.Common.sym t) e))

pub body_asked : (body : List ℕ) (k : Question) (q r : Value) → TakesBody body (Ask k q) → ((i : Data) → get (codes "id") (view q) ≡ Some i → IsReplyTo i (view r)) → IsReplyOf body (view r ∷ [])
body_asked body k q r (unread n t) f = absurd t
body_asked body k q r (understood {message} e t) f = replied.understood e (takes_asked message (method_of message) (get (codes "id") message) k q r t f refl)

-- an outcome without a reply
abbrev pub IsSilent : Outcome → Type 0
IsSilent (Reply r) = ⊥
IsSilent (Ask k q) = ⊥
IsSilent Changed = Unit {0}
IsSilent Begun = Unit {0}
IsSilent (Files uris) = Unit {0}
IsSilent Nothing = Unit {0}
IsSilent (Ended s) = Unit {0}

takes_none : (m : Data) (name : Option (List ℕ)) (id : Option Data) (out : Outcome) → Takes m name id out → IsSilent out → AreRepliesTo name id []
takes_none m None None out t s = inl refl
takes_none m None (Some id) out t s = inl refl
takes_none m (Some n) None out t s = refl
takes_none m (Some n) (Some id) (Reply r) t s = absurd s
takes_none m (Some n) (Some id) (Ask k q) t s = absurd s
takes_none m (Some n) (Some id) Changed t s = absurd t
takes_none m (Some n) (Some id) Begun t s = absurd t
takes_none m (Some n) (Some id) (Files uris) t s = absurd t
takes_none m (Some n) (Some id) Nothing t s = absurd t
takes_none m (Some n) (Some id) (Ended status) t s = absurd t

no_refusal : (out : Outcome) → RefusesMessage out → IsSilent out → ⊥
no_refusal (Reply r) t s = s
no_refusal (Ask k q) t s = s
no_refusal Changed t s = t
no_refusal Begun t s = t
no_refusal (Files uris) t s = t
no_refusal Nothing t s = t
no_refusal (Ended status) t s = t

pub body_none : (body : List ℕ) (out : Outcome) → TakesBody body out → IsSilent out → IsReplyOf body []
body_none body out (unread n t) s = absurd (no_refusal out t s)
body_none body out (understood {message} e t) s = replied.understood e (takes_none message (method_of message) (get (codes "id") message) out t s)
