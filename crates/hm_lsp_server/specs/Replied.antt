-- The replies of a server (Language Server Protocol 3.17, "Request Message", "Notification Message").
use Rattle.std.specs.Prelude.{◌≡◌, ◌⊎◌, ℕ, List, [], ◌∷◌, Option, None, Some, codes}
use Rattle.std.specs.Str.{IsUtf8}
use Rattle.serde_json.specs.Data.{Data, null}
use Rattle.serde_json.specs.Find.{get}
use Rattle.serde_json.specs.Read.{read}
use Rattle.hm_lsp_session.specs.Replies.{IsReplyTo, method_of}

-- there is just one reply, with this identifier
abbrev pub IsOneReply : Data → List Data → Type 0
IsOneReply id replies = (r : Data) × (replies ≡ r ∷ []) × IsReplyTo id r

-- what has no method is refused, or is a reply of the client
abbrev pub AreOther : Option Data → List Data → Type 0
AreOther None replies = (replies ≡ []) ⊎ IsOneReply null replies
AreOther (Some id) replies = (replies ≡ []) ⊎ IsOneReply id replies

-- a request has one reply, and a notification has none
abbrev pub AreRepliesTo : Option (List ℕ) → Option Data → List Data → Type 0
AreRepliesTo None id replies = AreOther id replies
AreRepliesTo (Some name) None replies = replies ≡ []
AreRepliesTo (Some name) (Some id) replies = IsOneReply id replies

-- the replies to the body of a frame
pub data IsReplyOf (body : List ℕ) (replies : List Data) : Type 0 where
  unread : (IsUtf8 body → read body ≡ None) → IsOneReply null replies → IsReplyOf body replies
  understood : {message : Data} → read body ≡ Some message → AreRepliesTo (method_of message) (get (codes "id") message) replies → IsReplyOf body replies
