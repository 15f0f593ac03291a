-- What a server's session does with the body of a frame, and what follows from that.
use Rattle.std.specs.Prelude.{◌≡◌, ℕ, Bool, false, true, List}
use Rattle.serde_json.specs.declared.value.Value.{Value}
use Rattle.hm_lsp_session.specs.Effects.{HasBodyEffect, IsBodyHeard, TextsAre, documents_of, encoding_of}
use Rattle.hm_lsp_session.specs.Files.{AreFilesSaid, EndsAfter, IfBegun, IfEnded, IfFiles, IsBegin, IsBody, IsExit, watches_files}
use Rattle.hm_lsp_session.specs.Replies.{IsLeftOf, TakesBody}
use Rattle.hm_lsp_session.specs.Steps.{IsStep, stage_of}
use Rattle.hm_lsp_session.specs.Units.{HaveUnitsAfter}
use Rattle.hm_lsp_session.specs.Watching.{WatchesAfter}
use Rattle.hm_lsp_session.specs.declared.session.Outcome.{Outcome}
use Rattle.hm_lsp_session.specs.declared.session.Outcome.TheVariants.{Ask, Begun, Changed, Ended, Files, Nothing, Reply}
use Rattle.hm_lsp_session.specs.declared.session.Session.{Session}
use Rattle.hm_lsp_server.specs.declared.taken.Taken.{Taken}
use Rattle.hm_lsp_server.specs.declared.taken.Taken.TheVariants.{Ended as TakenEnded, Files as TakenFiles, Nothing as TakenNothing, Reply as TakenReply, Request as TakenRequest}

-- all that a session promises of a body and of its outcome: how far it is, the texts of its documents, the units of columns, whether the client watches files, and why the outcome is this one
pub record IsSessionStep (body : List ℕ) (before after : Session) (outcome : Outcome) : Type 0 where
  pub takes : TakesBody body outcome
  pub left : IsLeftOf body (stage_of before) outcome
  pub step : IsStep (stage_of before) outcome (stage_of after)
  pub texts : TextsAre outcome (HasBodyEffect body (encoding_of before) (documents_of before) (documents_of after)) (documents_of before) (documents_of after)
  pub units : HaveUnitsAfter body outcome (stage_of before) (stage_of after) (encoding_of before) (encoding_of after)
  pub watches : WatchesAfter body (stage_of before) (stage_of after) (watches_files before) (watches_files after)
  pub begun : IfBegun outcome (IsBody body IsBegin)
  pub files : IfFiles outcome (λ uris. IsBody body (λ message. AreFilesSaid message uris))
  pub ended : IfEnded outcome (IsBody body IsExit)
  pub ends : EndsAfter body outcome
  pub heard : IsBodyHeard body (stage_of before) (encoding_of before) (documents_of before) outcome

-- a client that offers to watch files is sent a request, and another one nothing
abbrev pub IsSentFor : Bool → Taken → Type 0
IsSentFor true taken = (request : Value) × (taken ≡ TakenRequest request)
IsSentFor false taken = taken ≡ TakenNothing

-- what follows from an outcome, by whether the client offers to watch files
abbrev pub FollowsFrom : Bool → Outcome → Taken → Type 0
FollowsFrom watches (Reply reply) taken = taken ≡ TakenReply reply
FollowsFrom watches (Ask question request) taken = (reply : Value) × (taken ≡ TakenReply reply)
FollowsFrom watches Changed taken = taken ≡ TakenNothing
FollowsFrom watches Begun taken = IsSentFor watches taken
FollowsFrom watches (Files uris) taken = taken ≡ TakenFiles uris
FollowsFrom watches Nothing taken = taken ≡ TakenNothing
FollowsFrom watches (Ended status) taken = taken ≡ TakenEnded status

-- the body has an outcome, from which this follows
abbrev pub IsSteppedBy : List ℕ → Session → Session → Taken → Type 0
IsSteppedBy body before after taken = (outcome : Outcome) × (IsSessionStep body before after outcome × FollowsFrom (watches_files after) outcome taken)
