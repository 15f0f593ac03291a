-- Worked examples: replies to a notification and to a request, what else follows from a message and from an outcome, what is sent of a source, and what is shown of a second check.
use Rattle.std.specs.Prelude.{◌≡◌, ℕ, List, [], ◌∷◌, None, Some, codes, false, true}
use Rattle.serde_json.specs.Data.{Data, null}
use Rattle.hm_lsp_positions.specs.declared.units.Encoding.TheVariants.{Utf16}
use Rattle.hm_service_messages.specs.declared.diagnostic.Diagnostic.{Diagnostic}
use Rattle.hm_service_places.specs.declared.checked.Checked.{Checked}
use Rattle.hm_service_sources.specs.declared.held.HeldSource.{HeldSource}
use Rattle.hm_service_stand_ins.specs.Missed.{HasTextOfNow}
use Rattle.hm_lsp_server.specs.Second.{AreSecondAt}
use Rattle.hm_lsp_server.specs.declared.second.SecondCheck.{SecondCheck}
use Rattle.hm_lsp_server.specs.Published.{AreCleared, AreSent, diagnostics_notice}
use Rattle.hm_lsp_server.specs.Replied.{AreRepliesTo}
use Rattle.hm_lsp_server.specs.Taken.{IsRegistration, replies_in}
use Rattle.hm_lsp_server.specs.declared.taken.Taken.TheVariants.{Ended, Nothing as TakenNothing}
use Rattle.hm_lsp_session.specs.declared.session.Outcome.TheVariants.{Begun, Changed}
use Rattle.hm_lsp_session.specs.declared.session.Session.{Session}
use Rattle.hm_lsp_server.specs.Steps.{FollowsFrom}

-- a notification has no reply, and a request has one
pub record RepliesRow : Type 0 where
  pub notification : AreRepliesTo (Some (codes "exit")) None []
  pub not_replied : ¬ (AreRepliesTo (Some (codes "exit")) None (null ∷ []))
  pub not_missing : (id : Data) → ¬ (AreRepliesTo (Some (codes "shutdown")) (Some id) [])

-- nothing is sent of a source without diagnostics, unless the client shows some under its URI. What it shows under another URI is taken back
pub record SentRow : Type 0 where
  pub silent : AreSent Utf16 None (codes "file:///a.hs") [] []
  pub emptied : AreSent Utf16 (Some (codes "file:///a.hs")) (codes "file:///a.hs") [] (diagnostics_notice Utf16 (codes "file:///a.hs") [] ∷ [])
  pub not_silent : ¬ (AreSent Utf16 (Some (codes "file:///a.hs")) (codes "file:///a.hs") [] [])
  pub moved : AreCleared Utf16 (Some (codes "file:///%61.hs")) (codes "file:///a.hs") (diagnostics_notice Utf16 (codes "file:///%61.hs") [] ∷ [])
  pub not_kept : ¬ (AreCleared Utf16 (Some (codes "file:///%61.hs")) (codes "file:///a.hs") [])

-- without a second check nothing of one is shown. Nothing is shown at a source of which it had another text than that of now
pub record SecondRow : Type 0 where
  pub none : (held : List HeldSource) (c : Checked) → AreSecondAt held c None 0 []
  pub not_without : (held : List HeldSource) (c : Checked) (d : Diagnostic) → ¬ (AreSecondAt held c None 0 (d ∷ []))
  pub not_older : (held : List HeldSource) (c : Checked) (s : SecondCheck) (d : Diagnostic) → ¬ (HasTextOfNow held s.set.items 0) → ¬ (AreSecondAt held c (Some s) 0 (d ∷ []))

-- an end is no reply. The client is sent no other request than the registration
pub record TakenRow : Type 0 where
  pub ended : replies_in (Ended 0) ≡ []
  pub not_other : (s : Session) (body : List ℕ) → ¬ (IsRegistration s body null)

-- after `initialized` a client that offers to watch files is sent a request, and another one nothing. A change doesn't end the server
pub record OutcomesRow : Type 0 where
  pub silent : FollowsFrom false Begun TakenNothing
  pub not_silent : ¬ (FollowsFrom true Begun TakenNothing)
  pub not_ended : ¬ (FollowsFrom true Changed (Ended 0))
