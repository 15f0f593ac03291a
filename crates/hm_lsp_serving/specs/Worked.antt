-- Worked examples: frames without a body, messages that cancel requests, and sessions.
use Rattle.std.specs.Prelude.{[], ◌∷◌, None, Some}
use Rattle.serde_json.specs.Data.{Data, null}
use Rattle.hm_lsp_frames.specs.Frames.{malformed, too_long}
use Rattle.hm_lsp_server.specs.declared.server.Server.{Server}
use Rattle.hm_lsp_server.specs.declared.taken.Taken.TheVariants.{Ended, Nothing}
use Rattle.hm_lsp_serving.specs.Taking.{AreCancels, IsFrameTaken}
use Rattle.hm_lsp_serving.specs.Turns.{IsSession}

-- the first frame cancels nothing. A frame without a body is replied to, and doesn't end the server
pub record FramesRow : Type 0 where
  pub first : AreCancels (too_long ∷ []) []
  pub not_more : ¬ (AreCancels (too_long ∷ []) (null ∷ []))
  pub not_silent : (s : Server) → ¬ (IsFrameTaken [] too_long s s Nothing)
  pub not_ended : (s : Server) → ¬ (IsFrameTaken [] malformed s s (Ended 0))

-- if nothing is read, nothing is sent, and the client hasn't ended the server
pub record SessionsRow : Type 0 where
  pub empty : (s : Server) → IsSession s [] [] None
  pub not_sent : (s : Server) (message : Data) → ¬ (IsSession s [] (message ∷ []) None)
  pub not_ended : (s : Server) → ¬ (IsSession s [] [] (Some 0))
