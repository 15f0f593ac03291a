-- What the parts of a turn promise.
use Rattle.std.specs.Prelude.{◌≡◌, ℕ, List, Option, None, Some}
use Rattle.serde_json.specs.Data.{Data}
use Rattle.hm_lsp_frames.specs.Frames.{Item}
use Rattle.hm_lsp_server.specs.Published.{IsPublished}
use Rattle.hm_lsp_server.specs.Servers.{held_of, session_of, sources_of}
use Rattle.hm_lsp_server.specs.declared.server.Server.{Server}
use Rattle.hm_lsp_serving.specs.Turns.{AreTaken, IsEndedIn, IsLastTurn, IsTurn}

-- all frames were taken, or the server ended at one with this status
abbrev pub AreTakenUpTo : List Data → List Item → Server → Server → List Data → Option ℕ → Type 0
AreTakenUpTo cancels items before after sent None = AreTaken cancels items before after sent
AreTakenUpTo cancels items before after sent (Some status) = IsEndedIn cancels items before sent status

-- the diagnostics were sent
pub record IsPublishedNow (before after : Server) (sent : List Data) : Type 0 where
  pub published : IsPublished before after sent
  pub session : session_of after ≡ session_of before
  pub sources : sources_of after ≡ sources_of before
  pub held : held_of after ≡ held_of before

-- a turn of these bytes, or the last one, with this status
abbrev pub IsTurnOf : List ℕ → Server → Server → List ℕ → List Data → Option ℕ → Type 0
IsTurnOf stream before after rest sent None = IsTurn stream before after rest sent
IsTurnOf stream before after rest sent (Some status) = IsLastTurn stream before sent status
