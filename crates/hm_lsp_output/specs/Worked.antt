-- Worked examples: the frames of messages.
use Rattle.std.specs.Prelude.{[], ◌∷◌, codes}
use Rattle.serde_json.specs.Data.{null}
use Rattle.hm_lsp_output.specs.Frames.{AreFramesOf, IsFrameOf}

-- a message of four bytes, with its length before it. Two messages have two frames
pub record FramesRow : Type 0 where
  pub one : IsFrameOf null (codes "Content-Length: 4\r\n\r\nnull")
  pub two : AreFramesOf (null ∷ null ∷ []) (codes "Content-Length: 4\r\n\r\nnullContent-Length: 4\r\n\r\nnull")
  pub not_shorter : ¬ (IsFrameOf null (codes "Content-Length: 3\r\n\r\nnull"))
  pub not_missing : ¬ (AreFramesOf (null ∷ []) [])
