-- Messages as they are written (Language Server Protocol 3.17, "Base Protocol"; RFC 8259).
use Rattle.std.specs.Prelude.{◌≡◌, ◌≤◌, ℕ, false, List, [], ◌∷◌, ◌++◌, Some}
use Rattle.serde_json.specs.Data.{Data, depth}
use Rattle.serde_json.specs.Read.{max_depth, read}
use Rattle.serde_json.specs.Written.{compact_text, has_float}
use Rattle.hm_lsp_frames.specs.Frames.{framed}

-- the bytes are a frame of the message. Its body is the text without spaces if no number of the message is a fraction, and it reads back as the message
pub record IsFrameOf (message : Data) (bytes : List ℕ) : Type 0 where
  pub text : List ℕ
  pub whole : bytes ≡ framed text
  pub compact : has_float message ≡ false → text ≡ compact_text message
  pub reads_back : depth message ≤ max_depth → read text ≡ Some message

-- the bytes are a frame of each message, in order
abbrev pub AreFramesOf : List Data → List ℕ → Type 0
AreFramesOf [] bytes = bytes ≡ []
AreFramesOf (m ∷ ms) bytes = (first : List ℕ) × ((later : List ℕ) × ((bytes ≡ first ++ later) × (IsFrameOf m first × AreFramesOf ms later)))
