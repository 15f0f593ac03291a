-- A session as its client sees it: what is read, what is sent, and the exit status (Language Server Protocol 3.17, "Base Protocol", "Server lifecycle").
use Rattle.std.specs.Prelude.{◌≡◌, ◌<◌, ℕ, List, [], ◌∷◌, ◌++◌, Option, None, Some, length}
use Rattle.std.specs.Io.KnownBytes.{Appends}
use Rattle.serde_json.specs.Data.{Data}
use Rattle.hm_lsp_frames.specs.Frames.{Item, Reads}
use Rattle.hm_lsp_output.specs.Frames.{AreFramesOf}
use Rattle.hm_lsp_server.specs.Published.{IsPublished}
use Rattle.hm_lsp_server.specs.Servers.{held_of, session_of, sources_of}
use Rattle.hm_lsp_server.specs.declared.server.Server.{Server}
use Rattle.hm_lsp_serving.specs.Taking.{AreCancels, IsFrameDone}

-- a server before and after frames that it takes in order, with what is sent
pub data AreTaken (cancels : List Data) : List Item → Server → Server → List Data → Type 0 where
  none : {items : List Item} {before after : Server} {sent : List Data} → items ≡ [] → after ≡ before → sent ≡ [] → AreTaken cancels items before after sent
  more : {items first : List Item} {last : Item} {before middle after : Server} {sent earlier later : List Data} → AreTaken cancels first before middle earlier → IsFrameDone cancels last middle after later None → items ≡ first ++ last ∷ [] → sent ≡ earlier ++ later
      → AreTaken cancels items before after sent

-- the server ends at one of the frames
pub record IsEndedIn (cancels : List Data) (items : List Item) (before : Server) (sent : List Data) (status : ℕ) : Type 0 where
  pub first : List Item
  pub last : Item
  pub rest : List Item
  pub middle : Server
  pub after : Server
  pub earlier : List Data
  pub later : List Data
  pub items_are : items ≡ first ++ last ∷ rest
  pub taken : AreTaken cancels first before middle earlier
  pub ends : IsFrameDone cancels last middle after later (Some status)
  pub whole : sent ≡ earlier ++ later

-- the diagnostics are sent if no byte of a frame is left
pub data IsToldAfter (rest : List ℕ) (before after : Server) (sent : List Data) : Type 0 where
  waits : ¬ (rest ≡ []) → after ≡ before → sent ≡ [] → IsToldAfter rest before after sent
  told : rest ≡ [] → IsPublished before after sent → session_of after ≡ session_of before → sources_of after ≡ sources_of before → held_of after ≡ held_of before → IsToldAfter rest before after sent

-- the whole frames of these bytes are taken in order, and the bytes after them wait
pub record IsTurn (stream : List ℕ) (before after : Server) (rest : List ℕ) (sent : List Data) : Type 0 where
  pub items : List Item
  pub cancels : List Data
  pub middle : Server
  pub replies : List Data
  pub later : List Data
  pub reads : Reads stream items rest
  pub cancel : AreCancels items cancels
  pub taken : AreTaken cancels items before middle replies
  pub told : IsToldAfter rest middle after later
  pub whole : sent ≡ replies ++ later

-- the server ends at one of these frames
pub record IsLastTurn (stream : List ℕ) (before : Server) (sent : List Data) (status : ℕ) : Type 0 where
  pub items : List Item
  pub cancels : List Data
  pub rest : List ℕ
  pub reads : Reads stream items rest
  pub cancel : AreCancels items cancels
  pub ends : IsEndedIn cancels items before sent status

-- what a server has read and sent in its turns, what it is then, and the bytes that wait. In each turn a piece is read after those that wait
pub data HasServed (first : Server) : List ℕ → List Data → Server → List ℕ → Type 0 where
  begun : {read waits : List ℕ} {sent : List Data} {now : Server} → read ≡ [] → sent ≡ [] → now ≡ first → waits ≡ [] → HasServed first read sent now waits
  turn : {read earlier : List ℕ} (piece : List ℕ) {waited waits : List ℕ} {before now : Server} {sent said new : List Data} → HasServed first earlier said before waited → 0 < length piece → IsTurn (waited ++ piece) before now waits new → read ≡ earlier ++ piece → sent ≡ said ++ new
      → HasServed first read sent now waits

-- a session from its first turn to its end. It has an exit status if the client ends it, and none if the input ends
pub data IsSession (first : Server) (read : List ℕ) (sent : List Data) (status : Option ℕ) : Type 0 where
  input_ended : {now : Server} {waits : List ℕ} → HasServed first read sent now waits → status ≡ None → IsSession first read sent status
  ended : {earlier : List ℕ} (piece : List ℕ) {waits : List ℕ} {now : Server} {said new : List Data} {own : ℕ} → HasServed first earlier said now waits → 0 < length piece → IsLastTurn (waits ++ piece) now new own → status ≡ Some own
      → read ≡ earlier ++ piece → sent ≡ said ++ new → IsSession first read sent status

-- frames of these messages were written, in order
abbrev pub AreWritten : Option (List ℕ) → Option (List ℕ) → List Data → Type 0
AreWritten before after sent = (bytes : List ℕ) × (AreFramesOf sent bytes × Appends before after bytes)
