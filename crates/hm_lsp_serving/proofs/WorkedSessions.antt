-- Worked examples of sessions.
use Rattle.std.proofs.Common.{◌≡◌, ◌<◌, ◌++◌, ◌∷◌, [], ℕ, List, None, Some, ap, arith, length, refl}
use Rattle.serde_json.specs.Data.{Data, null}
use Rattle.hm_lsp_frames.specs.Frames.{Item}
use Rattle.hm_lsp_server.specs.declared.server.Server.{Server}
use Rattle.hm_lsp_serving.specs.Taking.{AreNoted, none as no_items, more as more_items}
use Rattle.hm_lsp_serving.specs.Turns.{HasServed, IsSession, begun, ended, input_ended, turn}
use Rattle.hm_lsp_serving.specs.Worked.{FramesRow, SessionsRow}

items_end : (first : List Item) (last : Item) → [] ≡ first ++ last ∷ [] → ⊥
items_end [] last h = cc
items_end (x ∷ first) last h = cc

data_not : (d : Data) (ds : List Data) → d ∷ ds ≡ [] → ⊥
data_not d ds h = cc

none_noted : (ds : List Data) → AreNoted [] ds → ds ≡ []
none_noted ds (no_items _ is) = is
none_noted ds (more_items {first = first} last _ _ is) = absurd (items_end first last is)

pub worked_frames : FramesRow
worked_frames = record {
  first = no_items refl refl;
  not_more = λ h. data_not null [] (none_noted (null ∷ []) h);
  not_silent = λ s h. h.1;
  not_ended = λ s h. h.1;
}

some_bytes : (earlier piece : List ℕ) → 0 < length piece → [] ≡ earlier ++ piece → ⊥
some_bytes [] piece low is = let same : 0 ≡ length piece = ap length is in omega (arith, low, same)
some_bytes (b ∷ earlier) piece low is = cc

nothing_read : (s now : Server) (waits : List ℕ) (sent : List Data) → HasServed s [] sent now waits → sent ≡ []
nothing_read s now waits sent (begun _ is _ _) = is
nothing_read s now waits sent (turn {earlier = earlier} piece _ low _ is _) = absurd (some_bytes earlier piece low is)

not_sent : (s : Server) (message : Data) → IsSession s [] (message ∷ []) None → ⊥
not_sent s message (input_ended {now = now} {waits = waits} served _) = data_not message [] (nothing_read s now waits (message ∷ []) served)
not_sent s message (ended {earlier = earlier} piece _ low _ _ is _) = some_bytes earlier piece low is

some_none : (n : ℕ) → Some n ≡ None → ⊥
some_none n h = cc

not_ended : (s : Server) → IsSession s [] [] (Some 0) → ⊥
not_ended s (input_ended _ status) = some_none 0 status
not_ended s (ended {earlier = earlier} piece _ low _ _ is _) = some_bytes earlier piece low is

pub worked_sessions : SessionsRow
worked_sessions = record {
  empty = λ s. input_ended (begun refl refl refl refl) refl;
  not_sent = not_sent;
  not_ended = not_ended;
}
