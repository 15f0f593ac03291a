-- Frames that are written one after another.
use Rattle.std.proofs.Common.{◌≡◌, ◌∙◌, ◌+◌, ◌<◌, ◌++◌, ◌∷◌, [], ℕ, List, Option, ap, append_assoc, get_or, length, map, refl, subst, sym, take}
use Rattle.std.proofs.lemmas.List.{append-nil, map-append, take_more}
use Rattle.std.proofs.KnownBytes.{Appends-trans}
use Rattle.std.specs.Io.KnownBytes.{Appends}
use Rattle.serde_json.specs.Data.{Data}
use Rattle.serde_json.specs.View.{view}
use Rattle.serde_json.specs.declared.value.Value.{Value}
use Rattle.hm_lsp_output.specs.Frames.{AreFramesOf, IsFrameOf}

frames_more : (ms : List Data) (m : Data) (bytes frame : List ℕ) → AreFramesOf ms bytes → IsFrameOf m frame → AreFramesOf (ms ++ m ∷ []) (bytes ++ frame)
frames_more [] m bytes frame none is = (frame, ([], (ap (λ (b : List ℕ). b ++ frame) none ∙ sym (append-nil frame), (is, refl))))
frames_more (d ∷ ms) m bytes frame (first, (later, (whole, (own, are)))) is =
    (first, (later ++ frame, (ap (λ (b : List ℕ). b ++ frame) whole ∙ append_assoc first later frame, (own, frames_more ms m later frame are is))))

-- what was written of messages
abbrev pub AreWritten : List Value → Option (List ℕ) → Option (List ℕ) → Type 0
AreWritten ms old new = (bytes : List ℕ) × (AreFramesOf (map view ms) bytes × Appends old new bytes)

-- the step of a loop
pub written_more : (ms : List Value) (i : ℕ) (m : Value) (a b c : Option (List ℕ)) (frame : List ℕ) → i < length ms → m ≡ get_or ms i m → IsFrameOf (view m) frame → Appends b c frame → AreWritten (take i ms) a b → AreWritten (take (i + 1) ms) a c
written_more ms i m a b c frame low at is more (bytes, (are, so_far)) =
    let front : take (i + 1) ms ≡ take i ms ++ m ∷ [] = take_more ms i m low ∙ ap (λ x. take i ms ++ x ∷ []) (sym at) in
    let viewed : map view (take (i + 1) ms) ≡ map view (take i ms) ++ view m ∷ [] = ap (map view) front ∙ map-append view (take i ms) (m ∷ []) in
    (bytes ++ frame, (subst (λ ds. AreFramesOf ds (bytes ++ frame)) (sym viewed) (frames_more (map view (take i ms)) (view m) bytes frame are is), Appends-trans a b c bytes frame so_far more))
