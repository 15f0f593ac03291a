-- What is shown of a text, piece by piece.
use Rattle.std.proofs.Common.{◌≡◌, ℕ, zero, suc, ◌+◌, ◌-◌, ◌<◌, ◌≤◌, Option, Some, None, List, [], ◌∷◌, ◌++◌, length, drop, get_or, refl, sym, ap, ◌∙◌, arith, append_assoc}
use Rattle.std.proofs.lemmas.List.{drop-drop, length-drop}
use Rattle.bstr.specs.Utf8.{decoded}
use Rattle.bstr.proofs.lemmas.PieceLemmas.{piece-bounds, size-within}
use Rattle.hm_messages_excerpts.specs.Escapes.{piece_size, piece_text, shown, shown_after, size_of}

pub shown_behind : (n : ℕ) (bs : List ℕ) → shown_after n bs ≡ shown (drop n bs)
unfolding shown_after
shown_behind zero bs = refl
shown_behind (suc n) [] = refl
shown_behind (suc n) (b ∷ bs) = shown_behind n bs

pub size_low : (char : Option ℕ) (size : ℕ) → 1 ≤ size → 1 ≤ size_of char size
size_low None size low = omega arith
size_low (Some c) size low = low

pub size_high : (char : Option ℕ) (size most : ℕ) → 1 ≤ most → size ≤ most → size_of char size ≤ most
size_high None size most some low = some
size_high (Some c) size most some low = low

pub piece_some : (bs : List ℕ) → 0 < length bs → 1 ≤ piece_size (decoded bs)
piece_some bs some = size_low (decoded bs).char (decoded bs).size (piece-bounds bs some).0

pub piece_within : (bs : List ℕ) → 0 < length bs → piece_size (decoded bs) ≤ length bs
piece_within bs some = size_high (decoded bs).char (decoded bs).size (length bs) (omega (arith, some)) (size-within bs)

drop_tail : (n b : ℕ) (bs : List ℕ) → 1 ≤ n → drop (n - 1) bs ≡ drop n (b ∷ bs)
drop_tail zero b bs low = absurd (omega (arith, low))
drop_tail (suc n) b bs low = ap (λ (k : ℕ). drop k bs) (omega arith)

pub shown_step : (bs : List ℕ) → 0 < length bs → shown bs ≡ piece_text (decoded bs).char (get_or bs 0 0) ++ shown (drop (piece_size (decoded bs)) bs)
unfolding shown_after
shown_step [] some = absurd (omega (arith, some))
shown_step (b ∷ bs) some =
    let piece = decoded (b ∷ bs) in
    ap (λ (l : List ℕ). piece_text piece.char b ++ l) (shown_behind (piece_size piece - 1) bs ∙ ap shown (drop_tail (piece_size piece) b bs (piece_some (b ∷ bs) some)))

pub size_fits : (bs : List ℕ) → (decoded bs).size ≤ length bs
size_fits = size-within

pub shown_nil : shown [] ≡ []
unfolding shown_after
shown_nil = refl

-- one more piece of a text
pub piece_more : (bytes : List ℕ) (start size : ℕ) (old new : List ℕ) → start < length bytes → size ≡ piece_size (decoded (drop start bytes)) → new ≡ old ++ piece_text (decoded (drop start bytes)).char (get_or (drop start bytes) 0 0)
    → old ++ shown (drop start bytes) ≡ shown bytes → new ++ shown (drop (start + size) bytes) ≡ shown bytes
piece_more bytes start size old new inside size_is new_is so_far =
    let rest : List ℕ = drop start bytes in
    let piece : List ℕ = piece_text (decoded rest).char (get_or rest 0 0) in
    let some : 0 < length rest = omega (arith, inside, length-drop start bytes) in
    let behind : drop (start + size) bytes ≡ drop (piece_size (decoded rest)) rest = sym (drop-drop size start bytes) ∙ ap (λ (n : ℕ). drop n rest) size_is in
    ap (λ (l : List ℕ). l ++ shown (drop (start + size) bytes)) new_is
    ∙ append_assoc old piece (shown (drop (start + size) bytes))
    ∙ ap (λ (l : List ℕ). old ++ l) (ap (λ (l : List ℕ). piece ++ shown l) behind ∙ sym (shown_step rest some))
    ∙ so_far

pub piece_fits : (bytes : List ℕ) (start size : ℕ) → start < length bytes → size ≡ piece_size (decoded (drop start bytes)) → (1 ≤ size) × (start + size ≤ length bytes)
piece_fits bytes start size inside size_is =
    let rest : List ℕ = drop start bytes in
    let some : 0 < length rest = omega (arith, inside, length-drop start bytes) in
    (omega (arith, size_is, piece_some rest some), omega (arith, size_is, piece_within rest some, length-drop start bytes))
