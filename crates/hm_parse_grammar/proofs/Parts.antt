-- The parts of names.
use Rattle.std.proofs.Common.{◌≡◌, ℕ, zero, suc, ◌+◌, ◌-◌, ◌<◌, ◌≤◌, ◌≢◌, List, length, get_or, take, drop, true, ap, arith}
use Rattle.std.specs.Str.{IsUtf8, IsCharBoundary}
use Rattle.std.proofs.lemmas.Grind.{common_steps}
use Rattle.std.proofs.lemmas.List.Sums.{suffix_len_is}
use Rattle.std.proofs.lemmas.Str.{IsUtf8-take, IsUtf8-drop, IsCharBoundary-after_ascii, IsCharBoundary-start}
use Rattle.hm_parse_grammar.specs.Tokens.{is_of_part, last_len}

pub start_is : (text : List ℕ) (n : ℕ) → n ≤ length text → ((k : ℕ) → n ≤ k → k < length text → is_of_part (get_or text k 0) ≡ true) →
    (0 < n → get_or text (n - 1) 0 ≡ 46) → n ≡ length text - last_len text
start_is text n h p q = omega (arith, suffix_len_is is_of_part text n 0 h p (λ l. ap is_of_part (q l)))

is_of_part_if : (b : ℕ) → b ≢ 46 → is_of_part b ≡ true
is_of_part_if b h = grind arith

pub one_more : (text : List ℕ) (n : ℕ) → 0 < n → get_or text (n - 1) 0 ≢ 46 →
    ((k : ℕ) → n ≤ k → k < length text → is_of_part (get_or text k 0) ≡ true) →
    (k : ℕ) → n - 1 ≤ k → k < length text → is_of_part (get_or text k 0) ≡ true
one_more text n l h p k m q = grind (arith, is_of_part_if)

pub qualifier_text : (text : List ℕ) (n : ℕ) → IsUtf8 text → 0 < n → n ≤ length text → get_or text (n - 1) 0 ≡ 46 → IsUtf8 (take (n - 1) text)
qualifier_text text n u l h e = IsUtf8-take text (n - 1) u (omega arith, λ m k. absurd (omega arith))

pub rest_is : (text : List ℕ) (n : ℕ) → n ≤ length text → take (length text - n) (drop n text) ≡ drop n text
rest_is text n h = grind (arith, common_steps)

boundary : (text : List ℕ) (n : ℕ) → IsUtf8 text → n ≤ length text → (0 < n → get_or text (n - 1) 0 ≡ 46) → IsCharBoundary text n
boundary text zero u h e = IsCharBoundary-start text u
boundary text (suc n) u h e =
    let before : n + 1 - 1 ≡ n = omega arith in
    let next : suc n ≡ n + 1 = omega arith in
    let dot : get_or text (suc n - 1) 0 ≡ 46 = e (omega arith) in
    let same : suc n - 1 ≡ n = omega arith in
    let here : get_or text n 0 ≡ 46 = rw same at dot in
    rw next (IsCharBoundary-after_ascii text n u (omega arith) (omega arith))

pub last_text : (text : List ℕ) (n : ℕ) → IsUtf8 text → n ≤ length text → (0 < n → get_or text (n - 1) 0 ≡ 46) → IsUtf8 (take (length text - n) (drop n text))
last_text text n u h e = rw (rest_is text n h) (IsUtf8-drop text n u (boundary text n u h e))
