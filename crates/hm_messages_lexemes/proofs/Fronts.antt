-- Lexemes at the front of some bytes, by the lengths of runs.
use Rattle.std.proofs.Common.{◌≡◌, ◌≢◌, ◌∙◌, ℕ, suc, ◌+◌, ◌<◌, ◌≤◌, Bool, List, [], ◌∷◌, ◌++◌, length, take, drop, get_or, refl, sym, ap, subst, append_assoc, arith, length-take-le, length-drop}
use Rattle.std.proofs.lemmas.List.{take_more, drop-drop}
use Rattle.std.specs.Prelude.{IsTrue}
use Rattle.std.specs.List.{AllByRecursion, prefix_len}
use Rattle.hm_lex.specs.Bytes.{is_digit, is_name_byte, is_symbol}
use Rattle.hm_lex.specs.Runs.{FirstFails, IsRunOf}
use Rattle.hm_lex.specs.Symbols.{IsDashes, is_dash}
use Rattle.hm_lex.proofs.NameRuns.{take_on}
use Rattle.hm_lex.proofs.Prefix.{begins_take, prefix_from, run_bound, run_le, run_passes, run_stops}
use Rattle.hm_messages_lexemes.specs.Lexemes.{IsBackquoted, IsFractionBefore, IsOperatorBefore, is_dotted}

run_of : (test : ℕ → Bool) (t : List ℕ) → 0 < length t → AllByRecursion (λ b. IsTrue (test b)) t → IsRunOf test t
run_of test [] n a = absurd (omega (arith, n))
run_of test (b ∷ bs) n a = a

all_of : (test : ℕ → Bool) (t : List ℕ) → IsRunOf test t → AllByRecursion (λ b. IsTrue (test b)) t
all_of test [] a = absurd a
all_of test (b ∷ bs) a = a

-- a run that isn't empty
run_at : (test : ℕ → Bool) (bytes : List ℕ) (n : ℕ) → n ≡ prefix_len test bytes → n ≢ 0 → IsRunOf test (take n bytes)
run_at test bytes n e some =
    let within : n ≤ length bytes = omega (arith, e, run_le test bytes) in
    run_of test (take n bytes) (omega (arith, some, length-take-le n bytes within)) (subst (λ (k : ℕ). AllByRecursion (λ b. IsTrue (test b)) (take k bytes)) (sym e) (run_passes test bytes))

pub few_dashes : (bytes : List ℕ) (len dashes : ℕ) → dashes ≡ prefix_len is_dash bytes → len ≤ length bytes → dashes < len → IsDashes (take len bytes) → ⊥
few_dashes bytes len dashes e within few h =
    let bound : length (take len bytes) ≤ prefix_len is_dash bytes = run_bound is_dash (take len bytes) bytes (all_of is_dash (take len bytes) h.0) (prefix_from (take len bytes) bytes (begins_take len bytes)) in
    omega (arith, e, few, bound, length-take-le len bytes within)

pub short_dashes : (bytes : List ℕ) (len : ℕ) → len < 2 → len ≤ length bytes → IsDashes (take len bytes) → ⊥
short_dashes bytes len few within h = omega (arith, few, h.1, length-take-le len bytes within)

pub operator_of : (bytes : List ℕ) (n : ℕ) → n ≡ prefix_len is_symbol bytes → n ≢ 0 → (IsDashes (take n bytes) → ⊥) → IsOperatorBefore (take n bytes) (drop n bytes)
operator_of bytes n e some none =
    (run_at is_symbol bytes n e some, subst (λ (k : ℕ). FirstFails is_symbol (drop k bytes)) (sym e) (run_stops is_symbol bytes), none)

pub backquoted_of : (bytes : List ℕ) (n : ℕ) → 0 < length bytes → get_or bytes 0 0 ≡ 96 → n ≡ prefix_len is_dotted (drop 1 bytes) → n ≢ 0 → n + 1 < length bytes → get_or bytes (n + 1) 0 ≡ 96
    → IsBackquoted (take (n + 2) bytes)
backquoted_of [] n more first e some within last = absurd (omega (arith, more))
backquoted_of (b ∷ bs) n more first e some within last =
    let inside : n < length bs = omega (arith, within) in
    let two : n + 2 ≡ suc (n + 1) = omega arith in
    let one : n + 1 ≡ suc n = omega arith in
    let closed : get_or bs n 0 ≡ 96 = ap (λ (k : ℕ). get_or (b ∷ bs) k 0) (sym one) ∙ last in
    let front : take (n + 1) bs ≡ take n bs ++ 96 ∷ [] = take_more bs n 0 inside ∙ ap (λ (c : ℕ). take n bs ++ c ∷ []) closed in
    let all : take (n + 2) (b ∷ bs) ≡ b ∷ take (n + 1) bs = ap (λ (k : ℕ). take k (b ∷ bs)) two in
    (take n bs, run_at is_dotted bs n e some, all ∙ (ap (λ (l : List ℕ). b ∷ l) front ∙ ap (λ (c : ℕ). c ∷ (take n bs ++ 96 ∷ [])) first))

pub fraction_of : (bytes : List ℕ) (whole part : ℕ) → whole ≡ prefix_len is_digit bytes → whole ≢ 0 → whole < length bytes → get_or bytes whole 0 ≡ 46
    → part ≡ prefix_len is_digit (drop (whole + 1) bytes) → part ≢ 0 → FirstFails is_name_byte (drop (whole + 1 + part) bytes)
    → IsFractionBefore (take (whole + 1 + part) bytes) (drop (whole + 1 + part) bytes)
fraction_of bytes whole part e some within dot f more ends = (
  take whole bytes,
  take part (drop (whole + 1) bytes),
  run_at is_digit bytes whole e some,
  run_at is_digit (drop (whole + 1) bytes) part f more,
  take_on (whole + 1) part bytes
      ∙ (ap (λ (l : List ℕ). l ++ take part (drop (whole + 1) bytes)) (take_more bytes whole 0 within ∙ ap (λ (c : ℕ). take whole bytes ++ c ∷ []) dot)
      ∙ append_assoc (take whole bytes) (46 ∷ []) (take part (drop (whole + 1) bytes))),
  ends,
)
