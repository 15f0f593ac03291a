-- Decimal numbers in fields.
use Rattle.std.proofs.Common.{◌≡◌, ℕ, ◌+◌, ◌*◌, ◌-◌, ◌^◌, ◌<◌, ◌≤◌, true, false, nat_lt, ◌&&◌, List, Some, None, length, take, get_or, sym, ap, ◌∙◌, arith, ⊎_elim}
use Rattle.std.specs.Char.{digit_value, is_ascii_digit}
use Rattle.std.specs.List.{list_all}
use Rattle.std.specs.Str.Parse.{digits_value}
use Rattle.std.proofs.lemmas.Bool.{cases_Bool, cond-true, cond-false, false≢true, and_from, and_parts, leb-true, lt-ltb, ltb-true}
use Rattle.std.proofs.lemmas.List.{take_all}
use Rattle.std.proofs.lemmas.List.Sums.{AllPass-from_list_all}
use Rattle.std.proofs.lemmas.Int.Digits.{digits_value_more}
use Rattle.std.proofs.lemmas.List.Folds.{list_all_more}
use Rattle.std.proofs.lemmas.Str.{digit_value_digit}
use Rattle.std.proofs.lemmas.Str.Parse.{digits_value-take-le}
use Rattle.hm_lsp_frames.specs.Headers.{is_number, number_of}

pub number_some : (v : List ℕ) (n : ℕ) → 0 < length v → list_all is_ascii_digit v ≡ true → n ≡ digits_value 10 v → n < 2 ^ 64 → Some n ≡ number_of v
number_some v n some digits is small =
    let low : digits_value 10 v < 2 ^ 64 = rw (sym is) small in
    let all : is_number v ≡ true = and_from _ _ (lt-ltb _ _ some) (and_from _ _ digits (lt-ltb _ _ low)) in
    ap Some is ∙ sym (cond-true _ _ _ all)

number_none : (v : List ℕ) → (is_number v ≡ true → ⊥) → None ≡ number_of v
number_none v h = ⊎_elim (λ t. absurd (h t)) (λ f. sym (cond-false _ _ _ f)) (cases_Bool (is_number v))

pub number_empty : (v : List ℕ) → length v ≡ 0 → None ≡ number_of v
number_empty v h = number_none v (λ t. let parts = and_parts _ _ t in let some = ltb-true 0 (length v) parts.0 in let no : ⊥ = omega (arith, some, h) in no)

pub number_other : (v : List ℕ) (i : ℕ) → i < length v → is_ascii_digit (get_or v i 0) ≡ false → None ≡ number_of v
number_other v i low h =
    number_none v (λ t.
    let parts = and_parts _ _ t in
    let digits = and_parts _ _ parts.1 in
    let all = AllPass-from_list_all is_ascii_digit v digits.0 in
    absurd (false≢true (sym h ∙ all i 0 low)))

pub number_large : (v : List ℕ) (i : ℕ) → 2 ^ 64 ≤ digits_value 10 (take i v) → None ≡ number_of v
number_large v i h =
    number_none v (λ t.
    let parts = and_parts (nat_lt 0 (length v)) (list_all is_ascii_digit v && nat_lt (digits_value 10 v) (2 ^ 64)) t in
    let digits = and_parts (list_all is_ascii_digit v) (nat_lt (digits_value 10 v) (2 ^ 64)) parts.1 in
    let small : digits_value 10 v < 2 ^ 64 = ltb-true (digits_value 10 v) (2 ^ 64) digits.1 in
    let less = digits_value-take-le 10 v i (omega arith) in
    let no : ⊥ = omega (arith, small, less, h) in
    no)

pub digit_is : (c : ℕ) → is_ascii_digit c ≡ true → digit_value c ≡ c - 48
digit_is c t =
    let parts = and_parts _ _ t in
    let low : 48 ≤ c = leb-true _ _ parts.0 in
    let high : c ≤ 57 = leb-true _ _ parts.1 in
    let same = digit_value_digit c (low, high) in
    omega (arith, same)

-- the number of the digits up to this one
pub digit_more : (v : List ℕ) (i n d : ℕ) → i < length v → is_ascii_digit (get_or v i 0) ≡ true → n ≡ digits_value 10 (take i v) → d ≡ n * 10 + (get_or v i 0 - 48)
    → d ≡ digits_value 10 (take (i + 1) v)
digit_more v i n d low test is sum =
    let more = digits_value_more 10 v i low in
    let digit = digit_is (get_or v i 0) test in
    omega (arith, more, digit, is, sum)

pub digits_more : (v : List ℕ) (i : ℕ) → i < length v → is_ascii_digit (get_or v i 0) ≡ true → list_all is_ascii_digit (take i v) ≡ true
    → list_all is_ascii_digit (take (i + 1) v) ≡ true
digits_more v i low test before = list_all_more is_ascii_digit v i 0 low ∙ and_from _ _ before test

pub number_whole : (v : List ℕ) (i n : ℕ) → length v ≤ i → 0 < length v → list_all is_ascii_digit (take i v) ≡ true → n ≡ digits_value 10 (take i v) → n < 2 ^ 64
    → Some n ≡ number_of v
number_whole v i n ends some digits is small =
    let whole = take_all i v ends in
    number_some v n some (ap (list_all is_ascii_digit) (sym whole) ∙ digits) (is ∙ ap (digits_value 10) whole) small
