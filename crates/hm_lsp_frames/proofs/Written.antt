-- A body that is written is read back.
use Rattle.std.proofs.Common.{◌≡◌, ℕ, zero, suc, ◌+◌, ◌-◌, ◌^◌, ◌<◌, ◌≤◌, Bool, true, false, nat_eq, nat_le, ◌⊎◌, ◌&&◌, List, [], ◌∷◌, ◌++◌, Option, Some, None, codes, drop, get_or, length, take, refl, sym, ap, ◌∙◌, arith, inl, inr, ⊎_elim}
use Rattle.std.proofs.Common.{append_assoc}
use Rattle.std.specs.Prelude.{flat_map, option_to_list}
use Rattle.std.specs.Char.{is_ascii_digit, is_ascii_whitespace}
use Rattle.std.specs.Fmt.{decimal}
use Rattle.std.specs.List.{list_all, prefix_len, range_with_len, suffix_len}
use Rattle.std.specs.Str.Parse.{AllDigits, digits_value}
use Rattle.std.proofs.lemmas.Bool.{and_from, and_parts, cases_lt, cond-false, cond-true, eqb-true, false_from_ne_true, le-leb, leb-true, or_from}
use Rattle.std.proofs.lemmas.Fmt.{decimal_nonempty, digits_decimal, digits_value-decimal, length-decimal-le}
use Rattle.std.proofs.lemmas.List.{drop-append-le, drop_all, get_or-append-add, get_or-take, get_or_append_left, get_or_default, get_or_past, length-append, length-take, take-append-le, take_all}
use Rattle.std.proofs.lemmas.List.Sums.{AllPass-from_list_all, list_all-from_AllPass, position_or_len_is, prefix_len_is, suffix_len_is}
use Rattle.std.proofs.lemmas.Str.Parse.{IsNumeralModel, digit_from_value}
use Rattle.memchr.specs.Find.{NoneBefore, OccursAt}
use Rattle.memchr.proofs.lemmas.ValueLemmas.{FindsNeedle-value}
use Rattle.hm_lsp_frames.specs.Frames.{Item, body, empty_line, end_of, first_frame, framed, kept, most_body, most_read}
use Rattle.hm_lsp_frames.specs.Headers.{first_line, is_length, is_start, length_of, only_number, trimmed_end, trimmed_start, value_at, values_of}
use Rattle.hm_lsp_frames.proofs.Looks.{sized_frame}
use Rattle.hm_lsp_frames.proofs.Numbers.{number_some}

own : IsNumeralModel (AllDigits 10) (digits_value 10)
own = record { to = λ ds h. h; from = λ ds h. h; same = λ ds h. refl }

-- each byte is a digit
abbrev Digits : List ℕ → Type 0
Digits ds = (i : ℕ) → i < length ds → (48 ≤ get_or ds i 0) × (get_or ds i 0 ≤ 57)

digits_from : (ds : List ℕ) → AllDigits 10 ds → Digits ds
digits_from [] h = λ i low. let never : ⊥ = omega (arith, low) in absurd never
digits_from (d ∷ ds) h = λ i low. go (digits_from ds h.1) i low
  where
    go : Digits ds → (i : ℕ) → i < length (d ∷ ds) → (48 ≤ get_or (d ∷ ds) i 0) × (get_or (d ∷ ds) i 0 ≤ 57)
    go later zero low = digit_from_value d h.0
    go later (suc i) low = later i (omega (arith, low))

not_white : (b : ℕ) → 33 ≤ b → is_ascii_whitespace b ≡ false
not_white b low =
    or_from _ _ (or_from _ _ (high 9 10 b (omega arith)) (high 12 13 b (omega arith))) (high 32 32 b (omega arith))
  where
    high : (lo hi b : ℕ) → hi < b → (nat_le lo b && nat_le b hi) ≡ false
    high lo hi b l = false_from_ne_true _ (λ t. let parts = and_parts (nat_le lo b) (nat_le b hi) t in let less : b ≤ hi = leb-true b hi parts.1 in let never : ⊥ = omega (arith, less, l) in never)

trimmed_plain : (ds : List ℕ) → 0 < length ds → Digits ds → trimmed_end (trimmed_start (32 ∷ ds)) ≡ ds
trimmed_plain ds some digits =
    let first : prefix_len is_ascii_whitespace ds ≡ 0 =
    prefix_len_is is_ascii_whitespace ds 0 0 (omega arith) (λ k low. let never : ⊥ = omega (arith, low) in absurd never) (λ low. not_white (get_or ds 0 0) (let d = (digits 0 low).0 in omega (arith, d))) in
    let start : trimmed_start (32 ∷ ds) ≡ ds = ap (λ (n : ℕ). drop (1 + n) (32 ∷ ds)) first in
    let last : suffix_len is_ascii_whitespace ds ≡ length ds - length ds =
    suffix_len_is is_ascii_whitespace ds (length ds) 0 (omega arith) (λ k low high. let never : ⊥ = omega (arith, low, high) in absurd never)
    (λ l. not_white (get_or ds (length ds - 1) 0) (let d = (digits (length ds - 1) (omega (arith, l))).0 in omega (arith, d))) in
    ap trimmed_end start ∙ take_all (length ds - suffix_len is_ascii_whitespace ds) ds (omega (arith, last))

line_plain : (ds : List ℕ) → Digits ds → first_line (32 ∷ ds) ≡ 32 ∷ ds
line_plain ds digits =
    let all : List ℕ = 32 ∷ ds in
    let place = position_or_len_is (λ b. nat_eq b 10) all (length all) 0 (omega arith) (λ k low. false_from_ne_true _ (λ t. other k low (eqb-true _ 10 t))) (λ low. let never : ⊥ = omega (arith, low) in absurd never) in
    ap (λ (n : ℕ). take n all) place ∙ take_all (length all) all (omega arith)
  where
    other : (k : ℕ) → k < length (32 ∷ ds) → get_or (32 ∷ ds) k 0 ≡ 10 → ⊥
    other zero low same = let never : ⊥ = omega (arith, same) in never
    other (suc k) low same = let d = (digits k (omega (arith, low))).0 in let never : ⊥ = omega (arith, same, d) in never

abbrev name : List ℕ
name = codes "Content-Length: "

value_written : (ds : List ℕ) → 0 < length ds → Digits ds → value_at (name ++ ds) 0 ≡ Some ds
value_written ds some digits = ap Some (ap (λ (l : List ℕ). trimmed_end (trimmed_start l)) (line_plain ds digits) ∙ trimmed_plain ds some digits)

-- a byte of the header is no line end
plain_byte : (ds : List ℕ) → Digits ds → (i : ℕ) → (get_or (name ++ ds) i 0 ≡ 0) ⊎ (32 ≤ get_or (name ++ ds) i 0)
plain_byte ds digits i =
    ⊎_elim (λ (l : i < 16).
    let all = AllPass-from_list_all (nat_le 32) name refl in
    let here : get_or (name ++ ds) i 0 ≡ get_or name i 0 = get_or_append_left name ds 0 i l in
    inr (let low : 32 ≤ get_or name i 0 = leb-true 32 (get_or name i 0) (all i 0 l) in omega (arith, here, low)))
    (λ (g : 16 ≤ i).
    let place : 16 + (i - 16) ≡ i = omega (arith, g) in
    let here : get_or (name ++ ds) i 0 ≡ get_or ds (i - 16) 0 = ap (λ (k : ℕ). get_or (name ++ ds) k 0) (sym place) ∙ get_or-append-add name ds (i - 16) 0 in
    ⊎_elim (λ (low : i - 16 < length ds). let d = (digits (i - 16) low).0 in inr (omega (arith, here, d)))
    (λ (past : length ds ≤ i - 16). inl (here ∙ get_or_past ds (i - 16) 0 past))
    (cases_lt (i - 16) (length ds)))
    (cases_lt i 16)

not_byte : (ds : List ℕ) → Digits ds → (b : ℕ) → 0 < b → b < 32 → (i : ℕ) → get_or (name ++ ds) i 0 ≡ b → ⊥
not_byte ds digits b some low i same =
    ⊎_elim (λ z. let never : ⊥ = omega (arith, z, same, some) in never) (λ h. let never : ⊥ = omega (arith, h, same, low) in never) (plain_byte ds digits i)

no_values : (h : List ℕ) → ((i : ℕ) → get_or h i 0 ≡ 10 → ⊥) → (a n : ℕ) → 0 < a → flat_map (λ k. option_to_list (value_at h k)) (range_with_len a n) ≡ []
no_values h none a zero some = refl
no_values h none a (suc n) some =
    let first : nat_eq a 0 ≡ false = false_from_ne_true _ (λ t. let z = eqb-true a 0 t in let never : ⊥ = omega (arith, z, some) in never) in
    let start : is_start h a ≡ false = or_from _ _ first (false_from_ne_true _ (λ t. none (a - 1) (eqb-true _ 10 t))) in
    let here : value_at h a ≡ None = cond-false _ _ _ (ap (λ (b : Bool). b && is_length (drop a h)) start) in
    ap (λ (o : Option (List ℕ)). option_to_list o ++ flat_map (λ k. option_to_list (value_at h k)) (range_with_len (a + 1) n)) here ∙ no_values h none (a + 1) n (omega arith)

values_written : (ds : List ℕ) → 0 < length ds → Digits ds → values_of (name ++ ds) ≡ ds ∷ []
values_written ds some digits =
    let h : List ℕ = name ++ ds in
    let size = length-append name ds in
    let count : length h ≡ suc (length h - 1) = omega (arith, size) in
    ap (λ (n : ℕ). flat_map (λ k. option_to_list (value_at h k)) (range_with_len 0 n)) count
    ∙ ap (λ (o : Option (List ℕ)). option_to_list o ++ flat_map (λ k. option_to_list (value_at h k)) (range_with_len (0 + 1) (length h - 1))) (value_written ds some digits)
    ∙ ap (λ (l : List (List ℕ)). ds ∷ l) (no_values h (not_byte ds digits 10 (omega arith) (omega arith)) (0 + 1) (length h - 1) (omega arith))

digit_test : (ds : List ℕ) → Digits ds → list_all is_ascii_digit ds ≡ true
digit_test ds digits = list_all-from_AllPass is_ascii_digit ds (λ i d low. ap is_ascii_digit (get_or_default ds i d 0 low) ∙ and_from _ _ (le-leb 48 _ (digits i low).0) (le-leb _ 57 (digits i low).1))

decimal_digits : (n : ℕ) → n < 2 ^ 64 → Digits (decimal n)
decimal_digits n low = digits_from (decimal n) (digits_decimal own n low)

length_written : (n : ℕ) → n < 2 ^ 64 → length_of (name ++ decimal n) ≡ Some n
length_written n low =
    let ds : List ℕ = decimal n in
    let digits = decimal_digits n low in
    let some = decimal_nonempty n low in
    ap only_number (values_written ds some digits) ∙ sym (number_some ds n some (digit_test ds digits) (sym (digits_value-decimal own n low)) low)

end_written : (ds rest : List ℕ) → length ds ≤ 20 → Digits ds → end_of ((name ++ ds) ++ (empty_line ++ rest)) ≡ Some (length (name ++ ds))
end_written ds rest short digits =
    let h : List ℕ = name ++ ds in
    let s : List ℕ = h ++ (empty_line ++ rest) in
    let w : List ℕ = take most_read s in
    let k : ℕ = length h in
    let size = length-append name ds in
    let whole = length-append h (empty_line ++ rest) in
    let ends = length-append empty_line rest in
    let window = length-take most_read s in
    let front : (i : ℕ) → i < k → get_or w i 0 ≡ get_or h i 0 = λ i l. get_or-take most_read s i 0 (omega (arith, l, size, short)) ∙ get_or_append_left h (empty_line ++ rest) 0 i l in
    let back : (i : ℕ) → i < 4 → get_or w (k + i) 0 ≡ get_or empty_line i 0 = λ i l.
    get_or-take most_read s (k + i) 0 (omega (arith, l, size, short)) ∙ get_or-append-add h (empty_line ++ rest) i 0 ∙ get_or_append_left empty_line rest 0 i l in
    let before : NoneBefore (OccursAt w empty_line) 0 (length w + 1) k = record {
      low = omega arith;
      high = omega (arith, window, whole, size, short);
      before = λ j low less occurs.
          let same : j ≡ j + 0 = omega arith in
          not_byte ds digits 13 (omega arith) (omega arith) j (sym (front j less) ∙ ap (λ (i : ℕ). get_or w i 0) same ∙ occurs.reads 0 (omega arith));
    } in
    let here : OccursAt w empty_line k = record { fits = omega (arith, window, whole, ends, size, short); reads = back } in
    sym (FindsNeedle-value w empty_line (Some k) (before, here))

pub read_back : (bytes after : List ℕ) → length bytes ≤ most_body → first_frame (framed bytes ++ after) ≡ Some (body bytes, after)
read_back bytes after short =
    let n : ℕ = length bytes in
    let low : n < 2 ^ 64 = omega (arith, short) in
    let ds : List ℕ = decimal n in
    let few : length ds ≤ 20 = let few = length-decimal-le 8 n (omega arith) (omega (arith, short)) low in omega (arith, few) in
    let digits = decimal_digits n low in
    let h : List ℕ = name ++ ds in
    let rest : List ℕ = bytes ++ after in
    let k : ℕ = length h in
    let s : List ℕ = h ++ (empty_line ++ rest) in
    let parts : framed bytes ++ after ≡ s =
    ap (λ (l : List ℕ). name ++ l) (append_assoc ds (empty_line ++ bytes) after) in
    let end = end_written ds rest few digits in
    let header : take k s ≡ h = take-append-le k h (empty_line ++ rest) (omega arith) ∙ take_all k h (omega arith) in
    let joined : s ≡ (h ++ empty_line) ++ rest = sym (append_assoc h empty_line rest) in
    let long = length-append h empty_line in
    let back : drop (k + 4) s ≡ rest =
    ap (drop (k + 4)) joined ∙ drop-append-le (k + 4) (h ++ empty_line) rest (omega (arith, long)) ∙ ap (λ (l : List ℕ). l ++ rest) (drop_all (k + 4) (h ++ empty_line) (omega (arith, long))) in
    let is_body : kept bytes ≡ body bytes = cond-true _ _ _ (le-leb n most_body short) in
    ap first_frame parts ∙ sized_frame s bytes after k n end (sym (ap length_of header ∙ length_written n low)) back refl ∙ ap (λ (i : Item). Some (i, after)) is_body
