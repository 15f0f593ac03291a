-- Fields of a header.
use Rattle.std.proofs.Common.{◌≡◌, ℕ, zero, suc, ◌+◌, ◌-◌, ◌<◌, Bool, true, false, nat_eq, List, [], ◌∷◌, ◌++◌, Option, Some, None, length, refl, sym, ap, ◌∙◌, arith, ⊎_elim, Bor}
use Rattle.std.specs.Prelude.{drop, flat_map, is_some, map, min, option_copied, option_to_list, take, codes, ◌↔◌, IsTrue}
use Rattle.std.specs.Char.{to_ascii_lowercase}
use Rattle.std.specs.List.{range_with_len}
use Rattle.std.specs.Str.{IsTrimAscii}
use Rattle.std.proofs.lemmas.Bool.{cases_Bool, false_from_ne_true, false≢true}
use Rattle.std.proofs.lemmas.Grind.{flat_map-append}
use Rattle.std.proofs.lemmas.List.{append-nil, drop_min, take_all, take_min}
use Rattle.std.proofs.lemmas.List.Sums.{position_or_len_is}
use Rattle.std.proofs.lemmas.Slice.Eq.{bytes_eq-Decides}
use Rattle.std.proofs.lemmas.Str.Ascii.{trim_ascii_is}
use Rattle.memchr.specs.Find.{IsFirstByte, is_byte}
use Rattle.hm_lsp_frames.specs.Headers.{first_line, is_length, length_of, only_number, trimmed_end, trimmed_start, value_at, value_of, values_of}

abbrev is_newline : ℕ → Bool
is_newline b = nat_eq b 10

pub line_found : (bytes : List ℕ) (k : ℕ) → IsFirstByte (is_byte 10) bytes (Some k) → take k bytes ≡ first_line bytes
line_found bytes k h =
    let first = h.0 in
    let high = first.high in
    let low = first.before in
    ap (λ (n : ℕ). take n bytes) (sym (position_or_len_is is_newline bytes k 0 (omega (arith, high)) (λ i l. false_from_ne_true _ (low i (omega arith) l)) (λ _. h.1)))

pub line_whole : (bytes : List ℕ) → IsFirstByte (is_byte 10) bytes None → bytes ≡ first_line bytes
line_whole bytes h =
    sym (take_all (length bytes) bytes (omega arith))
    ∙ ap (λ (n : ℕ). take n bytes) (sym (position_or_len_is is_newline bytes (length bytes) 0 (omega arith) (λ i l. false_from_ne_true _ (h i (omega arith) l)) (λ l. absurd (let no : ⊥ = omega (arith, l) in no))))

pub length_named : (bytes part : List ℕ) (r : Bool) → part ≡ take (min 15 (length bytes)) bytes
    → (IsTrue r ↔ (map to_ascii_lowercase part ≡ map to_ascii_lowercase (codes "content-length:"))) → r ≡ is_length bytes
length_named bytes part r is test =
    let name : List ℕ = codes "content-length:" in
    let first : map to_ascii_lowercase part ≡ map to_ascii_lowercase (take 15 bytes) = ap (map to_ascii_lowercase) (is ∙ take_min 15 bytes) in
    let both = bytes_eq-Decides (map to_ascii_lowercase (take 15 bytes)) name in
    ⊎_elim (λ (t : r ≡ true). t ∙ sym (both.1 (sym first ∙ test.0 t)))
    (λ (f : r ≡ false). f ∙ sym (false_from_ne_true (is_length bytes) (λ t. false≢true (sym f ∙ test.1 (first ∙ both.0 t)))))
    (cases_Bool r)

pub value_found : (bytes part line value : List ℕ) → part ≡ drop (min 15 (length bytes)) bytes → line ≡ first_line part → IsTrimAscii line value → value ≡ value_of bytes
value_found bytes part line value is ends trimmed =
    trim_ascii_is line value (trimmed_start line) refl trimmed ∙ ap (λ (l : List ℕ). trimmed_end (trimmed_start l)) (ends ∙ ap first_line (is ∙ drop_min 15 bytes))

range_append : (a m n : ℕ) → range_with_len a (m + n) ≡ range_with_len a m ++ range_with_len (a + m) n
range_append a zero n =
    let count : 0 + n ≡ n = omega arith in
    let place : a ≡ a + 0 = omega arith in
    ap (range_with_len a) count ∙ ap (λ (k : ℕ). range_with_len k n) place
range_append a (suc m) n =
    let count : suc m + n ≡ suc (m + n) = omega arith in
    let place : a + 1 + m ≡ a + suc m = omega arith in
    ap (range_with_len a) count ∙ ap (λ (l : List ℕ). a ∷ l) (range_append (a + 1) m n ∙ ap (λ (k : ℕ). range_with_len (a + 1) m ++ range_with_len k n) place)

abbrev values_between : List ℕ → ℕ → ℕ → List (List ℕ)
values_between header a n = flat_map (λ k. option_to_list (value_at header k)) (range_with_len a n)

values_append : (header : List ℕ) (a m n : ℕ) → values_between header a (m + n) ≡ values_between header a m ++ values_between header (a + m) n
values_append header a m n =
    ap (flat_map (λ k. option_to_list (value_at header k))) (range_append a m n) ∙ flat_map-append _ (range_with_len a m) (range_with_len (a + m) n)

pub values_more : (header : List ℕ) (at : ℕ) (r : Option (List ℕ)) (vs : List (List ℕ)) → values_between header 0 at ≡ vs → r ≡ value_at header at
    → values_between header 0 (at + 1) ≡ vs ++ option_to_list r
values_more header at r vs before is =
    let place : 0 + at ≡ at = omega arith in
    let one : values_between header (0 + at) 1 ≡ option_to_list r =
    ap (λ (k : ℕ). values_between header k 1) place ∙ append-nil (option_to_list (value_at header at)) ∙ ap option_to_list (sym is) in
    values_append header 0 at 1 ∙ ap (λ (l : List (List ℕ)). l ++ values_between header (0 + at) 1) before ∙ ap (λ (l : List (List ℕ)). vs ++ l) one

pub two_values : (header : List ℕ) (at : ℕ) (v w : List ℕ) → at < length header → values_between header 0 at ≡ v ∷ [] → Some w ≡ value_at header at → None ≡ length_of header
two_values header at v w low before is =
    let more : ℕ = length header - (at + 1) in
    let count : length header ≡ (at + 1) + more = omega arith in
    let rest : List (List ℕ) = values_between header (0 + (at + 1)) more in
    let both : values_between header 0 (at + 1) ≡ v ∷ w ∷ [] = values_more header at (Some w) (v ∷ []) before is in
    let all : values_of header ≡ v ∷ w ∷ rest =
    ap (values_between header 0) count ∙ values_append header 0 (at + 1) more ∙ ap (λ (l : List (List ℕ)). l ++ rest) both in
    sym (ap only_number all)

pub second_value : (header : List ℕ) (at : ℕ) (found : Option (Bor (List ℕ))) (w : List ℕ) → at < length header → values_between header 0 at ≡ option_to_list (option_copied found)
    → is_some found ≡ true → Some w ≡ value_at header at → None ≡ length_of header
second_value header at None w low before some is = absurd (false≢true some)
second_value header at (Some v) w low before some is = two_values header at v.now w low before is

pub no_value : (header : List ℕ) (at : ℕ) (found new : Option (Bor (List ℕ))) → values_between header 0 at ≡ option_to_list (option_copied found) → None ≡ value_at header at
    → new ≡ found → values_between header 0 (at + 1) ≡ option_to_list (option_copied new)
no_value header at found new before is same =
    values_more header at None (option_to_list (option_copied found)) before is ∙ append-nil _ ∙ ap (λ (o : Option (Bor (List ℕ))). option_to_list (option_copied o)) (sym same)

pub first_value : (header : List ℕ) (at : ℕ) (found new : Option (Bor (List ℕ))) (v : Bor (List ℕ)) → values_between header 0 at ≡ option_to_list (option_copied found)
    → is_some found ≡ false → Some v.now ≡ value_at header at → new ≡ Some v → values_between header 0 (at + 1) ≡ option_to_list (option_copied new)
first_value header at None new v before none is same =
    values_more header at (Some v.now) [] before is ∙ ap (λ (o : Option (Bor (List ℕ))). option_to_list (option_copied o)) (sym same)
first_value header at (Some w) new v before none is same = absurd (false≢true (sym none))
