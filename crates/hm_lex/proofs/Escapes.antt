-- Items of strings: what the code computes is what the grammar says.
use Rattle.std.proofs.Common.{◌≡◌, ◌≢◌, ℕ, suc, ◌+◌, ◌<◌, ◌≤◌, Bool, true, false, eqb, List, [], ◌∷◌, ◌++◌, length, get_or, take, drop, Option, Some, None, refl, sym, ap, ◌∙◌, subst, inl, inr, arith, append_assoc, length-append}
use Rattle.std.specs.Prelude.{nat_le, nat_lt}
use Rattle.std.specs.List.{prefix_len}
use Rattle.std.specs.Str.Parse.{digits_value}
use Rattle.std.proofs.lemmas.Bool.{eqb-true, eq-eqb, false≢true, ltb-true, leb-true, le-leb, cases_lt}
use Rattle.std.proofs.lemmas.List.{take_more, get_or_past}
use Rattle.hm_lex.specs.Bytes.{class_of, is_digit, is_white, is_octal_digit, is_hexadecimal_digit}
use Rattle.hm_lex.specs.Runs.{IsRunOf, FirstFails}
use Rattle.hm_lex.specs.Quotes.{IsEscape, IsNumericEscape, IsGap, max_code}
use Rattle.hm_lex.specs.Nesting.{plus}
use Rattle.hm_lex.specs.Quoting.{numeric_len, is_simple, escape_len, gap_len, marked_len, string_item_len, IsByteItem, IsPlainByte}
use Rattle.hm_lex.proofs.Prefix.{IsPrefix, run_whole, run_stops, run_begins, run_none}
use Rattle.hm_lex.proofs.OneShape.{all_of}
use Rattle.hm_lex.proofs.Digits.{no_simple_digit, plain_digit, plain_simple, no_white_38, white_92}

pub plus_some : (k : ℕ) (o : Option ℕ) (n : ℕ) → plus k o ≡ Some n → (m : ℕ) × (o ≡ Some m) × (n ≡ k + m)
plus_some k None n e = absurd (let f : None ≡ Some n = e in cc)
plus_some k (Some m) n e = (m, refl, (let f : Some (k + m) ≡ Some n = e in cc))

-- a front begins with the bytes, and holds them
pub take_front : (t rest bytes : List ℕ) → IsPrefix (t ++ rest) bytes → take (length t) bytes ≡ t
take_front [] rest bytes p = refl
take_front (x ∷ xs) rest [] p = absurd p
take_front (x ∷ xs) rest (y ∷ ys) p = let heads : x ≡ y = p.0 in let tails = take_front xs rest ys p.1 in cc

front_first : (b : ℕ) (rest bytes : List ℕ) → IsPrefix (b ∷ rest) bytes → (bs : List ℕ) × (bytes ≡ b ∷ bs) × IsPrefix rest bs
front_first b rest [] p = absurd p
front_first b rest (y ∷ ys) p = (ys, ap (λ (x : ℕ). x ∷ ys) (sym p.0), p.1)

first_of_front : (test : ℕ → Bool) (t bytes : List ℕ) → 0 < length t → IsPrefix t bytes → FirstFails test bytes → FirstFails test t
first_of_front test [] bytes some p f = tt
first_of_front test (x ∷ xs) [] some p f = absurd p
first_of_front test (x ∷ xs) (y ∷ ys) some p f = ap test p.0 ∙ f

run_positive : (test : ℕ → Bool) (bytes : List ℕ) → 0 < prefix_len test bytes → IsRunOf test (take (prefix_len test bytes) bytes)
run_positive test [] some = absurd (omega arith)
run_positive test (b ∷ bs) some = go (test b) refl
  where
    go : (x : Bool) → test b ≡ x → IsRunOf test (take (prefix_len test (b ∷ bs)) (b ∷ bs))
    go true e = run_begins test b bs e
    go false e = absurd (omega (arith, run_none test b bs e, some))

-- a run that is followed by a byte that fails
run_length : (test : ℕ → Bool) (ds rest bytes : List ℕ) → IsRunOf test ds → FirstFails test rest → 0 < length rest → IsPrefix (ds ++ rest) bytes → length ds ≡ prefix_len test bytes
run_length test ds [] bytes r f some p = absurd (omega arith)
run_length test ds (c ∷ more) bytes r f some p = run_whole test ds c more bytes (all_of test ds r) f p

run_length_positive : (test : ℕ → Bool) (ds : List ℕ) → IsRunOf test ds → 0 < length ds
run_length_positive test [] r = absurd r
run_length_positive test (d ∷ ds) r = omega arith

-- ---- numeric escapes

record IsNumeric (base n : ℕ) (bytes : List ℕ) (m : ℕ) : Type 0 where
  pub same : m ≡ n
  pub some : 0 < n
  pub low : digits_value base (take n bytes) ≤ max_code

numeric_some : (base n : ℕ) (bytes : List ℕ) (m : ℕ) → numeric_len base n bytes ≡ Some m → IsNumeric base n bytes m
unfolding numeric_len
numeric_some base n bytes m e = go (nat_lt 0 n) refl (nat_le (digits_value base (take n bytes)) max_code) refl
  where
    go : (x : Bool) → nat_lt 0 n ≡ x → (y : Bool) → nat_le (digits_value base (take n bytes)) max_code ≡ y → IsNumeric base n bytes m
    go true h true k = record {
      same = (let f : Some n ≡ Some m = sym (rw (h, k) refl) ∙ e in cc);
      some = ltb-true 0 n h;
      low = leb-true (digits_value base (take n bytes)) max_code k;
    }
    go true h false k = absurd (let f : None ≡ Some m = sym (rw (h, k) refl) ∙ e in cc)
    go false h y k = absurd (let f : None ≡ Some m = sym (rw h refl) ∙ e in cc)

numeric_is : (base n : ℕ) (bytes : List ℕ) → 0 < n → digits_value base (take n bytes) ≤ max_code → numeric_len base n bytes ≡ Some n
unfolding numeric_len
numeric_is base n bytes some le =
    let h : nat_lt 0 n ≡ true = le-leb 1 n (omega arith) in
    let k : nat_le (digits_value base (take n bytes)) max_code ≡ true = le-leb (digits_value base (take n bytes)) max_code le in
    rw (h, k) refl

record NumericForm (base : ℕ) (test : ℕ → Bool) (ds rest : List ℕ) : Type 0 where
  pub run : IsRunOf test ds
  pub stops : FirstFails test rest
  pub low : digits_value base ds ≤ max_code

numeric_sound : (base : ℕ) (test : ℕ → Bool) (bytes t : List ℕ) (m : ℕ) → numeric_len base (prefix_len test bytes) bytes ≡ Some m → 0 < length t → IsPrefix t (drop m bytes) → NumericForm base test (take m bytes) t
numeric_sound base test bytes t m e some p =
    let k = numeric_some base (prefix_len test bytes) bytes m e in
    record {
      run = subst (λ (n : ℕ). IsRunOf test (take n bytes)) (sym k.same) (run_positive test bytes k.some);
      stops = first_of_front test t (drop m bytes) some p (subst (λ (n : ℕ). FirstFails test (drop n bytes)) (sym k.same) (run_stops test bytes));
      low = subst (λ (n : ℕ). digits_value base (take n bytes) ≤ max_code) (sym k.same) k.low;
    }

numeric_complete : (base : ℕ) (test : ℕ → Bool) (bytes ds rest : List ℕ) → IsRunOf test ds → FirstFails test rest → digits_value base ds ≤ max_code → 0 < length rest → IsPrefix (ds ++ rest) bytes → numeric_len base (prefix_len test bytes) bytes ≡ Some (length ds)
numeric_complete base test bytes ds rest r f le some p =
    let size : length ds ≡ prefix_len test bytes = run_length test ds rest bytes r f some p in
    subst (λ (n : ℕ). numeric_len base n bytes ≡ Some (length ds)) size
    (numeric_is base (length ds) bytes (run_length_positive test ds r) (subst (λ (t : List ℕ). digits_value base t ≤ max_code) (sym (take_front ds rest bytes p)) le))

-- ---- escapes

escape_at_end : (n : ℕ) → escape_len [] ≡ Some n → ⊥
unfolding escape_len numeric_len
escape_at_end n e = let f : None ≡ Some n = e in cc

pub escape_nil : (bytes : List ℕ) → length bytes ≡ 0 → escape_len bytes ≡ None
unfolding escape_len numeric_len
escape_nil [] e = refl
escape_nil (b ∷ bs) e = absurd (omega arith)

escape_simple : (b : ℕ) (bs : List ℕ) → is_simple b ≡ true → escape_len (b ∷ bs) ≡ Some 1
unfolding escape_len
escape_simple b bs e = rw e refl

escape_octal : (bs : List ℕ) → escape_len (111 ∷ bs) ≡ plus 1 (numeric_len 8 (prefix_len is_octal_digit bs) bs)
unfolding escape_len
escape_octal bs = refl

escape_hexadecimal : (bs : List ℕ) → escape_len (120 ∷ bs) ≡ plus 1 (numeric_len 16 (prefix_len is_hexadecimal_digit bs) bs)
unfolding escape_len
escape_hexadecimal bs = refl

escape_decimal : (b : ℕ) (bs : List ℕ) → is_simple b ≡ false → eqb b 111 ≡ false → eqb b 120 ≡ false → escape_len (b ∷ bs) ≡ numeric_len 10 (prefix_len is_digit (b ∷ bs)) (b ∷ bs)
unfolding escape_len
escape_decimal b bs e f g = rw (e, f, g) refl

-- an escape with a mark before its digits
marked_sound : (base mark : ℕ) (test : ℕ → Bool) (bs t : List ℕ) (n : ℕ) → plus 1 (numeric_len base (prefix_len test bs) bs) ≡ Some n → 0 < length t → IsPrefix t (drop n (mark ∷ bs)) → IsNumericEscape (mark ∷ []) base test (92 ∷ take n (mark ∷ bs)) t
marked_sound base mark test bs t n e some p =
    let k = plus_some 1 (numeric_len base (prefix_len test bs) bs) n e in
    let size : n ≡ suc k.0 = omega (arith, k.2) in
    let form = numeric_sound base test bs t k.0 k.1 some (subst (λ (m : ℕ). IsPrefix t (drop m (mark ∷ bs))) size p) in
    (take k.0 bs, form.run, form.stops, form.low, ap (λ (m : ℕ). 92 ∷ take m (mark ∷ bs)) size)

pub escape_sound : (bytes t : List ℕ) (n : ℕ) → escape_len bytes ≡ Some n → 0 < length t → IsPrefix t (drop n bytes) → IsEscape (92 ∷ take n bytes) t
escape_sound [] t n e some p = absurd (escape_at_end n e)
escape_sound (b ∷ bs) t n e some p = go (is_simple b) refl (eqb b 111) refl (eqb b 120) refl
  where
    go : (x : Bool) → is_simple b ≡ x → (y : Bool) → eqb b 111 ≡ y → (z : Bool) → eqb b 120 ≡ z → IsEscape (92 ∷ take n (b ∷ bs)) t
    go true h y k z l =
        let one : n ≡ 1 = (let f : Some 1 ≡ Some n = sym (escape_simple b bs h) ∙ e in cc) in
        inl (b, h, ap (λ (m : ℕ). 92 ∷ take m (b ∷ bs)) one)
    go false h true k z l =
        let same : b ≡ 111 = eqb-true b 111 k in
        let e' : plus 1 (numeric_len 8 (prefix_len is_octal_digit bs) bs) ≡ Some n = sym (escape_octal bs) ∙ ap (λ (c : ℕ). escape_len (c ∷ bs)) (sym same) ∙ e in
        subst (λ (c : ℕ). IsEscape (92 ∷ take n (c ∷ bs)) t) (sym same) (inr (inr (inl (marked_sound 8 111 is_octal_digit bs t n e' some (subst (λ (c : ℕ). IsPrefix t (drop n (c ∷ bs))) same p)))))
    go false h false k true l =
        let same : b ≡ 120 = eqb-true b 120 l in
        let e' : plus 1 (numeric_len 16 (prefix_len is_hexadecimal_digit bs) bs) ≡ Some n = sym (escape_hexadecimal bs) ∙ ap (λ (c : ℕ). escape_len (c ∷ bs)) (sym same) ∙ e in
        subst (λ (c : ℕ). IsEscape (92 ∷ take n (c ∷ bs)) t) (sym same) (inr (inr (inr (marked_sound 16 120 is_hexadecimal_digit bs t n e' some (subst (λ (c : ℕ). IsPrefix t (drop n (c ∷ bs))) same p)))))
    go false h false k false l =
        let form = numeric_sound 10 is_digit (b ∷ bs) t n (sym (escape_decimal b bs h k l) ∙ e) some p in
        inr (inl (take n (b ∷ bs), form.run, form.stops, form.low, refl))

pub record Behind (text rest bytes : List ℕ) : Type 0 where
  pub tail : List ℕ
  pub text_is : text ≡ 92 ∷ tail
  pub behind : List ℕ
  pub bytes_are : bytes ≡ 92 ∷ behind
  pub front : IsPrefix (tail ++ rest) behind

behind_at : (text tail rest bytes : List ℕ) → text ≡ 92 ∷ tail → IsPrefix (text ++ rest) bytes → Behind text rest bytes
behind_at text tail rest bytes e p =
    let f = front_first 92 (tail ++ rest) bytes (subst (λ (t : List ℕ). IsPrefix (t ++ rest) bytes) e p) in
    record { tail = tail; text_is = e; behind = f.0; bytes_are = f.1; front = f.2 }

simple_complete : (b : ℕ) (rest bs : List ℕ) → is_simple b ≡ true → IsPrefix (b ∷ rest) bs → escape_len bs ≡ Some 1
simple_complete b rest [] e p = absurd p
simple_complete b rest (y ∷ ys) e p = escape_simple y ys (ap is_simple (sym p.0) ∙ e)

decimal_complete : (ds rest bs : List ℕ) → IsRunOf is_digit ds → FirstFails is_digit rest → digits_value 10 ds ≤ max_code → 0 < length rest → IsPrefix (ds ++ rest) bs → escape_len bs ≡ Some (length ds)
decimal_complete [] rest bs r f le some p = absurd r
decimal_complete (d ∷ ds) rest [] r f le some p = absurd p
decimal_complete (d ∷ ds) rest (y ∷ ys) r f le some p =
    let k = no_simple_digit y (ap is_digit (sym p.0) ∙ r.0) in
    escape_decimal y ys k.0 k.1 k.2 ∙ numeric_complete 10 is_digit (y ∷ ys) (d ∷ ds) rest r f le some p

plus_is : (o : Option ℕ) (m : ℕ) → o ≡ Some m → plus 1 o ≡ Some (suc m)
plus_is o m e = ap (plus 1) e ∙ ap Some (let f : 1 + m ≡ suc m = omega arith in f)

octal_complete : (ds rest bs : List ℕ) → IsRunOf is_octal_digit ds → FirstFails is_octal_digit rest → digits_value 8 ds ≤ max_code → 0 < length rest → IsPrefix (111 ∷ ds ++ rest) bs → escape_len bs ≡ Some (suc (length ds))
octal_complete ds rest [] r f le some p = absurd p
octal_complete ds rest (y ∷ ys) r f le some p =
    ap (λ (c : ℕ). escape_len (c ∷ ys)) (sym p.0) ∙ escape_octal ys ∙ plus_is (numeric_len 8 (prefix_len is_octal_digit ys) ys) (length ds) (numeric_complete 8 is_octal_digit ys ds rest r f le some p.1)

hexadecimal_complete : (ds rest bs : List ℕ) → IsRunOf is_hexadecimal_digit ds → FirstFails is_hexadecimal_digit rest → digits_value 16 ds ≤ max_code → 0 < length rest → IsPrefix (120 ∷ ds ++ rest) bs → escape_len bs ≡ Some (suc (length ds))
hexadecimal_complete ds rest [] r f le some p = absurd p
hexadecimal_complete ds rest (y ∷ ys) r f le some p =
    ap (λ (c : ℕ). escape_len (c ∷ ys)) (sym p.0) ∙ escape_hexadecimal ys ∙ plus_is (numeric_len 16 (prefix_len is_hexadecimal_digit ys) ys) (length ds) (numeric_complete 16 is_hexadecimal_digit ys ds rest r f le some p.1)

pub record EscapeAt (text rest bytes : List ℕ) : Type 0 where
  pub at : Behind text rest bytes
  pub len : escape_len at.behind ≡ Some (length at.tail)
  pub no_ampersand : eqb (get_or at.behind 0 0) 38 ≡ false
  pub no_white : is_white (get_or at.behind 0 0) ≡ false

plain_at : (b : ℕ) (rest bs : List ℕ) → (eqb b 38 ≡ false) × (is_white b ≡ false) → IsPrefix (b ∷ rest) bs → (eqb (get_or bs 0 0) 38 ≡ false) × (is_white (get_or bs 0 0) ≡ false)
plain_at b rest [] k p = absurd p
plain_at b rest (y ∷ ys) k p = (ap (λ (c : ℕ). eqb c 38) (sym p.0) ∙ k.0, ap is_white (sym p.0) ∙ k.1)

plain_mark : (is_simple 102 ≡ true) × (is_white 111 ≡ false) × (is_white 120 ≡ false)
unfolding class_of
plain_mark = (refl, refl, refl)

decimal_plain : (ds rest bs : List ℕ) → IsRunOf is_digit ds → IsPrefix (ds ++ rest) bs → (eqb (get_or bs 0 0) 38 ≡ false) × (is_white (get_or bs 0 0) ≡ false)
decimal_plain [] rest bs r p = absurd r
decimal_plain (d ∷ ds) rest bs r p = plain_at d (ds ++ rest) bs (plain_digit d r.0) p

pub escape_complete : (bytes text rest : List ℕ) → IsEscape text rest → 0 < length rest → IsPrefix (text ++ rest) bytes → EscapeAt text rest bytes
unfolding behind_at
escape_complete bytes text rest (inl (b, h, e)) some p =
    let a = behind_at text (b ∷ []) rest bytes e p in
    let q = plain_at b rest a.behind (plain_simple b h) a.front in
    record { at = a; len = simple_complete b rest a.behind h a.front; no_ampersand = q.0; no_white = q.1 }
escape_complete bytes text rest (inr (inl (ds, r, f, le, e))) some p =
    let a = behind_at text ds rest bytes e p in
    let q = decimal_plain ds rest a.behind r a.front in
    record { at = a; len = decimal_complete ds rest a.behind r f le some a.front; no_ampersand = q.0; no_white = q.1 }
escape_complete bytes text rest (inr (inr (inl (ds, r, f, le, e)))) some p =
    let a = behind_at text (111 ∷ ds) rest bytes e p in
    let q = plain_at 111 (ds ++ rest) a.behind (refl, plain_mark.1) a.front in
    record { at = a; len = octal_complete ds rest a.behind r f le some a.front; no_ampersand = q.0; no_white = q.1 }
escape_complete bytes text rest (inr (inr (inr (ds, r, f, le, e)))) some p =
    let a = behind_at text (120 ∷ ds) rest bytes e p in
    let q = plain_at 120 (ds ++ rest) a.behind (refl, plain_mark.2) a.front in
    record { at = a; len = hexadecimal_complete ds rest a.behind r f le some a.front; no_ampersand = q.0; no_white = q.1 }

-- ---- gaps

gap_sound : (bs : List ℕ) (n : ℕ) → gap_len bs ≡ Some n → IsGap (92 ∷ take n bs)
unfolding gap_len
gap_sound bs n e = go (nat_lt 0 (prefix_len is_white bs)) refl (eqb (get_or bs (prefix_len is_white bs) 0) 92) refl
  where
    within : get_or bs (prefix_len is_white bs) 0 ≡ 92 → prefix_len is_white bs < length bs
    within f = elim (cases_lt (prefix_len is_white bs) (length bs)) [ inl lt ↦ lt | inr ge ↦ absurd (omega (arith, f, get_or_past bs (prefix_len is_white bs) 0 ge)) ]

    go : (x : Bool) → nat_lt 0 (prefix_len is_white bs) ≡ x → (y : Bool) → eqb (get_or bs (prefix_len is_white bs) 0) 92 ≡ y → IsGap (92 ∷ take n bs)
    go true h true k =
        let size : n ≡ prefix_len is_white bs + 1 = (let f : Some (prefix_len is_white bs + 1) ≡ Some n = sym (rw (h, k) refl) ∙ e in cc) in
        let last : get_or bs (prefix_len is_white bs) 0 ≡ 92 = eqb-true (get_or bs (prefix_len is_white bs) 0) 92 k in
        (take (prefix_len is_white bs) bs, run_positive is_white bs (ltb-true 0 (prefix_len is_white bs) h), ap (λ (t : List ℕ). 92 ∷ t) (ap (λ (m : ℕ). take m bs) size ∙ take_more bs (prefix_len is_white bs) 0 (within last) ∙ ap (λ (b : ℕ). take (prefix_len is_white bs) bs ++ b ∷ []) last))
    go true h false k = absurd (let f : None ≡ Some n = sym (rw (h, k) refl) ∙ e in cc)
    go false h y k = absurd (let f : None ≡ Some n = sym (rw h refl) ∙ e in cc)

get_front : (ws : List ℕ) (c : ℕ) (more bs : List ℕ) → IsPrefix (ws ++ c ∷ more) bs → get_or bs (length ws) 0 ≡ c
get_front [] c more [] p = absurd p
get_front [] c more (y ∷ ys) p = sym p.0
get_front (w ∷ ws) c more [] p = absurd p
get_front (w ∷ ws) c more (y ∷ ys) p = get_front ws c more ys p.1

gap_is : (bs : List ℕ) (n : ℕ) → n ≡ prefix_len is_white bs → 0 < n → get_or bs n 0 ≡ 92 → gap_len bs ≡ Some (n + 1)
unfolding gap_len
gap_is bs n e some f =
    let h : nat_lt 0 (prefix_len is_white bs) ≡ true = le-leb 1 (prefix_len is_white bs) (omega arith) in
    let k : eqb (get_or bs (prefix_len is_white bs) 0) 92 ≡ true = eq-eqb (get_or bs (prefix_len is_white bs) 0) 92 (ap (λ (m : ℕ). get_or bs m 0) (sym e) ∙ f) in
    rw (h, k) (ap (λ (m : ℕ). Some (m + 1)) (sym e))

gap_complete : (ws rest bs : List ℕ) → IsRunOf is_white ws → IsPrefix ((ws ++ 92 ∷ []) ++ rest) bs → gap_len bs ≡ Some (length (ws ++ 92 ∷ []))
gap_complete ws rest bs r p =
    let q : IsPrefix (ws ++ 92 ∷ rest) bs = subst (λ (t : List ℕ). IsPrefix t bs) (append_assoc ws (92 ∷ []) rest) p in
    gap_is bs (length ws) (run_whole is_white ws 92 rest bs (all_of is_white ws r) white_92 q) (run_length_positive is_white ws r) (get_front ws 92 rest bs q)
    ∙ ap Some (let e : length ws + 1 ≡ length (ws ++ 92 ∷ []) = omega (arith, length-append ws (92 ∷ [])) in e)

-- ---- what a backslash marks

after_at_end : (n : ℕ) → marked_len [] ≡ Some n → ⊥
unfolding marked_len class_of
after_at_end n e = escape_at_end n e

pub after_nil : (bytes : List ℕ) → length bytes ≡ 0 → marked_len bytes ≡ None
unfolding marked_len class_of
after_nil [] e = escape_nil [] e
after_nil (b ∷ bs) e = absurd (omega arith)

after_ampersand : (bs : List ℕ) → marked_len (38 ∷ bs) ≡ Some 1
unfolding marked_len
after_ampersand bs = refl

after_white : (bs : List ℕ) → eqb (get_or bs 0 0) 38 ≡ false → is_white (get_or bs 0 0) ≡ true → marked_len bs ≡ gap_len bs
unfolding marked_len
after_white bs e f = rw (e, f) refl

after_other : (bs : List ℕ) → eqb (get_or bs 0 0) 38 ≡ false → is_white (get_or bs 0 0) ≡ false → marked_len bs ≡ escape_len bs
unfolding marked_len
after_other bs e f = rw (e, f) refl

after_sound : (bs t : List ℕ) (n : ℕ) → marked_len bs ≡ Some n → 0 < length t → IsPrefix t (drop n bs) → IsByteItem (92 ∷ take n bs) t
after_sound [] t n e some p = absurd (after_at_end n e)
after_sound (b ∷ bs) t n e some p = go (eqb b 38) refl (is_white b) refl
  where
    go : (x : Bool) → eqb b 38 ≡ x → (y : Bool) → is_white b ≡ y → IsByteItem (92 ∷ take n (b ∷ bs)) t
    go true h y k =
        let same : b ≡ 38 = eqb-true b 38 h in
        let one : n ≡ 1 = (let f : Some 1 ≡ Some n = sym (after_ampersand bs) ∙ ap (λ (c : ℕ). marked_len (c ∷ bs)) (sym same) ∙ e in cc) in
        inr (inr (inl (ap (λ (m : ℕ). 92 ∷ take m (b ∷ bs)) one ∙ ap (λ (c : ℕ). 92 ∷ c ∷ []) same)))
    go false h true k = inr (inr (inr (gap_sound (b ∷ bs) n (sym (after_white (b ∷ bs) h k) ∙ e))))
    go false h false k = inr (inl (escape_sound (b ∷ bs) t n (sym (after_other (b ∷ bs) h k) ∙ e) some p))

white_first : (ws rest bs : List ℕ) → IsRunOf is_white ws → IsPrefix (ws ++ rest) bs → is_white (get_or bs 0 0) ≡ true
white_first [] rest bs r p = absurd r
white_first (w ∷ ws) rest [] r p = absurd p
white_first (w ∷ ws) rest (y ∷ ys) r p = ap is_white (sym p.0) ∙ r.0

ampersand_complete : (rest bs : List ℕ) → IsPrefix (38 ∷ rest) bs → marked_len bs ≡ Some 1
ampersand_complete rest [] p = absurd p
ampersand_complete rest (y ∷ ys) p = ap (λ (c : ℕ). marked_len (c ∷ ys)) (sym p.0) ∙ after_ampersand ys

-- ---- items

plain_len : (b : ℕ) (bs : List ℕ) → 32 ≤ b → b ≢ 34 → b ≢ 92 → string_item_len (b ∷ bs) ≡ Some 1
unfolding string_item_len
plain_len b bs l m n = go (eqb b 34) refl (eqb b 92) refl
  where
    go : (x : Bool) → eqb b 34 ≡ x → (y : Bool) → eqb b 92 ≡ y → string_item_len (b ∷ bs) ≡ Some 1
    go true h y k = absurd (m (eqb-true b 34 h))
    go false h true k = absurd (n (eqb-true b 92 k))
    go false h false k = let e : nat_le 32 b ≡ true = le-leb 32 b l in rw (k, e, h) refl

marked_item_len : (bs : List ℕ) → string_item_len (92 ∷ bs) ≡ plus 1 (marked_len bs)
unfolding string_item_len
marked_item_len bs = refl

item_at_end : (n : ℕ) → string_item_len [] ≡ Some n → ⊥
unfolding string_item_len
item_at_end n e = let f : None ≡ Some n = e in cc

plain_sound : (b : ℕ) (bs : List ℕ) (n : ℕ) → eqb b 92 ≡ false → string_item_len (b ∷ bs) ≡ Some n → IsPlainByte (take n (b ∷ bs))
unfolding string_item_len
plain_sound b bs n o e = go (nat_le 32 b) refl (eqb b 34) refl
  where
    go : (x : Bool) → nat_le 32 b ≡ x → (y : Bool) → eqb b 34 ≡ y → IsPlainByte (take n (b ∷ bs))
    go true h false k =
        let one : n ≡ 1 = (let f : Some 1 ≡ Some n = sym (rw (o, h, k) refl) ∙ e in cc) in
        (b, leb-true 32 b h, (λ f. false≢true (sym k ∙ eq-eqb b 34 f)), (λ f. false≢true (sym o ∙ eq-eqb b 92 f)), ap (λ (m : ℕ). take m (b ∷ bs)) one)
    go true h true k = absurd (let f : None ≡ Some n = sym (rw (o, h, k) refl) ∙ e in cc)
    go false h y k = absurd (let f : None ≡ Some n = sym (rw (o, h) refl) ∙ e in cc)

pub item_sound : (bytes t : List ℕ) (n : ℕ) → string_item_len bytes ≡ Some n → 0 < length t → IsPrefix t (drop n bytes) → IsByteItem (take n bytes) t
item_sound [] t n e some p = absurd (item_at_end n e)
item_sound (b ∷ bs) t n e some p = go (eqb b 92) refl
  where
    go : (x : Bool) → eqb b 92 ≡ x → IsByteItem (take n (b ∷ bs)) t
    go true h =
        let same : b ≡ 92 = eqb-true b 92 h in
        let k = plus_some 1 (marked_len bs) n (sym (marked_item_len bs) ∙ ap (λ (c : ℕ). string_item_len (c ∷ bs)) (sym same) ∙ e) in
        let size : n ≡ suc k.0 = omega (arith, k.2) in
        let i = after_sound bs t k.0 k.1 some (subst (λ (m : ℕ). IsPrefix t (drop m (b ∷ bs))) size p) in
        subst (λ (u : List ℕ). IsByteItem u t) (ap (λ (c : ℕ). c ∷ take k.0 bs) (sym same) ∙ ap (λ (m : ℕ). take m (b ∷ bs)) (sym size)) i
    go false h = inl (plain_sound b bs n h e)

item_of_behind : (first rest bytes : List ℕ) (a : Behind first rest bytes) → marked_len a.behind ≡ Some (length a.tail) → string_item_len bytes ≡ Some (length first)
item_of_behind first rest bytes a e =
    ap string_item_len a.bytes_are ∙ marked_item_len a.behind ∙ plus_is (marked_len a.behind) (length a.tail) e ∙ ap (λ (t : List ℕ). Some (length t)) (sym a.text_is)

plain_complete : (b : ℕ) (first rest bytes : List ℕ) → 32 ≤ b → b ≢ 34 → b ≢ 92 → first ≡ b ∷ [] → IsPrefix (first ++ rest) bytes → string_item_len bytes ≡ Some (length first)
plain_complete b first rest bytes l m n e p =
    let f = front_first b rest bytes (subst (λ (t : List ℕ). IsPrefix (t ++ rest) bytes) e p) in
    ap string_item_len f.1 ∙ plain_len b f.0 l m n ∙ ap (λ (t : List ℕ). Some (length t)) (sym e)

pub item_complete : (bytes first rest : List ℕ) → IsByteItem first rest → 0 < length rest → IsPrefix (first ++ rest) bytes → string_item_len bytes ≡ Some (length first)
unfolding behind_at
item_complete bytes first rest (inl (b, l, m, n, e)) some p = plain_complete b first rest bytes l m n e p
item_complete bytes first rest (inr (inl i)) some p =
    let a = escape_complete bytes first rest i some p in
    item_of_behind first rest bytes a.at (after_other a.at.behind a.no_ampersand a.no_white ∙ a.len)
item_complete bytes first rest (inr (inr (inl e))) some p =
    let a = behind_at first (38 ∷ []) rest bytes e p in
    item_of_behind first rest bytes a (ampersand_complete rest a.behind a.front)
item_complete bytes first rest (inr (inr (inr (ws, r, e)))) some p =
    let a = behind_at first (ws ++ 92 ∷ []) rest bytes e p in
    let q : IsPrefix (ws ++ 92 ∷ rest) a.behind = subst (λ (t : List ℕ). IsPrefix t a.behind) (append_assoc ws (92 ∷ []) rest) a.front in
    let w = white_first ws (92 ∷ rest) a.behind r q in
    item_of_behind first rest bytes a (after_white a.behind (no_white_38 (get_or a.behind 0 0) w) w ∙ gap_complete ws rest a.behind r a.front)

pub no_item_at_quote : (bs : List ℕ) → string_item_len (34 ∷ bs) ≡ None
unfolding string_item_len
no_item_at_quote bs = refl
