-- Integers at the front of some bytes, and fractions.
use Rattle.std.proofs.Common.{◌≡◌, ◌⊎◌, ℕ, suc, ◌+◌, ◌<◌, ◌≤◌, Bool, true, false, eqb, List, [], ◌∷◌, ◌++◌, length, get_or, take, drop, refl, sym, ap, ◌∙◌, subst, inl, inr, arith, length-append, length-take-le}
use Rattle.std.specs.Prelude.{IsTrue, ◌&&◌, ◌||◌, codes}
use Rattle.std.specs.List.{prefix_len}
use Rattle.std.proofs.Math.Bool.{or-true}
use Rattle.std.proofs.lemmas.Bool.{eqb-true, false≢true}
use Rattle.hm_lex.specs.declared.byte_class.ByteClass.{ByteClass}
use Rattle.hm_lex.specs.declared.byte_class.ByteClass.TheVariants.{Digit, Special}
use Rattle.hm_lex.specs.declared.item.Item.{Item}
use Rattle.hm_lex.specs.declared.token.Kind.TheVariants.{Integer}
use Rattle.hm_lex.specs.Bytes.{class_of, is_digit, is_digit_class, is_one_of, is_octal_digit, is_hexadecimal_digit}
use Rattle.hm_lex.specs.Runs.{IsRunOf}
use Rattle.hm_lex.specs.Integers.{IsDecimal, IsHexadecimal, IsOctal, IsSign, IsFraction, IsExponent, IsFractional}
use Rattle.hm_lex.specs.Shapes.{Shape, lexeme, malformed, HasShape}
use Rattle.hm_lex.specs.Cut.{Begins, IsLongest, shape_of}
use Rattle.hm_lex.specs.Faults.{NoItemBegins, OpenCommentBegins}
use Rattle.hm_lex.specs.Next.{StartsWith, marked_digits, begins_fraction}
use Rattle.hm_lex.proofs.Prefix.{IsPrefix, prefix_from, begins_from, begins_take, run_bound, run_whole, run_le, run_begins, prefix_after, prefix_join}
use Rattle.hm_lex.proofs.ByFirst.{FromFirst, first}
use Rattle.hm_lex.proofs.OneShape.{all_of, one_of_two, tail_cons, no_malformed_item, begins_tail, IsMark, hexadecimal_mark, octal_mark}
use Rattle.hm_lex.proofs.Malformed.{no_open_comment}

starts_digit : (bytes : List ℕ) (x : ℕ) (xs : List ℕ) → StartsWith Digit bytes → IsPrefix (x ∷ xs) bytes → class_of x ≡ Digit
starts_digit [] x xs s p = absurd s
starts_digit (b ∷ bs) x xs s p = ap class_of p.0 ∙ s

abbrev IntegerForm : Shape → List ℕ → Type 0
IntegerForm o t =
    ((o ≡ lexeme Integer) × (IsDecimal t ⊎ IsHexadecimal t ⊎ IsOctal t)) ⊎ ((o ≡ malformed) × IsFractional t)

form_of : (bytes : List ℕ) (o : Shape) (x : ℕ) (xs : List ℕ) → StartsWith Digit bytes → HasShape o (x ∷ xs) → IsPrefix (x ∷ xs) bytes → IntegerForm o (x ∷ xs)
form_of bytes o x xs s h p = subst (λ (c : ByteClass). FromFirst c o (x ∷ xs)) (starts_digit bytes x xs s p) (first o x xs h)

decimal_bound : (bytes t : List ℕ) → IsDecimal t → IsPrefix t bytes → length t ≤ prefix_len is_digit bytes
decimal_bound bytes t d p = run_bound is_digit t bytes (all_of is_digit t d) p

-- ---- numbers with a mark

no_hexadecimal_mark : (m : ℕ) → IsTrue (is_one_of (codes "oO") m) → is_one_of (codes "xX") m ≡ false
no_hexadecimal_mark m e = elim (one_of_two 111 79 m e) [ inl h ↦ rw h refl | inr h ↦ rw h refl ]

digits_hexadecimal : (m : ℕ) (ds : List ℕ) → IsTrue (is_one_of (codes "xX") m) → marked_digits (48 ∷ m ∷ ds) ≡ prefix_len is_hexadecimal_digit ds
digits_hexadecimal m ds e = rw e refl

digits_octal : (m : ℕ) (ds : List ℕ) → IsTrue (is_one_of (codes "oO") m) → marked_digits (48 ∷ m ∷ ds) ≡ prefix_len is_octal_digit ds
digits_octal m ds e = rw (no_hexadecimal_mark m e, e) refl

run_length : (test : ℕ → Bool) (t : List ℕ) → IsRunOf test t → 0 < length t
run_length test [] r = absurd r
run_length test (b ∷ bs) r = omega arith

-- a marked number that begins bytes has a mark and digits that are counted
marked_bound : (bytes t : List ℕ) → IsHexadecimal t ⊎ IsOctal t → IsPrefix t bytes → (2 < length t) × (length t ≤ 2 + marked_digits bytes)
marked_bound bytes t m p = go bytes m p
  where
    hex : (bs : List ℕ) (h : IsHexadecimal t) → IsPrefix (48 ∷ h.0 ∷ h.1) bs → (2 < length t) × (length t ≤ 2 + marked_digits bs)
    hex [] h q = absurd q
    hex (a ∷ []) h q = absurd q.1
    hex (a ∷ b ∷ bs) h q =
        let e : marked_digits (a ∷ b ∷ bs) ≡ prefix_len is_hexadecimal_digit bs = ap (λ (z : ℕ). marked_digits (z ∷ b ∷ bs)) (sym q.0) ∙ digits_hexadecimal b bs (ap (λ (z : ℕ). is_one_of (codes "xX") z) (sym q.1.0) ∙ h.2) in
        (omega (arith, ap length h.4, run_length is_hexadecimal_digit h.1 h.3), omega (arith, ap length h.4, e, run_bound is_hexadecimal_digit h.1 bs (all_of is_hexadecimal_digit h.1 h.3) q.1.1))

    oct : (bs : List ℕ) (h : IsOctal t) → IsPrefix (48 ∷ h.0 ∷ h.1) bs → (2 < length t) × (length t ≤ 2 + marked_digits bs)
    oct [] h q = absurd q
    oct (a ∷ []) h q = absurd q.1
    oct (a ∷ b ∷ bs) h q =
        let e : marked_digits (a ∷ b ∷ bs) ≡ prefix_len is_octal_digit bs = ap (λ (z : ℕ). marked_digits (z ∷ b ∷ bs)) (sym q.0) ∙ digits_octal b bs (ap (λ (z : ℕ). is_one_of (codes "oO") z) (sym q.1.0) ∙ h.2) in
        (omega (arith, ap length h.4, run_length is_octal_digit h.1 h.3), omega (arith, ap length h.4, e, run_bound is_octal_digit h.1 bs (all_of is_octal_digit h.1 h.3) q.1.1))

    go : (bs : List ℕ) → IsHexadecimal t ⊎ IsOctal t → IsPrefix t bs → (2 < length t) × (length t ≤ 2 + marked_digits bs)
    go bs (inl h) q = hex bs h (subst (λ (u : List ℕ). IsPrefix u bs) h.4 q)
    go bs (inr h) q = oct bs h (subst (λ (u : List ℕ). IsPrefix u bs) h.4 q)

-- where digits are counted, the bytes are a 0, a mark and more
record MarkedForm (bytes : List ℕ) : Type 0 where
  pub mark : ℕ
  pub more : List ℕ
  pub bytes_are : bytes ≡ 48 ∷ mark ∷ more
  pub test : ℕ → Bool
  pub counted : marked_digits bytes ≡ prefix_len test more
  pub is_mark : IsMark mark
  pub number : (ds : List ℕ) → IsRunOf test ds → IsHexadecimal (48 ∷ mark ∷ ds) ⊎ IsOctal (48 ∷ mark ∷ ds)

marked_form : (bytes : List ℕ) → 0 < marked_digits bytes → MarkedForm bytes
marked_form [] lt = absurd (omega arith)
marked_form (a ∷ []) lt = absurd (short (eqb a 48) refl)
  where
    short : (x : Bool) → eqb a 48 ≡ x → ⊥
    short true h = let e : marked_digits (a ∷ []) ≡ 0 = rw h refl in omega arith
    short false h = let e : marked_digits (a ∷ []) ≡ 0 = rw h refl in omega arith
marked_form (a ∷ m ∷ ds) lt = go (eqb a 48) refl (is_one_of (codes "xX") m) refl (is_one_of (codes "oO") m) refl
  where
    go : (x : Bool) → eqb a 48 ≡ x → (y : Bool) → is_one_of (codes "xX") m ≡ y → (z : Bool) → is_one_of (codes "oO") m ≡ z → MarkedForm (a ∷ m ∷ ds)
    go false h y k z l = absurd (let e : marked_digits (a ∷ m ∷ ds) ≡ 0 = rw h refl in omega arith)
    go true h true k z l = record {
      mark = m;
      more = ds;
      bytes_are = ap (λ (b : ℕ). b ∷ m ∷ ds) (eqb-true a 48 h);
      test = is_hexadecimal_digit;
      counted = ap (λ (b : ℕ). marked_digits (b ∷ m ∷ ds)) (eqb-true a 48 h) ∙ digits_hexadecimal m ds k;
      is_mark = hexadecimal_mark m k;
      number = λ es r. inl (m, es, k, r, refl);
    }
    go true h false k true l = record {
      mark = m;
      more = ds;
      bytes_are = ap (λ (b : ℕ). b ∷ m ∷ ds) (eqb-true a 48 h);
      test = is_octal_digit;
      counted = ap (λ (b : ℕ). marked_digits (b ∷ m ∷ ds)) (eqb-true a 48 h) ∙ digits_octal m ds l;
      is_mark = octal_mark m l;
      number = λ es r. inr (m, es, l, r, refl);
    }
    go true h false k false l = absurd (let e : marked_digits (a ∷ m ∷ ds) ≡ 0 = rw (h, k, l) refl in omega arith)

-- a front of a marked number that is a decimal is its 0; none is a fraction
fractional_parts : (bytes t : List ℕ) → IsFractional t → IsPrefix t bytes → (c : ℕ) × (cs ds : List ℕ) × IsDecimal ds × IsTrue (begins_tail c) × (is_digit c ≡ false) × IsPrefix (ds ++ c ∷ cs) bytes
fractional_parts bytes t f p =
    let tail = tail_cons f.1 f.3 in
    (tail.0, tail.1, f.0, f.2, tail.4, tail.3, subst (λ (u : List ℕ). IsPrefix u bytes) (f.4 ∙ ap (λ (u : List ℕ). f.0 ++ u) tail.2) p)

zero_digit : is_digit 48 ≡ true
unfolding class_of
zero_digit = refl

nul_no_digit : is_digit 0 ≡ false
unfolding class_of
nul_no_digit = refl

fraction_past_mark : (ds cs more : List ℕ) (c mark : ℕ) → IsMark mark → IsDecimal ds → IsTrue (begins_tail c) → IsPrefix (ds ++ c ∷ cs) (48 ∷ mark ∷ more) → ⊥
fraction_past_mark [] cs more c mark m d t p = d
fraction_past_mark (x ∷ []) cs more c mark m d t p = false≢true (sym m.no_tail ∙ ap begins_tail (sym p.1.0) ∙ t)
fraction_past_mark (x ∷ y ∷ ds) cs more c mark m d t p = false≢true (sym m.no_digit ∙ ap is_digit (sym p.1.0) ∙ d.1.0)

run_of_counted : (test : ℕ → Bool) (more : List ℕ) (n : ℕ) → n ≡ prefix_len test more → 0 < n → IsRunOf test (take n more)
run_of_counted test [] n e lt = absurd (omega arith)
run_of_counted test (b ∷ bs) n e lt = go (test b) refl
  where
    go : (x : Bool) → test b ≡ x → IsRunOf test (take n (b ∷ bs))
    go true h = subst (λ (k : ℕ). IsRunOf test (take k (b ∷ bs))) (sym e) (run_begins test b bs h)
    go false h = absurd (let z : prefix_len test (b ∷ bs) ≡ 0 = rw h refl in omega arith)

pub marked_longest : (bytes : List ℕ) (n : ℕ) → StartsWith Digit bytes → n ≡ marked_digits bytes → 0 < n → n + 2 ≤ length bytes → IsLongest (lexeme Integer) (take (n + 2) bytes) bytes
marked_longest bytes n s e lt within =
    let f = marked_form bytes (omega arith) in
    let front : take (n + 2) bytes ≡ 48 ∷ f.mark ∷ take n f.more =
    ap (take (n + 2)) f.bytes_are ∙ ap (λ (k : ℕ). take k (48 ∷ f.mark ∷ f.more)) (let k : n + 2 ≡ suc (suc n) = omega arith in k) in
    let counted : n ≡ prefix_len f.test f.more = e ∙ f.counted in
    let size : length (take (n + 2) bytes) ≡ n + 2 = length-take-le (n + 2) bytes within in
    let decimals : prefix_len is_digit bytes ≤ 1 =
    (let z : prefix_len is_digit (48 ∷ f.mark ∷ f.more) ≡ 1 = rw (zero_digit, f.is_mark.no_digit) refl in omega (arith, ap (prefix_len is_digit) f.bytes_are)) in
    record {
      has = subst (λ (t : List ℕ). HasShape (lexeme Integer) t) (sym front) (inr (f.number (take n f.more) (run_of_counted f.test f.more n counted lt)));
      begins = begins_take (n + 2) bytes;
      longest = λ o t h b. candidate f size decimals o t h b;
    }
  where
    candidate : (f : MarkedForm bytes) → length (take (n + 2) bytes) ≡ n + 2 → prefix_len is_digit bytes ≤ 1 → (o : Shape) (t : List ℕ) → HasShape o t → Begins t bytes → length t ≤ length (take (n + 2) bytes)
    candidate f size decimals o [] h b = omega arith
    candidate f size decimals o (x ∷ xs) h b =
        let p = prefix_from (x ∷ xs) bytes b in
        elim (form_of bytes o x xs s h p) [
          | inl integer ↦
              elim integer.1 [
                | inl d ↦ omega (arith, decimal_bound bytes (x ∷ xs) d p)
                | inr m ↦ omega (arith, (marked_bound bytes (x ∷ xs) m p).1)
              ]
          | inr fractional ↦
              let parts = fractional_parts bytes (x ∷ xs) fractional.1 p in
              absurd (fraction_past_mark parts.2 parts.1 f.more parts.0 f.mark f.is_mark parts.3 parts.4 (subst (λ (u : List ℕ). IsPrefix (parts.2 ++ parts.0 ∷ parts.1) u) f.bytes_are parts.6))
        ]

-- ---- fractions

fraction_begins : (more rest : List ℕ) → IsFraction more → IsPrefix more rest → begins_fraction rest ≡ true
fraction_begins more rest f p = go rest (subst (λ (u : List ℕ). IsPrefix u rest) f.2 p)
  where
    go : (r : List ℕ) → IsPrefix (46 ∷ f.0 ∷ []) r → begins_fraction r ≡ true
    go [] q = absurd q
    go (a ∷ []) q = absurd q.1
    go (a ∷ b ∷ bs) q = ap (λ (z : ℕ). begins_fraction (z ∷ b ∷ bs)) (sym q.0) ∙ ap is_digit (sym q.1.0) ∙ f.1

exponent_digit : (m d : ℕ) (bs : List ℕ) → IsTrue (is_one_of (codes "eE") m) → is_digit d ≡ true → begins_fraction (m ∷ d ∷ bs) ≡ true
exponent_digit m d bs e h = elim (one_of_two 101 69 m e) [ inl k ↦ rw (k, h) refl | inr k ↦ rw (k, h) refl ]

exponent_sign : (m g d : ℕ) (bs : List ℕ) → IsTrue (is_one_of (codes "eE") m) → IsTrue (is_one_of (codes "+-") g) → is_digit d ≡ true → begins_fraction (m ∷ g ∷ d ∷ bs) ≡ true
exponent_sign m g d bs e k h = elim (one_of_two 101 69 m e) [ inl j ↦ rw (j, k, h) (or-true (is_digit g)) | inr j ↦ rw (j, k, h) (or-true (is_digit g)) ]

exponent_begins : (more rest : List ℕ) → IsExponent more → IsPrefix more rest → begins_fraction rest ≡ true
exponent_begins more rest (m, sign, d, e, g, h, eq) p = go sign g (subst (λ (u : List ℕ). IsPrefix u rest) eq p)
  where
    plain : (r : List ℕ) → IsPrefix (m ∷ d ∷ []) r → begins_fraction r ≡ true
    plain [] q = absurd q
    plain (a ∷ []) q = absurd q.1
    plain (a ∷ b ∷ bs) q = ap (λ (z : ℕ). begins_fraction (z ∷ b ∷ bs)) (sym q.0) ∙ ap (λ (z : ℕ). begins_fraction (m ∷ z ∷ bs)) (sym q.1.0) ∙ exponent_digit m d bs e h

    signed : (c : ℕ) (r : List ℕ) → IsTrue (is_one_of (codes "+-") c) → IsPrefix (m ∷ c ∷ d ∷ []) r → begins_fraction r ≡ true
    signed c [] k q = absurd q
    signed c (a ∷ []) k q = absurd q.1
    signed c (a ∷ b ∷ []) k q = absurd q.1.1
    signed c (a ∷ b ∷ x ∷ bs) k q = ap (λ (z : ℕ). begins_fraction (z ∷ b ∷ x ∷ bs)) (sym q.0) ∙ ap (λ (z : ℕ). begins_fraction (m ∷ z ∷ x ∷ bs)) (sym q.1.0) ∙ ap (λ (z : ℕ). begins_fraction (m ∷ c ∷ z ∷ bs)) (sym q.1.1.0) ∙ exponent_sign m c d bs e k h

    go : (s : List ℕ) → IsSign s → IsPrefix (m ∷ s ++ d ∷ []) rest → begins_fraction rest ≡ true
    go s (inl k) q = plain rest (subst (λ (u : List ℕ). IsPrefix (m ∷ u ++ d ∷ []) rest) k q)
    go s (inr (inl k)) q = signed 43 rest refl (subst (λ (u : List ℕ). IsPrefix (m ∷ u ++ d ∷ []) rest) k q)
    go s (inr (inr k)) q = signed 45 rest refl (subst (λ (u : List ℕ). IsPrefix (m ∷ u ++ d ∷ []) rest) k q)

tail_begins : (more rest : List ℕ) → IsFraction more ⊎ IsExponent more → IsPrefix more rest → begins_fraction rest ≡ true
tail_begins more rest (inl f) p = fraction_begins more rest f p
tail_begins more rest (inr x) p = exponent_begins more rest x p

abbrev Tail : List ℕ → Type 0
Tail rest = (more : List ℕ) × (IsFraction more ⊎ IsExponent more) × IsPrefix more rest

digit_here : (rest : List ℕ) → is_digit (get_or rest 0 0) ≡ true → (d : ℕ) × (bs : List ℕ) × (rest ≡ d ∷ bs) × (is_digit d ≡ true)
digit_here [] e = absurd (false≢true (sym nul_no_digit ∙ e))
digit_here (d ∷ bs) e = (d, bs, refl, e)

exponent_tail : (m : ℕ) (rest : List ℕ) → IsTrue (is_one_of (codes "eE") m) → (is_digit (get_or rest 0 0) || (is_one_of (codes "+-") (get_or rest 0 0) && is_digit (get_or rest 1 0))) ≡ true → Tail (m ∷ rest)
exponent_tail m [] e t = absurd (false≢true (sym (rw nul_no_digit refl) ∙ t))
exponent_tail m (a ∷ bs) e t = go (is_digit a) refl (is_one_of (codes "+-") a) refl
  where
    go : (x : Bool) → is_digit a ≡ x → (y : Bool) → is_one_of (codes "+-") a ≡ y → Tail (m ∷ a ∷ bs)
    go true h y k = (m ∷ a ∷ [], inr (m, [], a, e, inl refl, h, refl), (refl, (refl, tt)))
    go false h false k = absurd (false≢true (sym (rw (h, k) refl) ∙ t))
    go false h true k =
        let d = digit_here bs (sym (rw (h, k) refl) ∙ t) in
        let sign : IsSign (a ∷ []) = elim (one_of_two 43 45 a k) [ inl j ↦ inr (inl (ap (λ (z : ℕ). z ∷ []) j)) | inr j ↦ inr (inr (ap (λ (z : ℕ). z ∷ []) j)) ] in
        subst (λ (u : List ℕ). Tail (m ∷ a ∷ u)) (sym d.2) (m ∷ a ∷ d.0 ∷ [], inr (m, a ∷ [], d.0, e, sign, d.3, refl), (refl, (refl, (refl, tt))))

begins_tail_of : (rest : List ℕ) → begins_fraction rest ≡ true → Tail rest
begins_tail_of [] t = absurd (false≢true t)
begins_tail_of (a ∷ bs) t = go (eqb a 46) refl (is_one_of (codes "eE") a) refl
  where
    go : (x : Bool) → eqb a 46 ≡ x → (y : Bool) → is_one_of (codes "eE") a ≡ y → Tail (a ∷ bs)
    go true h y k =
        let d = digit_here bs (sym (rw h refl) ∙ t) in
        subst (λ (z : ℕ). Tail (z ∷ bs)) (sym (eqb-true a 46 h)) (subst (λ (u : List ℕ). Tail (46 ∷ u)) (sym d.2) (46 ∷ d.0 ∷ [], inl (d.0, d.3, refl), (refl, (refl, tt))))
    go false h true k = exponent_tail a bs k (sym (rw (h, k) refl) ∙ t)
    go false h false k = absurd (false≢true (sym (rw (h, k) refl) ∙ t))

-- ---- decimals

no_marked : (bytes t : List ℕ) → marked_digits bytes ≡ 0 → IsHexadecimal t ⊎ IsOctal t → IsPrefix t bytes → ⊥
no_marked bytes t e m p = let b = marked_bound bytes t m p in omega (arith, b.0, b.1)

decimal_run : (bytes : List ℕ) (n : ℕ) → StartsWith Digit bytes → n ≡ prefix_len is_digit bytes → IsDecimal (take n bytes)
decimal_run [] n s e = absurd s
decimal_run (b ∷ bs) n s e = subst (λ (k : ℕ). IsRunOf is_digit (take k (b ∷ bs))) (sym e) (run_begins is_digit b bs (ap is_digit_class s))

fraction_after_run : (bytes t : List ℕ) (n : ℕ) → n ≡ prefix_len is_digit bytes → IsFractional t → IsPrefix t bytes → begins_fraction (drop n bytes) ≡ true
unfolding fractional_parts
fraction_after_run bytes t n e f p =
    let parts = fractional_parts bytes t f p in
    let size : length f.0 ≡ prefix_len is_digit bytes = run_whole is_digit f.0 parts.0 parts.1 bytes (all_of is_digit f.0 f.2) parts.5 parts.6 in
    let p' : IsPrefix (f.0 ++ f.1) bytes = subst (λ (u : List ℕ). IsPrefix u bytes) f.4 p in
    tail_begins f.1 (drop n bytes) f.3 (subst (λ (k : ℕ). IsPrefix f.1 (drop k bytes)) (size ∙ sym e) (prefix_after f.0 f.1 bytes p'))

pub decimal_longest : (bytes : List ℕ) (n : ℕ) → StartsWith Digit bytes → marked_digits bytes ≡ 0 → n ≡ prefix_len is_digit bytes → begins_fraction (drop n bytes) ≡ false → IsLongest (lexeme Integer) (take n bytes) bytes
decimal_longest bytes n s none e whole = record {
  has = inl (decimal_run bytes n s e);
  begins = begins_take n bytes;
  longest = λ o t h b. candidate (length-take-le n bytes (omega (arith, e, run_le is_digit bytes))) o t h b;
}
  where
    candidate : length (take n bytes) ≡ n → (o : Shape) (t : List ℕ) → HasShape o t → Begins t bytes → length t ≤ length (take n bytes)
    candidate size o [] h b = omega arith
    candidate size o (x ∷ xs) h b =
        let p = prefix_from (x ∷ xs) bytes b in
        elim (form_of bytes o x xs s h p) [
          | inl integer ↦
              elim integer.1 [
                | inl d ↦ omega (arith, decimal_bound bytes (x ∷ xs) d p)
                | inr m ↦ absurd (no_marked bytes (x ∷ xs) none m p)
              ]
          | inr fractional ↦ absurd (false≢true (sym whole ∙ fraction_after_run bytes (x ∷ xs) n e fractional.1 p))
        ]

-- a decimal that goes on as a fraction is no item
pub no_item_at_fraction : (bytes : List ℕ) (n : ℕ) → StartsWith Digit bytes → marked_digits bytes ≡ 0 → n ≡ prefix_len is_digit bytes → begins_fraction (drop n bytes) ≡ true → NoItemBegins bytes
no_item_at_fraction bytes n s none e whole = λ item text l. refuse item text l
  where
    short : (item : Item) (t : List ℕ) → IsLongest (shape_of item) t bytes → n < length t → ⊥
    short item [] l longer = omega arith
    short item (x ∷ xs) l longer =
        let p = prefix_from (x ∷ xs) bytes l.begins in
        elim (form_of bytes (shape_of item) x xs s l.has p) [
          | inl integer ↦
              elim integer.1 [
                | inl d ↦ omega (arith, decimal_bound bytes (x ∷ xs) d p)
                | inr m ↦ no_marked bytes (x ∷ xs) none m p
              ]
          | inr fractional ↦ no_malformed_item item fractional.0
        ]

    refuse : (item : Item) (t : List ℕ) → IsLongest (shape_of item) t bytes → ⊥
    refuse item t l =
        let tail = begins_tail_of (drop n bytes) whole in
        let size : length (take n bytes) ≡ n = length-take-le n bytes (omega (arith, e, run_le is_digit bytes)) in
        let joined : IsPrefix (take n bytes ++ tail.0) bytes = prefix_join (take n bytes) tail.0 bytes (prefix_from (take n bytes) bytes (begins_take n bytes)) (subst (λ (k : ℕ). IsPrefix tail.0 (drop k bytes)) (sym size) tail.2) in
        let fractional : IsFractional (take n bytes ++ tail.0) = (take n bytes, tail.0, decimal_run bytes n s e, tail.1, refl) in
        let long : length (take n bytes ++ tail.0) ≤ length t = l.longest malformed (take n bytes ++ tail.0) (inr (inl fractional)) (begins_from (take n bytes ++ tail.0) bytes joined) in
        let cons = tail_cons tail.0 tail.1 in
        let longer : n < length t = omega (arith, size, length-append (take n bytes) tail.0, ap length cons.2) in
        short item t l longer

pub no_open_at_digit : (bytes : List ℕ) → StartsWith Digit bytes → OpenCommentBegins bytes → ⊥
no_open_at_digit [] s o = s
no_open_at_digit (b ∷ bs) s o = no_open_comment b bs (λ e. let f : Digit ≡ Special = sym s ∙ e in cc) o
