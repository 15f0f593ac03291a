-- A string is UTF-8, and a string byte by byte.
use Rattle.std.proofs.Common.{◌≡◌, ◌≢◌, ◌⊎◌, ℕ, suc, ◌<◌, ◌≤◌, Bool, true, List, [], ◌∷◌, ◌++◌, length, get_or, refl, sym, ap, ◌∙◌, subst, inl, inr, arith}
use Rattle.std.specs.Prelude.{codes, encode_utf8, encode_utf8_all, IsTrue}
use Rattle.std.specs.List.{AllByRecursion}
use Rattle.std.specs.Str.{IsUtf8}
use Rattle.std.proofs.lemmas.Bool.{and_parts, cases_lt}
use Rattle.std.proofs.lemmas.List.{append-nil}
use Rattle.std.proofs.lemmas.Str.{IsUtf8-append, IsUtf8-encode, encode_ascii, char_from_byte, inside_one, length-encode, len_utf8_bounds}
use Rattle.hm_lex.specs.Bytes.{is_digit, is_octal_digit, is_hexadecimal_digit, is_white}
use Rattle.hm_lex.specs.Quotes.{IsStringItem, IsStringRest, ends, item, IsEscape, IsGap}
use Rattle.hm_lex.specs.Quoting.{IsByteRest, byte_ends, byte_item}
use Rattle.hm_lex.proofs.OneShape.{all_of}
use Rattle.hm_lex.proofs.Digits.{ascii_utf8, simple_ascii, digit_ascii, octal_ascii, hexadecimal_ascii, white_ascii}
use lib.Utf8.{scalar, scalars}

abbrev pub AreAscii : List ℕ → Type 0
AreAscii text = AllByRecursion (λ b. b < 128) text

ascii_append : (xs ys : List ℕ) → AreAscii xs → AreAscii ys → AreAscii (xs ++ ys)
ascii_append [] ys a b = b
ascii_append (x ∷ xs) ys a b = (a.0, ascii_append xs ys a.1 b)

ascii_run : (test : ℕ → Bool) → ((b : ℕ) → test b ≡ true → b < 128) → (ds : List ℕ) → AllByRecursion (λ b. IsTrue (test b)) ds → AreAscii ds
ascii_run test low [] a = tt
ascii_run test low (d ∷ ds) a = (low d a.0, ascii_run test low ds a.1)

ascii_same : (xs ys : List ℕ) → xs ≡ ys → AreAscii ys → AreAscii xs
ascii_same xs ys e a = subst (λ (t : List ℕ). AreAscii t) (sym e) a

-- what a backslash begins is ASCII
pub record IsMarked (text : List ℕ) : Type 0 where
  pub tail : List ℕ
  pub text_is : text ≡ 92 ∷ tail
  pub ascii : AreAscii text

marked : (text tail : List ℕ) → text ≡ 92 ∷ tail → AreAscii tail → IsMarked text
marked text tail e a = record { tail = tail; text_is = e; ascii = ascii_same text (92 ∷ tail) e (omega arith, a) }

pub marked_escape : (text rest : List ℕ) → IsEscape text rest → IsMarked text
marked_escape text rest (inl (b, h, e)) = marked text (b ∷ []) e (simple_ascii b h, tt)
marked_escape text rest (inr (inl (ds, r, f, le, e))) = marked text ds e (ascii_run is_digit digit_ascii ds (all_of is_digit ds r))
marked_escape text rest (inr (inr (inl (ds, r, f, le, e)))) = marked text (111 ∷ ds) e (omega arith, ascii_run is_octal_digit octal_ascii ds (all_of is_octal_digit ds r))
marked_escape text rest (inr (inr (inr (ds, r, f, le, e)))) = marked text (120 ∷ ds) e (omega arith, ascii_run is_hexadecimal_digit hexadecimal_ascii ds (all_of is_hexadecimal_digit ds r))

marked_ampersand : (text : List ℕ) → text ≡ codes "\\&" → IsMarked text
marked_ampersand text e = marked text (38 ∷ []) e (omega arith, tt)

marked_gap : (text : List ℕ) → IsGap text → IsMarked text
marked_gap text (ws, r, e) = marked text (ws ++ 92 ∷ []) e (ascii_append ws (92 ∷ []) (ascii_run is_white white_ascii ws (all_of is_white ws r)) (omega arith, tt))

-- an item that no plain character is
abbrev IsOther : List ℕ → List ℕ → Type 0
IsOther text rest = IsEscape text rest ⊎ (text ≡ codes "\\&") ⊎ IsGap text

marked_other : (text rest : List ℕ) → IsOther text rest → IsMarked text
marked_other text rest (inl i) = marked_escape text rest i
marked_other text rest (inr (inl e)) = marked_ampersand text e
marked_other text rest (inr (inr g)) = marked_gap text g

other_item : (text rest : List ℕ) → IsOther text rest → IsStringItem text rest
other_item text rest (inl i) = inl (inr i)
other_item text rest (inr (inl e)) = inr (inl e)
other_item text rest (inr (inr g)) = inr (inr g)

-- ---- from characters to bytes

abbrev Plain : ℕ → Type 0
Plain b = (32 ≤ b) × (b ≢ 34) × (b ≢ 92)

plain_bytes : (c : ℕ) → Plain c → (k : ℕ) → k < length (encode_utf8 c) → Plain (get_or (encode_utf8 c) k 0)
plain_bytes c p k lt = elim (cases_lt (get_or (encode_utf8 c) k 0) 128) [
  | inl low ↦ subst (λ (b : ℕ). Plain b) (inside_one c [] (encode_utf8 c) k (sym (append-nil (encode_utf8 c))) lt low) p
  | inr high ↦ (omega arith, (λ e. omega arith), (λ e. omega arith))
]

spread : (xs rest : List ℕ) → ((k : ℕ) → k < length xs → Plain (get_or xs k 0)) → IsByteRest rest → IsByteRest (xs ++ rest)
spread [] rest p r = r
spread (x ∷ xs) rest p r =
    let here = p 0 (omega arith) in
    byte_item (x ∷ []) (xs ++ rest) (inl (x, here.0, here.1, here.2, refl)) (spread xs rest (λ k lt. p (suc k) (omega arith)) r) refl

joined : (text first rest : List ℕ) → text ≡ first ++ rest → IsUtf8 first → IsUtf8 rest → IsUtf8 text
joined text first rest e u v = subst (λ (t : List ℕ). IsUtf8 t) (sym e) (IsUtf8-append first rest u v)

pub to_bytes : (text : List ℕ) → IsStringRest text → IsByteRest text × IsUtf8 text
to_bytes text (ends e) = (byte_ends e, ascii_utf8 text (ascii_same text (34 ∷ []) e (omega arith, tt)))
to_bytes text (item first rest (inl (inl (c, s, l, m, n, f))) r e) =
    let k = to_bytes rest r in
    let g : text ≡ encode_utf8 c ++ rest = e ∙ ap (λ (t : List ℕ). t ++ rest) f in
    (subst (λ (t : List ℕ). IsByteRest t) (sym g) (spread (encode_utf8 c) rest (plain_bytes c (l, m, n)) k.0), joined text (encode_utf8 c) rest g (IsUtf8-encode c s) k.1)
to_bytes text (item first rest (inl (inr i)) r e) =
    let k = to_bytes rest r in
    (byte_item first rest (inr (inl i)) k.0 e, joined text first rest e (ascii_utf8 first (marked_escape first rest i).ascii) k.1)
to_bytes text (item first rest (inr (inl i)) r e) =
    let k = to_bytes rest r in
    (byte_item first rest (inr (inr (inl i))) k.0 e, joined text first rest e (ascii_utf8 first (marked_ampersand first i).ascii) k.1)
to_bytes text (item first rest (inr (inr i)) r e) =
    let k = to_bytes rest r in
    (byte_item first rest (inr (inr (inr i))) k.0 e, joined text first rest e (ascii_utf8 first (marked_gap first i).ascii) k.1)

-- ---- from bytes to characters

abbrev AreHigh : List ℕ → Type 0
AreHigh text = AllByRecursion (λ b. 128 ≤ b) text

high_from : (xs : List ℕ) → ((k : ℕ) → k < length xs → 128 ≤ get_or xs k 0) → AreHigh xs
high_from [] h = tt
high_from (x ∷ xs) h = (h 0 (omega arith), high_from xs (λ k lt. h (suc k) (omega arith)))

-- the first byte of a character and its others
record Parts (c : ℕ) : Type 0 where
  pub head : ℕ
  pub others : List ℕ
  pub bytes_are : encode_utf8 c ≡ head ∷ others
  pub high : AreHigh others
  pub head_is : (head ≡ c) ⊎ (128 ≤ c)

high_parts : (c : ℕ) → 128 ≤ c → (xs : List ℕ) → encode_utf8 c ≡ xs → ((k : ℕ) → k < length (encode_utf8 c) → 128 ≤ get_or (encode_utf8 c) k 0) → Parts c
high_parts c le [] e h = absurd (omega (arith, length-encode c, len_utf8_bounds c, ap length e))
high_parts c le (x ∷ xs) e h =
    let h' : (k : ℕ) → k < length (x ∷ xs) → 128 ≤ get_or (x ∷ xs) k 0 = subst (λ (t : List ℕ). (k : ℕ) → k < length t → 128 ≤ get_or t k 0) e h in
    let all = high_from (x ∷ xs) h' in
    record { head = x; others = xs; bytes_are = e; high = all.1; head_is = inr le }

parts : (c : ℕ) → Parts c
parts c = elim (cases_lt c 128) [
  | inl low ↦ record { head = c; others = []; bytes_are = encode_ascii c low; high = tt; head_is = inl refl }
  | inr le ↦ high_parts c le (encode_utf8 c) refl (λ k lt. elim (cases_lt (get_or (encode_utf8 c) k 0) 128) [
    | inl low ↦ absurd (omega (arith, inside_one c [] (encode_utf8 c) k (sym (append-nil (encode_utf8 c))) lt low))
    | inr high ↦ high
  ])
]

plain_of_head : (b c head : ℕ) → Plain b → b ≡ head → (head ≡ c) ⊎ (128 ≤ c) → Plain c
plain_of_head b c head p e (inl f) = subst (λ (x : ℕ). Plain x) (e ∙ f) p
plain_of_head b c head p e (inr le) = (omega arith, (λ f. omega arith), (λ f. omega arith))

-- ASCII before some characters
record Stripped (rest : List ℕ) : Type 0 where
  pub chars : List ℕ
  pub scalar : scalars chars ≡ true
  pub rest_is : rest ≡ encode_utf8_all chars

strip : (xs rest cs : List ℕ) → AreAscii xs → scalars cs ≡ true → xs ++ rest ≡ encode_utf8_all cs → Stripped rest
strip [] rest cs a s e = record { chars = cs; scalar = s; rest_is = e }
strip (x ∷ xs) rest [] a s e = absurd (let f : x ∷ xs ++ rest ≡ [] = e in cc)
strip (x ∷ xs) rest (c ∷ cs) a s e =
    let low : x < 128 = a.0 in
    let same : c ≡ x = char_from_byte (x ∷ xs ++ rest) (encode_utf8_all cs) c e low (omega arith) in
    let one : encode_utf8 c ≡ x ∷ [] = ap encode_utf8 same ∙ encode_ascii x low in
    let f : x ∷ xs ++ rest ≡ x ∷ encode_utf8_all cs = e ∙ ap (λ (t : List ℕ). t ++ encode_utf8_all cs) one in
    strip xs rest cs a.1 (and_parts (scalar c) (scalars cs) s).1 (cc)

-- the rest of a string, where pend is what is left of a character, and cs are those after it
read : (t : List ℕ) → IsByteRest t → (pend cs : List ℕ) → AreHigh pend → scalars cs ≡ true → t ≡ pend ++ encode_utf8_all cs → IsStringRest (encode_utf8_all cs)
read t (byte_ends e) [] cs h s f = ends (sym f ∙ e)
read t (byte_ends e) (p ∷ ps) cs h s f = absurd (let g : p ≡ 34 = cc in let high : 128 ≤ p = h.0 in omega arith)
read t (byte_item first rest (inl (b, l, m, n, i)) r e) (p ∷ ps) cs h s f =
    let g : b ∷ rest ≡ p ∷ ps ++ encode_utf8_all cs = ap (λ (u : List ℕ). u ++ rest) (sym i) ∙ sym e ∙ f in
    read rest r ps cs h.1 s (cc)
read t (byte_item first rest (inr o) r e) (p ∷ ps) cs h s f =
    let k = marked_other first rest o in
    let g : 92 ∷ k.tail ++ rest ≡ p ∷ ps ++ encode_utf8_all cs = ap (λ (u : List ℕ). u ++ rest) (sym k.text_is) ∙ sym e ∙ f in
    absurd (let q : p ≡ 92 = cc in let high : 128 ≤ p = h.0 in omega arith)
read t (byte_item first rest (inl (b, l, m, n, i)) r e) [] [] h s f =
    absurd (let g : b ∷ rest ≡ [] = ap (λ (u : List ℕ). u ++ rest) (sym i) ∙ sym e ∙ f in cc)
read t (byte_item first rest (inl (b, l, m, n, i)) r e) [] (c ∷ cs) h s f =
    let k = parts c in
    let both = and_parts (scalar c) (scalars cs) s in
    let g : b ∷ rest ≡ k.head ∷ k.others ++ encode_utf8_all cs = ap (λ (u : List ℕ). u ++ rest) (sym i) ∙ sym e ∙ f ∙ ap (λ (u : List ℕ). u ++ encode_utf8_all cs) k.bytes_are in
    let heads : b ≡ k.head = cc in
    let tails : rest ≡ k.others ++ encode_utf8_all cs = cc in
    let p = plain_of_head b c k.head (l, m, n) heads k.head_is in
    item (encode_utf8 c) (encode_utf8_all cs) (inl (inl (c, both.0, p.0, p.1, p.2, refl))) (read rest r k.others cs k.high both.1 tails) refl
read t (byte_item first rest (inr o) r e) [] cs h s f =
    let k = strip first rest cs (marked_other first rest o).ascii s (sym e ∙ f) in
    let after : IsStringRest rest = subst (λ (u : List ℕ). IsStringRest u) (sym k.rest_is) (read rest r [] k.chars tt k.scalar k.rest_is) in
    item first rest (other_item first rest o) after (sym f ∙ e)

pub from_bytes : (text : List ℕ) → IsByteRest text → IsUtf8 text → IsStringRest text
from_bytes text r (cs, both) = subst (λ (t : List ℕ). IsStringRest t) both.1 (read text r [] cs tt both.0 (sym both.1))
