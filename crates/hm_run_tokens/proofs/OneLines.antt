-- Texts with a shape that have no line end: all except white space, nested comments and strings.
use Rattle.std.proofs.Common.{◌≡◌, ◌≢◌, ◌⊎◌, inl, inr, ℕ, suc, ◌<◌, ◌≤◌, Bool, true, false, List, [], ◌∷◌, ◌++◌, length, get_or, refl, sym, ap, ◌∙◌, subst, arith, append_assoc, codes}
use Rattle.std.specs.Prelude.{IsTrue, encode_utf8}
use Rattle.std.specs.List.{AllByRecursion, flat_map}
use Rattle.std.proofs.lemmas.Bool.{cases_lt, eqb-true, false≢true}
use Rattle.std.proofs.lemmas.List.{append-nil}
use Rattle.std.proofs.lemmas.Str.{inside_one}
use Rattle.hm_lex.specs.declared.token.Kind.{Kind}
use Rattle.hm_lex.specs.declared.token.Kind.TheVariants as kind
use Rattle.hm_lex.specs.Bytes.{class_of, is_one_of, is_symbol, is_digit, is_octal_digit, is_hexadecimal_digit}
use Rattle.hm_lex.specs.Comments.{IsLineComment, IsNestedComment}
use Rattle.hm_lex.specs.Cut.{is_line_end}
use Rattle.hm_lex.specs.Integers.{IsDecimal, IsHexadecimal, IsOctal, IsMarkedNumber, IsFraction, IsExponent, IsFractional}
use Rattle.hm_lex.specs.Names.{IsCapitalName, IsReservedWord, IsVariable, IsQualified, dotted, qualified}
use Rattle.hm_lex.specs.Quotes.{IsEscape, IsCharacterItem, IsCharacter}
use Rattle.hm_lex.specs.Runs.{IsRunOf}
use Rattle.hm_lex.specs.Shapes.{IsMalformed, HasKind}
use Rattle.hm_lex.specs.Symbols.{is_dash}
use Rattle.hm_lex.proofs.OneLine.{IsOneLine, one_line}
use Rattle.hm_lex.proofs.OneShape.{all_of}

-- a byte that passes a test which a line end fails
inside : (test : ℕ → Bool) (b : ℕ) → test 10 ≡ false → IsTrue (test b) → is_line_end b ≡ false
inside test b w t = go (is_line_end b) refl
  where
    go : (x : Bool) → is_line_end b ≡ x → is_line_end b ≡ false
    go true e = absurd (false≢true (sym w ∙ ap test (sym (eqb-true b 10 e)) ∙ t))
    go false e = e

other_byte : (b : ℕ) → b ≢ 10 → is_line_end b ≡ false
other_byte b n = go (is_line_end b) refl
  where
    go : (x : Bool) → is_line_end b ≡ x → is_line_end b ≡ false
    go true e = absurd (n (eqb-true b 10 e))
    go false e = e

all_inside : (test : ℕ → Bool) (text : List ℕ) → test 10 ≡ false → AllByRecursion (λ b. IsTrue (test b)) text → IsOneLine text
all_inside test [] w a = tt
all_inside test (b ∷ bs) w a = (inside test b w a.0, all_inside test bs w a.1)

run_inside : (test : ℕ → Bool) (text : List ℕ) → test 10 ≡ false → IsRunOf test text → IsOneLine text
run_inside test text w r = all_inside test text w (all_of test text r)

others_inside : (text : List ℕ) → AllByRecursion (λ b. b ≢ 10) text → IsOneLine text
others_inside [] a = tt
others_inside (b ∷ bs) a = (other_byte b a.0, others_inside bs a.1)

both_inside : (a b : List ℕ) → IsOneLine a → IsOneLine b → IsOneLine (a ++ b)
both_inside [] b h k = k
both_inside (x ∷ a) b h k = (h.0, both_inside a b h.1 k)

same_inside : (a b : List ℕ) → a ≡ b → IsOneLine b → IsOneLine a
same_inside a b e h = subst (λ (t : List ℕ). IsOneLine t) (sym e) h

-- ---- line ends fail the tests of bytes

symbol_end : is_symbol 10 ≡ false
unfolding class_of
symbol_end = refl

digit_end : is_digit 10 ≡ false
unfolding class_of
digit_end = refl

-- ---- names

capital_inside : (text : List ℕ) → IsCapitalName text → IsOneLine text
capital_inside text h = one_line kind.ConId text refl h

parts_inside : (names : List (List ℕ)) (last : List ℕ) → AllByRecursion IsCapitalName names → IsOneLine last → IsOneLine (qualified names last)
parts_inside [] last h k = k
parts_inside (n ∷ ns) last h k =
    rw (append_assoc (dotted n) (flat_map dotted ns) last)
    (both_inside (dotted n) (flat_map dotted ns ++ last) (both_inside n (46 ∷ []) (capital_inside n h.0) (refl, tt)) (parts_inside ns last h.1 k))

qualified_inside : (Last : List ℕ → Type 0) (text : List ℕ) → ((last : List ℕ) → Last last → IsOneLine last) → IsQualified Last text → IsOneLine text
qualified_inside Last text inside (names, last, some, all, is, same) = same_inside text (qualified names last) same (parts_inside names last all (inside last is))

-- ---- numbers

marked_inside : (marks : List ℕ) (test : ℕ → Bool) (text : List ℕ) → is_one_of marks 10 ≡ false → test 10 ≡ false → IsMarkedNumber marks test text → IsOneLine text
marked_inside marks test text m w (mark, digits, is_mark, run, same) =
    same_inside text (48 ∷ mark ∷ digits) same (refl, (inside (is_one_of marks) mark m is_mark, run_inside test digits w run))

integer_inside : (text : List ℕ) → IsDecimal text ⊎ IsHexadecimal text ⊎ IsOctal text → IsOneLine text
integer_inside text (inl d) = run_inside is_digit text digit_end d
integer_inside text (inr (inl x)) = marked_inside (codes "xX") is_hexadecimal_digit text refl refl x
integer_inside text (inr (inr o)) = marked_inside (codes "oO") is_octal_digit text refl refl o

tail_inside : (more : List ℕ) → IsFraction more ⊎ IsExponent more → IsOneLine more
tail_inside more (inl (digit, is, same)) = same_inside more (46 ∷ digit ∷ []) same (refl, (inside is_digit digit digit_end is, tt))
tail_inside more (inr (mark, sign, digit, is_mark, is_sign, is, same)) =
    let signs : IsOneLine sign = elim is_sign [
      | inl e ↦ same_inside sign [] e tt
      | inr (inl e) ↦ same_inside sign (codes "+") e (refl, tt)
      | inr (inr e) ↦ same_inside sign (codes "-") e (refl, tt)
    ] in
    same_inside more (mark ∷ sign ++ digit ∷ []) same (inside (is_one_of (codes "eE")) mark refl is_mark, both_inside sign (digit ∷ []) signs (inside is_digit digit digit_end is, tt))

fractional_inside : (text : List ℕ) → IsFractional text → IsOneLine text
fractional_inside text (digits, more, d, m, same) = same_inside text (digits ++ more) same (both_inside digits more (run_inside is_digit digits digit_end d) (tail_inside more m))

-- ---- symbols and line comments

symbols_inside : (text : List ℕ) → IsRunOf is_symbol text → IsOneLine text
symbols_inside text r = run_inside is_symbol text symbol_end r

line_inside : (text : List ℕ) → IsLineComment text → IsOneLine text
line_inside text (dashes, line, d, f, a, same) = same_inside text (dashes ++ line) same (both_inside dashes line (run_inside is_dash dashes refl d.0) (others_inside line a))

-- ---- characters

from_each : (xs : List ℕ) → ((k : ℕ) → k < length xs → get_or xs k 0 ≢ 10) → IsOneLine xs
from_each [] h = tt
from_each (x ∷ xs) h = (other_byte x (h 0 (omega arith)), from_each xs (λ k lt. h (suc k) (omega arith)))

plain_inside : (c : ℕ) → 32 ≤ c → IsOneLine (encode_utf8 c)
plain_inside c le = from_each (encode_utf8 c) (λ k lt. elim (cases_lt (get_or (encode_utf8 c) k 0) 128) [
  | inl low ↦ (λ e. omega (arith, inside_one c [] (encode_utf8 c) k (sym (append-nil (encode_utf8 c))) lt low, e, le))
  | inr high ↦ (λ e. omega (arith, high, e))
])

escape_inside : (text rest : List ℕ) → IsEscape text rest → IsOneLine text
escape_inside text rest (inl (b, h, e)) = same_inside text (92 ∷ b ∷ []) e (refl, (inside (is_one_of (codes "abfnrtv\\\"'")) b refl h, tt))
escape_inside text rest (inr (inl (ds, r, f, le, e))) = same_inside text (92 ∷ ds) e (refl, run_inside is_digit ds digit_end r)
escape_inside text rest (inr (inr (inl (ds, r, f, le, e)))) = same_inside text (92 ∷ 111 ∷ ds) e (refl, (refl, run_inside is_octal_digit ds refl r))
escape_inside text rest (inr (inr (inr (ds, r, f, le, e)))) = same_inside text (92 ∷ 120 ∷ ds) e (refl, (refl, run_inside is_hexadecimal_digit ds refl r))

item_inside : (text rest : List ℕ) → IsCharacterItem 39 text rest → IsOneLine text
item_inside text rest (inl (c, s, le, n, m, e)) = same_inside text (encode_utf8 c) e (plain_inside c le)
item_inside text rest (inr e) = escape_inside text rest e

character_inside : (text : List ℕ) → IsCharacter text → IsOneLine text
character_inside text (i, is, same) = same_inside text (39 ∷ i ++ 39 ∷ []) same (refl, both_inside i (39 ∷ []) (item_inside i (39 ∷ []) is) (refl, tt))

-- ---- all

-- a lexeme that is no string
pub kind_inside : (k : Kind) (text : List ℕ) → HasKind k text → (k ≡ kind.Str → ⊥) → IsOneLine text
kind_inside kind.Word text h n = one_line kind.Word text refl h
kind_inside kind.VarId text h n = one_line kind.VarId text refl h
kind_inside kind.ConId text h n = one_line kind.ConId text refl h
kind_inside kind.Op text h n = one_line kind.Op text refl h
kind_inside kind.Special text h n = one_line kind.Special text refl h
kind_inside kind.QVarId text h n = qualified_inside IsVariable text (λ last is. one_line kind.VarId last refl is) h
kind_inside kind.QConId text h n = qualified_inside IsCapitalName text capital_inside h
kind_inside kind.Integer text h n = integer_inside text h
kind_inside kind.Character text h n = character_inside text h
kind_inside kind.Str text h n = absurd (n refl)

pub comment_inside : (text : List ℕ) → IsLineComment text → IsOneLine text
comment_inside text h = line_inside text h

-- a malformed text that is no nested comment
pub malformed_inside : (text : List ℕ) → IsMalformed text → (IsNestedComment text → ⊥) → IsOneLine text
malformed_inside text (inl strange) n = symbols_inside text strange.0
malformed_inside text (inr (inl fractional)) n = fractional_inside text fractional
malformed_inside text (inr (inr (inl q))) n = qualified_inside IsReservedWord text (λ last is. one_line kind.Word last refl is) q
malformed_inside text (inr (inr (inr (inl mark)))) n = same_inside text (codes "{-") mark (refl, (refl, tt))
malformed_inside text (inr (inr (inr (inr (inl line, bad))))) n = line_inside text line
malformed_inside text (inr (inr (inr (inr (inr nested, bad))))) n = absurd (n nested)
