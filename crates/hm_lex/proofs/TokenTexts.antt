-- The tokens of a source lie in it, and their bytes are text.
use Rattle.std.proofs.Common.{◌≡◌, inl, inr, ℕ, ◌+◌, ◌-◌, ◌<◌, ◌≤◌, ◌==◌, List, [], ◌∷◌, ◌++◌, length, Bool, true, false, nat_le, IsTrue, refl, sym, ◌∙◌, subst, arith, codes, length-append, append_assoc, lit<}
use Rattle.std.specs.Str.{IsUtf8}
use Rattle.std.specs.Int.{is_in_range}
use Rattle.std.specs.List.{All, AllByRecursion, flat_map, slice_range}
use Rattle.std.proofs.lemmas.List.Elements.{All-from_recursion}
use Rattle.std.proofs.lemmas.List.{append-nil}
use Rattle.std.proofs.Math.Seq.{take-append_seam, drop-append_seam}
use Rattle.std.proofs.lemmas.Str.{IsUtf8-append, IsUtf8-encode}
use Rattle.std.proofs.lemmas.Bool.Decides.{nat_tests}
use Rattle.hm_lex.specs.declared.byte_class.ByteClass.{ByteClass}
use Rattle.hm_lex.specs.declared.byte_class.ByteClass.TheVariants as classes
use Rattle.hm_lex.specs.declared.item.Item.{Item}
use Rattle.hm_lex.specs.declared.item.Item.TheVariants as items
use Rattle.hm_lex.specs.declared.token.Kind.{Kind}
use Rattle.hm_lex.specs.declared.token.Kind.TheVariants as kinds
use Rattle.hm_lex.specs.declared.token.Token.{Token}
use Rattle.hm_lex.specs.Bytes.{is_one_of, class_of, is_name_byte, is_symbol, is_digit, is_octal_digit, is_hexadecimal_digit}
use Rattle.hm_lex.specs.Runs.{IsRunOf}
use Rattle.hm_lex.specs.Names.{IsNameFrom, IsCapitalName, IsVariable, dotted, qualified}
use Rattle.hm_lex.specs.Integers.{IsMarkedNumber}
use Rattle.hm_lex.specs.Quotes.{IsCharacterItem, IsCharacter, IsString}
use Rattle.hm_lex.specs.Shapes.{HasKind, HasShape}
use Rattle.hm_lex.specs.Cut.{Piece, text_of, AreLongest, shape_of, token_after, item_tokens, tokens_after, tokens_of}
use Rattle.hm_lex.specs.Faults.{AreTokensOf}
use Rattle.hm_lex.specs.Texts.{LiesIn}
use Rattle.hm_lex.proofs.Bytewise.{to_bytes, marked_escape}
use Rattle.hm_lex.proofs.Digits.{ascii_utf8}

-- ---- bytes past ASCII begin nothing

abbrev low : ℕ → Type 0
low b = b < 128

eqb_high : (c b : ℕ) → c < 128 → 128 ≤ b → (c == b) ≡ false
eqb_high c b l h = grind (arith, nat_tests)

not_one_of : (bytes : List ℕ) (b : ℕ) → AllByRecursion low bytes → 128 ≤ b → is_one_of bytes b ≡ false
not_one_of [] b l h = refl
not_one_of (c ∷ cs) b l h = rw (eqb_high c b l.0 h) (not_one_of cs b l.1 h)

not_in_range : (m n b : ℕ) → n < 128 → 128 ≤ b → is_in_range m n b ≡ false
not_in_range m n b l h = grind (arith, nat_tests)

eqb_past : (b c : ℕ) → c < 128 → 128 ≤ b → (b == c) ≡ false
eqb_past b c l h = grind (arith, nat_tests)

high_is_other : (b : ℕ) → 128 ≤ b → class_of b ≡ classes.Other
unfolding class_of
high_is_other b h =
    rw (
      not_in_range 9 13 b (omega arith) h,
      eqb_past b 32 (omega arith) h,
      not_in_range 97 122 b (omega arith) h,
      eqb_past b 95 (omega arith) h,
      not_in_range 65 90 b (omega arith) h,
      not_in_range 48 57 b (omega arith) h,
      eqb_past b 39 (omega arith) h,
      eqb_past b 34 (omega arith) h,
      not_one_of (codes "()[]{},;") b (lit< tt, (lit< tt, (lit< tt, (lit< tt, (lit< tt, (lit< tt, (lit< tt, (lit< tt, tt)))))))) h,
      not_one_of (codes "!#$%&*+./<=>?@\\^|-~:") b (lit< tt, (lit< tt, (lit< tt, (lit< tt, (lit< tt, (lit< tt, (lit< tt, (lit< tt, (lit< tt, (lit< tt, (lit< tt, (lit< tt, (lit< tt, (lit< tt, (lit< tt, (lit< tt, (lit< tt, (lit< tt, (lit< tt, (lit< tt, tt)))))))))))))))))))) h,
    ) refl

-- a test that bytes past ASCII fail
record Low (test : ℕ → Bool) : Type 0 where
  fails : (b : ℕ) → 128 ≤ b → test b ≡ false

byte_low : {test : ℕ → Bool} → Low test → (b : ℕ) → IsTrue (test b) → b < 128
byte_low {test = test} l b h = chosen (nat_le 128 b) refl
  where
    chosen : (c : Bool) → nat_le 128 b ≡ c → b < 128
    chosen true e = let none : test b ≡ false = l.fails b (grind (arith, nat_tests)) in let z : false ≡ true = rw none at h in cc
    chosen false e = grind (arith, nat_tests)

bytes_low : {test : ℕ → Bool} → Low test → (bytes : List ℕ) → AllByRecursion (λ b. IsTrue (test b)) bytes → AllByRecursion low bytes
bytes_low l [] h = tt
bytes_low l (b ∷ bs) h = (byte_low l b h.0, bytes_low l bs h.1)

name_low : Low is_name_byte
name_low = record { fails = λ b h. rw (high_is_other b h) refl }

symbol_low : Low is_symbol
symbol_low = record { fails = λ b h. rw (high_is_other b h) refl }

digit_low : Low is_digit
digit_low = record { fails = λ b h. rw (high_is_other b h) refl }

octal_low : Low is_octal_digit
octal_low = record { fails = λ b h. rw (not_in_range 48 55 b (lit< tt) h) refl }

hexadecimal_low : Low is_hexadecimal_digit
hexadecimal_low = record { fails = λ b h. rw (not_in_range 48 57 b (lit< tt) h, not_in_range 65 70 b (lit< tt) h, not_in_range 97 102 b (lit< tt) h) refl }

run_low : {test : ℕ → Bool} → Low test → (text : List ℕ) → IsRunOf test text → AllByRecursion low text
run_low l [] h = tt
run_low l (b ∷ bs) h = (byte_low l b h.0, bytes_low l bs h.1)

class_low : (b : ℕ) (c : ByteClass) → class_of b ≡ c → (classes.Other ≡ c → ⊥) → b < 128
class_low b c e n = chosen (nat_le 128 b) refl
  where
    chosen : (t : Bool) → nat_le 128 b ≡ t → b < 128
    chosen true q = absurd (n (sym (high_is_other b (grind (arith, nat_tests))) ∙ e))
    chosen false q = grind (arith, nat_tests)

name_from_low : (c : ByteClass) (text : List ℕ) → (classes.Other ≡ c → ⊥) → IsNameFrom c text → AllByRecursion low text
name_from_low c [] n h = tt
name_from_low c (b ∷ bs) n h = (class_low b c h.0 n, bytes_low name_low bs h.1)

both_low : (a b : List ℕ) → AllByRecursion low a → AllByRecursion low b → AllByRecursion low (a ++ b)
both_low [] b h k = k
both_low (x ∷ a) b h k = (h.0, both_low a b h.1 k)

capital_low : (text : List ℕ) → IsCapitalName text → AllByRecursion low text
capital_low text h = name_from_low classes.Capital text (λ e. cc) h

variable_low : (text : List ℕ) → IsVariable text → AllByRecursion low text
variable_low text h = name_from_low classes.Small text (λ e. cc) h.0

parts_low : (names : List (List ℕ)) (last : List ℕ) → AllByRecursion IsCapitalName names → AllByRecursion low last → AllByRecursion low (qualified names last)
parts_low [] last h k = k
parts_low (n ∷ ns) last h k =
    rw (append_assoc (dotted n) (flat_map dotted ns) last)
    (both_low (dotted n) (flat_map dotted ns ++ last) (both_low n (46 ∷ []) (capital_low n h.0) (lit< tt, tt)) (parts_low ns last h.1 k))

marked_low : (marks : List ℕ) (test : ℕ → Bool) (text : List ℕ) → AllByRecursion low marks → Low test → IsMarkedNumber marks test text → AllByRecursion low text
marked_low marks test text m l (mark, digits, is_mark, run, same) =
    subst (λ z. AllByRecursion low z) (sym same) (lit< tt, (byte_low (record { fails = λ b h. not_one_of marks b m h }) mark is_mark, run_low l digits run))

-- ---- characters and strings

byte_text : (b : ℕ) → b < 128 → IsUtf8 (b ∷ [])
byte_text b small = ascii_utf8 (b ∷ []) (small, tt)

item_text : (item rest : List ℕ) → IsCharacterItem 39 item rest → IsUtf8 item
item_text item rest (inl (c, scalar, least, quote, backslash, same)) = subst (λ (t : List ℕ). IsUtf8 t) (sym same) (IsUtf8-encode c scalar)
item_text item rest (inr escape) = ascii_utf8 item (marked_escape item rest escape).ascii

character_text : (text : List ℕ) → IsCharacter text → IsUtf8 text
character_text text (item, is_item, same) =
    let closed : IsUtf8 (item ++ 39 ∷ []) = IsUtf8-append item (39 ∷ []) (item_text item (39 ∷ []) is_item) (byte_text 39 (lit< tt)) in
    subst (λ (t : List ℕ). IsUtf8 t) (sym same) (IsUtf8-append (39 ∷ []) (item ++ 39 ∷ []) (byte_text 39 (lit< tt)) closed)

string_text : (text : List ℕ) → IsString text → IsUtf8 text
string_text text (rest, is_rest, same) =
    subst (λ (t : List ℕ). IsUtf8 t) (sym same) (IsUtf8-append (34 ∷ []) rest (byte_text 34 (lit< tt)) (to_bytes rest is_rest).1)

low_text : (text : List ℕ) → AllByRecursion low text → IsUtf8 text
low_text text all = ascii_utf8 text all

kind_text : (k : Kind) (text : List ℕ) → HasKind k text → IsUtf8 text
kind_text kinds.Word text h = low_text text (name_from_low classes.Small text (λ e. cc) h.0)
kind_text kinds.VarId text h = low_text text (variable_low text h)
kind_text kinds.ConId text h = low_text text (capital_low text h)
kind_text kinds.QVarId text (names, last, some, all, is, same) = low_text text (subst (λ z. AllByRecursion low z) (sym same) (parts_low names last all (variable_low last is)))
kind_text kinds.QConId text (names, last, some, all, is, same) = low_text text (subst (λ z. AllByRecursion low z) (sym same) (parts_low names last all (capital_low last is)))
kind_text kinds.Op text h = low_text text (run_low symbol_low text h.0)
kind_text kinds.Special text (b, is, same) = low_text text (subst (λ z. AllByRecursion low z) (sym same) (class_low b classes.Special is (λ e. cc), tt))
kind_text kinds.Integer text (inl h) = low_text text (run_low digit_low text h)
kind_text kinds.Integer text (inr (inl h)) = low_text text (marked_low (codes "xX") is_hexadecimal_digit text (lit< tt, (lit< tt, tt)) hexadecimal_low h)
kind_text kinds.Integer text (inr (inr h)) = low_text text (marked_low (codes "oO") is_octal_digit text (lit< tt, (lit< tt, tt)) octal_low h)
kind_text kinds.Character text h = character_text text h
kind_text kinds.Str text h = string_text text h

-- ---- tokens

range_is : (before text rest : List ℕ) → slice_range (before ++ (text ++ rest)) (length before) (length before + length text) ≡ text
range_is before text rest =
    let same : length before + length text - length before ≡ length text = omega arith in
    rw (same, drop-append_seam before (text ++ rest)) (take-append_seam text rest)

token_lies : (before text rest : List ℕ) (k : Kind) → HasKind k text → LiesIn (before ++ (text ++ rest)) (token_after before k text)
token_lies before text rest k h = record {
  ordered = omega arith;
  within = omega (arith, length-append before (text ++ rest), length-append text rest);
  is_text = rw (range_is before text rest) (kind_text k text h);
}

item_lies : (before text rest : List ℕ) (i : Item) (more : List Token) → HasShape (shape_of i) text →
    AllByRecursion (LiesIn (before ++ (text ++ rest))) more → AllByRecursion (LiesIn (before ++ (text ++ rest))) (item_tokens before i text ++ more)
item_lies before text rest items.White more h m = m
item_lies before text rest items.Comment more h m = m
item_lies before text rest (items.Lexeme k) more h m = (token_lies before text rest k h, m)

lie_after : (before rest : List ℕ) (ps : List Piece) → AreLongest ps rest → AllByRecursion (LiesIn (before ++ text_of ps)) (tokens_after before ps)
lie_after before rest [] h = tt
lie_after before rest (p ∷ ps) h =
    item_lies before p.text (text_of ps) p.item (tokens_after (before ++ p.text) ps) h.0.has
    (subst (λ z. AllByRecursion (LiesIn z) (tokens_after (before ++ p.text) ps)) (append_assoc before p.text (text_of ps)) (lie_after (before ++ p.text) rest ps h.1))

pub all_lie : (source : List ℕ) (tokens : List Token) → AreTokensOf source tokens → AllByRecursion (LiesIn source) tokens
all_lie source tokens a =
    let joined : text_of a.pieces ≡ source = sym (append-nil (text_of a.pieces)) ∙ a.cut.joined in
    subst (λ z. AllByRecursion (LiesIn source) z) (sym a.tokens_are) (subst (λ z. AllByRecursion (LiesIn z) (tokens_of a.pieces)) joined (lie_after [] [] a.pieces a.cut.longest))

pub token_texts : (source : List ℕ) (tokens : List Token) → AreTokensOf source tokens → All (LiesIn source) tokens
token_texts source tokens a = All-from_recursion (LiesIn source) tokens (all_lie source tokens a)
