-- What a text with a shape is, by the class of its first byte.
use Rattle.std.proofs.Common.{◌≡◌, ◌⊎◌, ℕ, ◌<◌, Bool, true, false, List, [], ◌∷◌, ◌++◌, length, refl, sym, ap, ◌∙◌, subst, inl, inr, arith, append_assoc}
use Rattle.std.specs.Prelude.{IsTrue, codes, if◌then◌else◌}
use Rattle.std.specs.List.{AllByRecursion, flat_map}
use Rattle.std.specs.Str.{IsUtf8}
use Rattle.std.proofs.lemmas.Bool.{eqb-true}
use Rattle.hm_lex.specs.declared.byte_class.ByteClass.{ByteClass}
use Rattle.hm_lex.specs.declared.byte_class.ByteClass.TheVariants.{White, Small, Capital, Digit, Symbol, Special, Quote, DoubleQuote, Other}
use Rattle.hm_lex.specs.declared.token.Kind.{Kind}
use Rattle.hm_lex.specs.declared.token.Kind.TheVariants.{Word, VarId, ConId, QVarId, QConId, Op, Integer, Character, Str}
use Rattle.hm_lex.specs.declared.token.Kind.TheVariants as kind
use Rattle.hm_lex.specs.Bytes.{class_of, is_of_name, is_name_byte, is_symbol, is_symbol_class, is_digit, is_digit_class, is_capital_class}
use Rattle.hm_lex.specs.Runs.{IsRunOf}
use Rattle.hm_lex.specs.Names.{IsNameFrom, IsCapitalName, is_reserved, dotted, qualified, IsQualified, IsVariable, IsReservedWord}
use Rattle.hm_lex.specs.Symbols.{is_dash, is_operator, IsDashes}
use Rattle.hm_lex.specs.Integers.{IsDecimal, IsHexadecimal, IsOctal, IsFractional}
use Rattle.hm_lex.specs.Comments.{IsLineComment, IsNestedComment}
use Rattle.hm_lex.specs.Quotes.{IsCharacter, IsString}
use Rattle.hm_lex.specs.Shapes.{Shape, white_space, comment, lexeme, malformed, HasShape}

-- ---- classes of bytes

pub is_symbol_is : (c : ByteClass) → is_symbol_class c ≡ true → c ≡ Symbol
is_symbol_is White e = absurd cc
is_symbol_is Small e = absurd cc
is_symbol_is Capital e = absurd cc
is_symbol_is Digit e = absurd cc
is_symbol_is Symbol e = refl
is_symbol_is Special e = absurd cc
is_symbol_is Quote e = absurd cc
is_symbol_is DoubleQuote e = absurd cc
is_symbol_is Other e = absurd cc

pub is_capital_is : (c : ByteClass) → is_capital_class c ≡ true → c ≡ Capital
is_capital_is White e = absurd cc
is_capital_is Small e = absurd cc
is_capital_is Capital e = refl
is_capital_is Digit e = absurd cc
is_capital_is Symbol e = absurd cc
is_capital_is Special e = absurd cc
is_capital_is Quote e = absurd cc
is_capital_is DoubleQuote e = absurd cc
is_capital_is Other e = absurd cc

pub is_digit_is : (c : ByteClass) → is_digit_class c ≡ true → c ≡ Digit
is_digit_is White e = absurd cc
is_digit_is Small e = absurd cc
is_digit_is Capital e = absurd cc
is_digit_is Digit e = refl
is_digit_is Symbol e = absurd cc
is_digit_is Special e = absurd cc
is_digit_is Quote e = absurd cc
is_digit_is DoubleQuote e = absurd cc
is_digit_is Other e = absurd cc

pub class_dash : class_of 45 ≡ Symbol
unfolding class_of
class_dash = refl

pub class_brace : class_of 123 ≡ Special
unfolding class_of
class_brace = refl

pub class_zero : class_of 48 ≡ Digit
unfolding class_of
class_zero = refl

pub class_quote : class_of 39 ≡ Quote
unfolding class_of
class_quote = refl

pub class_double_quote : class_of 34 ≡ DoubleQuote
unfolding class_of
class_double_quote = refl

pub dot_not_of_name : is_name_byte 46 ≡ false
unfolding class_of
dot_not_of_name = refl

-- ---- names

abbrev pub AreNameBytes : List ℕ → Type 0
AreNameBytes text = AllByRecursion (λ c. IsTrue (is_name_byte c)) text

pub name_bytes : (class : ByteClass) (text : List ℕ) → is_of_name class ≡ true → IsNameFrom class text → AreNameBytes text
name_bytes class [] e n = tt
name_bytes class (b ∷ bs) e n = (ap is_of_name n.0 ∙ e, n.1)

pub qualified_cons : (q : List ℕ) (qs : List (List ℕ)) (last : List ℕ) → qualified (q ∷ qs) last ≡ q ++ 46 ∷ qualified qs last
qualified_cons q qs last =
    append_assoc (dotted q) (flat_map dotted qs) last ∙ append_assoc q (46 ∷ []) (qualified qs last)

abbrev pub capital_shape : List (List ℕ) → Shape
capital_shape [] = lexeme ConId
capital_shape (q ∷ qs) = lexeme QConId

abbrev pub small_shape : List ℕ → Shape
small_shape text = if is_reserved text then lexeme Word else lexeme VarId

abbrev pub small_last_shape : List ℕ → Shape
small_last_shape last = if is_reserved last then malformed else lexeme QVarId

-- the last part of a name, whose qualifiers are given, and its shape
abbrev pub IsLastPart : List (List ℕ) → List ℕ → Shape → Type 0
IsLastPart qualifiers last s =
    (IsCapitalName last × (s ≡ capital_shape qualifiers))
    ⊎ (IsNameFrom Small last × (0 < length qualifiers) × (s ≡ small_last_shape last))

pub record CapitalForm (s : Shape) (text : List ℕ) : Type 0 where
  pub qualifiers : List (List ℕ)
  pub last : List ℕ
  pub capitals : AllByRecursion IsCapitalName qualifiers
  pub part : IsLastPart qualifiers last s
  pub text_is : text ≡ qualified qualifiers last

-- ---- by the first byte's class

abbrev pub IsUtf8Shape : Shape → List ℕ → Type 0
IsUtf8Shape s text = ((s ≡ comment) × IsUtf8 text) ⊎ ((s ≡ malformed) × (IsUtf8 text → ⊥))

abbrev pub IsRunShape : Shape → List ℕ → Type 0
IsRunShape s text =
    ((s ≡ lexeme Op) × (is_operator text ≡ true)) ⊎ ((s ≡ malformed) × (is_operator text ≡ false) × (IsDashes text → ⊥))

abbrev pub IsSingle : List ℕ → Type 0
IsSingle text = (b : ℕ) × (text ≡ b ∷ [])

abbrev pub FromFirst : ByteClass → Shape → List ℕ → Type 0
FromFirst White s text = (s ≡ white_space) × IsSingle text
FromFirst Small s text = (s ≡ small_shape text) × IsNameFrom Small text
FromFirst Capital s text = CapitalForm s text
FromFirst Digit s text =
    ((s ≡ lexeme Integer) × (IsDecimal text ⊎ IsHexadecimal text ⊎ IsOctal text))
    ⊎ ((s ≡ malformed) × IsFractional text)
FromFirst Symbol s text = (IsRunOf is_symbol text × IsRunShape s text) ⊎ (IsLineComment text × IsUtf8Shape s text)
FromFirst Special s text =
    ((s ≡ lexeme kind.Special) × IsSingle text)
    ⊎ ((s ≡ malformed) × (text ≡ codes "{-"))
    ⊎ (IsNestedComment text × IsUtf8Shape s text)
FromFirst Quote s text = (s ≡ lexeme Character) × IsCharacter text
FromFirst DoubleQuote s text = (s ≡ lexeme Str) × IsString text
FromFirst Other s text = ⊥

module _ (s : Shape) (b : ℕ) (bs : List ℕ) where
  at_class : (c : ByteClass) → class_of b ≡ c → FromFirst c s (b ∷ bs) → FromFirst (class_of b) s (b ∷ bs)
  at_class c e f = subst (λ (k : ByteClass). FromFirst k s (b ∷ bs)) (sym e) f

first_of_qualified : (Last : List ℕ → Type 0) (b : ℕ) (bs : List ℕ) → IsQualified Last (b ∷ bs) → class_of b ≡ Capital
first_of_qualified Last b bs ([], last, few, each, l, e) = absurd (omega arith)
first_of_qualified Last b bs ([] ∷ qs, last, few, each, l, e) = absurd each.0
first_of_qualified Last b bs ((x ∷ xs) ∷ qs, last, few, each, l, e) =
    let e' : b ∷ bs ≡ (x ∷ xs) ++ 46 ∷ qualified qs last = e ∙ qualified_cons (x ∷ xs) qs last in
    let heads : b ≡ x = cc in
    ap class_of heads ∙ each.0.0

capital_qualified : (qs : List (List ℕ)) → 0 < length qs → lexeme QConId ≡ capital_shape qs
capital_qualified [] few = absurd (omega arith)
capital_qualified (q ∷ qs) few = refl

first_of_run : (test : ℕ → Bool) (ds more : List ℕ) (b : ℕ) (bs : List ℕ) → IsRunOf test ds → b ∷ bs ≡ ds ++ more → test b ≡ true
first_of_run test [] more b bs r e = absurd r
first_of_run test (d ∷ ds) more b bs r e = let heads : b ≡ d = cc in ap test heads ∙ r.0

dash_class : (b : ℕ) → is_dash b ≡ true → class_of b ≡ Symbol
dash_class b e = ap class_of (eqb-true b 45 e) ∙ class_dash

first_of_nested : (b : ℕ) (bs : List ℕ) → IsNestedComment (b ∷ bs) → class_of b ≡ Special
first_of_nested b bs n = let e : b ∷ bs ≡ 123 ∷ 45 ∷ n.0 = n.2 in let heads : b ≡ 123 = cc in ap class_of heads ∙ class_brace

comment_first : (s : Shape) (b : ℕ) (bs : List ℕ) → IsLineComment (b ∷ bs) ⊎ IsNestedComment (b ∷ bs) → IsUtf8Shape s (b ∷ bs) → FromFirst (class_of b) s (b ∷ bs)
comment_first s b bs (inl line) u =
    at_class s b bs Symbol (dash_class b (first_of_run is_dash line.0 line.1 b bs line.2.0 line.5)) (inr (line, u))
comment_first s b bs (inr nested) u = at_class s b bs Special (first_of_nested b bs nested) (inr (inr (nested, u)))

run_class : (b : ℕ) → is_symbol b ≡ true → class_of b ≡ Symbol
run_class b e = is_symbol_is (class_of b) e

digit_class : (b : ℕ) → is_digit b ≡ true → class_of b ≡ Digit
digit_class b e = is_digit_is (class_of b) e

first_malformed : (b : ℕ) (bs : List ℕ) → HasShape malformed (b ∷ bs) → FromFirst (class_of b) malformed (b ∷ bs)
first_malformed b bs (inl strange) = at_class malformed b bs Symbol (run_class b strange.0.0) (inl (strange.0, inr (refl, strange.1, strange.2)))
first_malformed b bs (inr (inl fractional)) =
    at_class malformed b bs Digit (digit_class b (first_of_run is_digit fractional.0 fractional.1 b bs fractional.2 fractional.4)) (inr (refl, fractional))
first_malformed b bs (inr (inr (inl q))) =
    at_class malformed b bs Capital (first_of_qualified IsReservedWord b bs q) (record {
      qualifiers = q.0;
      last = q.1;
      capitals = q.3;
      part = inr (q.4.0, q.2, rw q.4.1 refl);
      text_is = q.5;
    })
first_malformed b bs (inr (inr (inr (inl e)))) = let heads : b ≡ 123 = cc in at_class malformed b bs Special (ap class_of heads ∙ class_brace) (inr (inl (refl, e)))
first_malformed b bs (inr (inr (inr (inr c)))) = comment_first malformed b bs c.0 (inr (refl, c.1))

first_kind : (k : Kind) (b : ℕ) (bs : List ℕ) → HasShape (lexeme k) (b ∷ bs) → FromFirst (class_of b) (lexeme k) (b ∷ bs)
first_kind Word b bs h = at_class (lexeme Word) b bs Small h.0.0 (rw h.1 refl, h.0)
first_kind VarId b bs h = at_class (lexeme VarId) b bs Small h.0.0 (rw h.1 refl, h.0)
first_kind ConId b bs h = at_class (lexeme ConId) b bs Capital h.0 (record { qualifiers = []; last = b ∷ bs; capitals = tt; part = inl (h, refl); text_is = refl })
first_kind QVarId b bs q =
    at_class (lexeme QVarId) b bs Capital (first_of_qualified IsVariable b bs q) (record {
      qualifiers = q.0;
      last = q.1;
      capitals = q.3;
      part = inr (q.4.0, q.2, rw q.4.1 refl);
      text_is = q.5;
    })
first_kind QConId b bs q =
    at_class (lexeme QConId) b bs Capital (first_of_qualified IsCapitalName b bs q) (record {
      qualifiers = q.0;
      last = q.1;
      capitals = q.3;
      part = inl (q.4, capital_qualified q.0 q.2);
      text_is = q.5;
    })
first_kind Op b bs h = at_class (lexeme Op) b bs Symbol (run_class b h.0.0) (inl (h.0, inl (refl, h.1)))
first_kind kind.Special b bs h = let heads : b ≡ h.0 = (let e : b ∷ bs ≡ h.0 ∷ [] = h.2 in cc) in at_class (lexeme kind.Special) b bs Special (ap class_of heads ∙ h.1) (inl (refl, (h.0, h.2)))
first_kind Integer b bs (inl d) = at_class (lexeme Integer) b bs Digit (digit_class b d.0) (inl (refl, inl d))
first_kind Integer b bs (inr (inl x)) = let heads : b ≡ 48 = (let e : b ∷ bs ≡ 48 ∷ x.0 ∷ x.1 = x.4 in cc) in at_class (lexeme Integer) b bs Digit (ap class_of heads ∙ class_zero) (inl (refl, inr (inl x)))
first_kind Integer b bs (inr (inr o)) = let heads : b ≡ 48 = (let e : b ∷ bs ≡ 48 ∷ o.0 ∷ o.1 = o.4 in cc) in at_class (lexeme Integer) b bs Digit (ap class_of heads ∙ class_zero) (inl (refl, inr (inr o)))
first_kind Character b bs c =
    let heads : b ≡ 39 = (let e : b ∷ bs ≡ 39 ∷ c.0 ++ 39 ∷ [] = c.2 in cc) in
    at_class (lexeme Character) b bs Quote (ap class_of heads ∙ class_quote) (refl, c)
first_kind Str b bs c =
    let heads : b ≡ 34 = (let e : b ∷ bs ≡ 34 ∷ c.0 = c.2 in cc) in
    at_class (lexeme Str) b bs DoubleQuote (ap class_of heads ∙ class_double_quote) (refl, c)

pub first : (s : Shape) (b : ℕ) (bs : List ℕ) → HasShape s (b ∷ bs) → FromFirst (class_of b) s (b ∷ bs)
first white_space b bs h = let heads : b ≡ h.0 = (let e : b ∷ bs ≡ h.0 ∷ [] = h.2 in cc) in at_class white_space b bs White (ap class_of heads ∙ h.1) (refl, (h.0, h.2))
first comment b bs h = comment_first comment b bs h.0 (inl (refl, h.1))
first (lexeme k) b bs h = first_kind k b bs h
first malformed b bs h = first_malformed b bs h

-- a text with a shape is not empty
none_of_qualified : (Last : List ℕ → Type 0) → IsQualified Last [] → ⊥
none_of_qualified Last ([], last, few, each, l, e) = omega arith
none_of_qualified Last ([] ∷ qs, last, few, each, l, e) = each.0
none_of_qualified Last ((x ∷ xs) ∷ qs, last, few, each, l, e) = cc

none_of_runs : (test : ℕ → Bool) (ds more : List ℕ) → IsRunOf test ds → [] ≡ ds ++ more → ⊥
none_of_runs test [] more r e = r
none_of_runs test (d ∷ ds) more r e = cc

none_of_comment : IsLineComment [] ⊎ IsNestedComment [] → ⊥
none_of_comment (inl line) = none_of_runs is_dash line.0 line.1 line.2.0 line.5
none_of_comment (inr nested) = let e = nested.2 in cc

none_malformed : HasShape malformed [] → ⊥
none_malformed (inl strange) = strange.0
none_malformed (inr (inl f)) = none_of_runs is_digit f.0 f.1 f.2 f.4
none_malformed (inr (inr (inl q))) = none_of_qualified IsReservedWord q
none_malformed (inr (inr (inr (inl e)))) = cc
none_malformed (inr (inr (inr (inr c)))) = none_of_comment c.0

none_kind : (k : Kind) → HasShape (lexeme k) [] → ⊥
none_kind Word h = h.0
none_kind VarId h = h.0
none_kind ConId h = h
none_kind QVarId q = none_of_qualified IsVariable q
none_kind QConId q = none_of_qualified IsCapitalName q
none_kind Op h = h.0
none_kind kind.Special h = let e = h.2 in cc
none_kind Integer (inl d) = d
none_kind Integer (inr (inl x)) = let e = x.4 in cc
none_kind Integer (inr (inr x)) = let e = x.4 in cc
none_kind Character c = let e = c.2 in cc
none_kind Str c = let e = c.2 in cc

pub no_shape_nil : (s : Shape) → HasShape s [] → ⊥
no_shape_nil white_space h = let e = h.2 in cc
no_shape_nil comment h = none_of_comment h.0
no_shape_nil (lexeme k) h = none_kind k h
no_shape_nil malformed h = none_malformed h
