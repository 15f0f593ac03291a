-- A text has one shape at most.
use Rattle.std.proofs.Common.{◌≡◌, ◌⊎◌, ℕ, ◌<◌, ◌≤◌, Bool, true, false, eqb, List, [], ◌∷◌, ◌++◌, length, refl, sym, ap, ◌∙◌, subst, inl, inr, arith}
use Rattle.std.specs.Prelude.{IsTrue, ◌||◌, codes}
use Rattle.std.specs.List.{AllByRecursion}
use Rattle.std.proofs.lemmas.Bool.{eqb-true}
use Rattle.std.proofs.lemmas.List.{append-nil}
use Rattle.hm_lex.specs.declared.byte_class.ByteClass.{ByteClass}
use Rattle.hm_lex.specs.declared.byte_class.ByteClass.TheVariants.{White, Small, Capital, Digit, Symbol, Special, Quote, DoubleQuote, Other}
use Rattle.hm_lex.specs.declared.item.Item.{Item}
use Rattle.hm_lex.specs.declared.item.Item.TheVariants as items
use Rattle.hm_lex.specs.Bytes.{class_of, is_name_byte, is_symbol, is_digit, is_one_of}
use Rattle.hm_lex.specs.Runs.{IsRunOf, FirstFails}
use Rattle.hm_lex.specs.Names.{IsNameFrom, IsCapitalName, qualified}
use Rattle.hm_lex.specs.Symbols.{is_operator, IsDashes}
use Rattle.hm_lex.specs.Integers.{IsDecimal, IsHexadecimal, IsOctal, IsFraction, IsExponent, IsFractional}
use Rattle.hm_lex.specs.Comments.{IsLineComment, IsNestedComment, IsCommentRest, closes, plain, nested}
use Rattle.hm_lex.specs.Shapes.{Shape, malformed, HasShape}
use Rattle.hm_lex.specs.Cut.{shape_of}
use Rattle.hm_lex.specs.Faults.{NoItemBegins, OpenCommentBegins}
use Rattle.hm_lex.proofs.ByFirst.{AreNameBytes, name_bytes, qualified_cons, capital_shape, small_last_shape, IsLastPart, CapitalForm, IsUtf8Shape, IsRunShape, FromFirst, first, no_shape_nil, dot_not_of_name, class_brace}

pub shape_positive : (a : Shape) (text : List ℕ) → HasShape a text → 0 < length text
shape_positive a [] p = absurd (no_shape_nil a p)
shape_positive a (b ∷ bs) p = omega arith

-- ---- names

-- a part, a dot and the rest come apart in one way
split_at_dot : (q r t u : List ℕ) → AreNameBytes q → AreNameBytes r → q ++ 46 ∷ t ≡ r ++ 46 ∷ u → (q ≡ r) × (t ≡ u)
split_at_dot [] [] t u a b e = (refl, cc)
split_at_dot [] (y ∷ r) t u a b e = let dot : 46 ≡ y = cc in absurd (let f : is_name_byte 46 ≡ true = ap is_name_byte dot ∙ b.0 in let g = dot_not_of_name in cc)
split_at_dot (x ∷ q) [] t u a b e = let dot : 46 ≡ x = cc in absurd (let f : is_name_byte 46 ≡ true = ap is_name_byte dot ∙ a.0 in let g = dot_not_of_name in cc)
split_at_dot (x ∷ q) (y ∷ r) t u a b e =
    let tails : q ++ 46 ∷ t ≡ r ++ 46 ∷ u = cc in
    let both = split_at_dot q r t u a.1 b.1 tails in
    let heads : x ≡ y = cc in
    let parts : q ≡ r = both.0 in
    (cc, both.1)

-- a part has no dot in it
pub no_dot_within : (last q t : List ℕ) → AreNameBytes last → last ≡ q ++ 46 ∷ t → ⊥
no_dot_within [] [] t a e = cc
no_dot_within [] (y ∷ q) t a e = cc
no_dot_within (x ∷ last) [] t a e = let dot : x ≡ 46 = cc in let f : is_name_byte 46 ≡ true = ap is_name_byte (sym dot) ∙ a.0 in let g = dot_not_of_name in cc
no_dot_within (x ∷ last) (y ∷ q) t a e = let tails : last ≡ q ++ 46 ∷ t = cc in no_dot_within last q t a.1 tails

pub capital_bytes : (q : List ℕ) → IsCapitalName q → AreNameBytes q
capital_bytes q n = name_bytes Capital q refl n

one_split : (qs rs : List (List ℕ)) (last end : List ℕ) → AllByRecursion IsCapitalName qs → AllByRecursion IsCapitalName rs → AreNameBytes last → AreNameBytes end → qualified qs last ≡ qualified rs end → (qs ≡ rs) × (last ≡ end)
one_split [] [] last end a b m n e = (refl, e)
one_split [] (r ∷ rs) last end a b m n e = absurd (no_dot_within last r (qualified rs end) m (e ∙ qualified_cons r rs end))
one_split (q ∷ qs) [] last end a b m n e = absurd (no_dot_within end q (qualified qs last) n (sym e ∙ qualified_cons q qs last))
one_split (q ∷ qs) (r ∷ rs) last end a b m n e =
    let heads = split_at_dot q r (qualified qs last) (qualified rs end) (capital_bytes q a.0) (capital_bytes r b.0) (sym (qualified_cons q qs last) ∙ e ∙ qualified_cons r rs end) in
    let tails = one_split qs rs last end a.1 b.1 m n heads.1 in
    let one : q ≡ r = heads.0 in
    let others : qs ≡ rs = tails.0 in
    (cc, tails.1)

pub last_bytes : (qs : List (List ℕ)) (last : List ℕ) (s : Shape) → IsLastPart qs last s → AreNameBytes last
last_bytes qs last s (inl c) = capital_bytes last c.0
last_bytes qs last s (inr c) = name_bytes Small last refl c.0

two_classes : (last : List ℕ) → IsNameFrom Capital last → IsNameFrom Small last → ⊥
two_classes [] a b = a
two_classes (x ∷ xs) a b = let e : Capital ≡ Small = sym a.0 ∙ b.0 in cc

same_part : (qs rs : List (List ℕ)) (last end : List ℕ) (s t : Shape) → qs ≡ rs → last ≡ end → IsLastPart qs last s → IsLastPart rs end t → s ≡ t
same_part qs rs last end s t e f (inl c) (inl d) = c.1 ∙ ap capital_shape e ∙ sym d.1
same_part qs rs last end s t e f (inl c) (inr d) = absurd (two_classes end (subst (λ (x : List ℕ). IsNameFrom Capital x) f c.0) d.0)
same_part qs rs last end s t e f (inr c) (inl d) = absurd (two_classes last (subst (λ (x : List ℕ). IsNameFrom Capital x) (sym f) d.0) c.0)
same_part qs rs last end s t e f (inr c) (inr d) = c.2 ∙ ap small_last_shape f ∙ sym d.2

same_capital : (s t : Shape) (text : List ℕ) → CapitalForm s text → CapitalForm t text → s ≡ t
same_capital s t text p q =
    let one = one_split p.qualifiers q.qualifiers p.last q.last p.capitals q.capitals (last_bytes p.qualifiers p.last s p.part) (last_bytes q.qualifiers q.last t q.part) (sym p.text_is ∙ q.text_is) in
    same_part p.qualifiers q.qualifiers p.last q.last s t one.0 one.1 p.part q.part

-- ---- numbers

-- a byte that fails stands in no run
pub fails_within : (test : ℕ → Bool) (ds more : List ℕ) (c : ℕ) → AllByRecursion (λ b. IsTrue (test b)) (ds ++ c ∷ more) → test c ≡ false → ⊥
fails_within test [] more c a f = let g = a.0 in cc
fails_within test (x ∷ xs) more c a f = fails_within test xs more c a.1 f

pub all_of : (test : ℕ → Bool) (t : List ℕ) → IsRunOf test t → AllByRecursion (λ b. IsTrue (test b)) t
all_of test [] r = absurd r
all_of test (x ∷ xs) r = r

dot_no_digit : is_digit 46 ≡ false
unfolding class_of
dot_no_digit = refl

pub one_of_two : (x y b : ℕ) → IsTrue (is_one_of (x ∷ y ∷ []) b) → (b ≡ x) ⊎ (b ≡ y)
one_of_two x y b e = decide (eqb x b) refl (eqb y b) refl e
  where
    decide : (s : Bool) → eqb x b ≡ s → (t : Bool) → eqb y b ≡ t → (s || (t || false)) ≡ true → (b ≡ x) ⊎ (b ≡ y)
    decide true p t q h = inl (sym (eqb-true x b p))
    decide false p true q h = inr (sym (eqb-true y b q))
    decide false p false q h = absurd cc

exponent_no_digit : (b : ℕ) → IsTrue (is_one_of (codes "eE") b) → is_digit b ≡ false
unfolding class_of
exponent_no_digit b e = elim (one_of_two 101 69 b e) [ inl h ↦ rw h refl | inr h ↦ rw h refl ]

abbrev pub begins_tail : ℕ → Bool
begins_tail b = is_one_of (codes ".eE") b

-- what may follow a decimal begins with no digit
pub tail_cons : (more : List ℕ) → IsFraction more ⊎ IsExponent more → (c : ℕ) × (cs : List ℕ) × (more ≡ c ∷ cs) × (is_digit c ≡ false) × IsTrue (begins_tail c)
tail_cons more (inl f) = (46, f.0 ∷ [], f.2, dot_no_digit, refl)
tail_cons more (inr x) = (x.0, x.1 ++ x.2 ∷ [], x.6, exponent_no_digit x.0 x.3, elim (one_of_two 101 69 x.0 x.3) [ inl h ↦ rw h refl | inr h ↦ rw h refl ])

-- the mark of a hexadecimal or an octal number
pub record IsMark (b : ℕ) : Type 0 where
  pub no_digit : is_digit b ≡ false
  pub no_tail : begins_tail b ≡ false

pub hexadecimal_mark : (b : ℕ) → IsTrue (is_one_of (codes "xX") b) → IsMark b
unfolding class_of
hexadecimal_mark b e = elim (one_of_two 120 88 b e) [ inl h ↦ record { no_digit = rw h refl; no_tail = rw h refl } | inr h ↦ record { no_digit = rw h refl; no_tail = rw h refl } ]

pub octal_mark : (b : ℕ) → IsTrue (is_one_of (codes "oO") b) → IsMark b
unfolding class_of
octal_mark b e = elim (one_of_two 111 79 b e) [ inl h ↦ record { no_digit = rw h refl; no_tail = rw h refl } | inr h ↦ record { no_digit = rw h refl; no_tail = rw h refl } ]

marked_not_fractional : (digits cs : List ℕ) (c mark : ℕ) (ds : List ℕ) → IsDecimal digits → IsMark mark → IsTrue (begins_tail c) → 48 ∷ mark ∷ ds ≡ digits ++ c ∷ cs → ⊥
marked_not_fractional [] cs c mark ds d m t e = d
marked_not_fractional (x ∷ []) cs c mark ds d m t e = let f : mark ≡ c = cc in let g = ap begins_tail f in let h = m.no_tail in cc
marked_not_fractional (x ∷ y ∷ digits) cs c mark ds d m t e = let f : mark ≡ y = cc in let g = ap is_digit f in let h = m.no_digit in let k = d.1.0 in cc

integer_not_fractional : (text : List ℕ) → IsDecimal text ⊎ IsHexadecimal text ⊎ IsOctal text → IsFractional text → ⊥
integer_not_fractional text (inl p) f =
    let t = tail_cons f.1 f.3 in
    fails_within is_digit f.0 t.1 t.0 (subst (λ (x : List ℕ). AllByRecursion (λ b. IsTrue (is_digit b)) x) (f.4 ∙ ap (λ (x : List ℕ). f.0 ++ x) t.2) (all_of is_digit text p)) t.3
integer_not_fractional text (inr (inl h)) f =
    let t = tail_cons f.1 f.3 in
    marked_not_fractional f.0 t.1 t.0 h.0 h.1 f.2 (hexadecimal_mark h.0 h.2) t.4 (sym h.4 ∙ f.4 ∙ ap (λ (x : List ℕ). f.0 ++ x) t.2)
integer_not_fractional text (inr (inr h)) f =
    let t = tail_cons f.1 f.3 in
    marked_not_fractional f.0 t.1 t.0 h.0 h.1 f.2 (octal_mark h.0 h.2) t.4 (sym h.4 ∙ f.4 ∙ ap (λ (x : List ℕ). f.0 ++ x) t.2)

same_digit : (s t : Shape) (text : List ℕ) → FromFirst Digit s text → FromFirst Digit t text → s ≡ t
same_digit s t text (inl p) (inl q) = p.0 ∙ sym q.0
same_digit s t text (inl p) (inr q) = absurd (integer_not_fractional text p.1 q.1)
same_digit s t text (inr p) (inl q) = absurd (integer_not_fractional text q.1 p.1)
same_digit s t text (inr p) (inr q) = p.0 ∙ sym q.0

-- ---- symbols

same_utf8 : (s t : Shape) (text : List ℕ) → IsUtf8Shape s text → IsUtf8Shape t text → s ≡ t
same_utf8 s t text (inl a) (inl b) = a.0 ∙ sym b.0
same_utf8 s t text (inl a) (inr b) = absurd (b.1 a.1)
same_utf8 s t text (inr a) (inl b) = absurd (a.1 b.1)
same_utf8 s t text (inr a) (inr b) = a.0 ∙ sym b.0

same_run : (s t : Shape) (text : List ℕ) → IsRunShape s text → IsRunShape t text → s ≡ t
same_run s t text (inl a) (inl b) = a.0 ∙ sym b.0
same_run s t text (inl a) (inr b) = absurd (let e = a.1 in let f = b.1 in cc)
same_run s t text (inr a) (inl b) = absurd (let e = a.1 in let f = b.1 in cc)
same_run s t text (inr a) (inr b) = a.0 ∙ sym b.0

dashes_no_operator : (text : List ℕ) → IsDashes text → is_operator text ≡ false
unfolding is_operator
dashes_no_operator [] d = absurd d.0
dashes_no_operator (b ∷ []) d = absurd (omega (arith, d.1))
dashes_no_operator (b ∷ c ∷ bs) d = rw (eqb-true b 45 d.0.0, eqb-true c 45 d.0.1.0) refl

-- a comment that is a run of symbols is its dashes
run_comment_dashes : (text dashes line : List ℕ) → IsRunOf is_symbol text → IsDashes dashes → FirstFails is_symbol line → text ≡ dashes ++ line → text ≡ dashes
run_comment_dashes text dashes [] r d f e = e ∙ append-nil dashes
run_comment_dashes text dashes (c ∷ line) r d f e = absurd (fails_within is_symbol dashes line c (subst (λ (t : List ℕ). AllByRecursion (λ b. IsTrue (is_symbol b)) t) e (all_of is_symbol text r)) f)

run_no_comment : (s : Shape) (text : List ℕ) → IsRunOf is_symbol text → IsRunShape s text → IsLineComment text → ⊥
run_no_comment s text r shape c =
    let e = run_comment_dashes text c.0 c.1 r c.2 c.3 c.5 in
    let d : IsDashes text = subst (λ (t : List ℕ). IsDashes t) (sym e) c.2 in
    elim shape [
      | inl a ↦ let f = a.1 in let g = dashes_no_operator text d in cc
      | inr a ↦ a.2 d
    ]

-- ---- special marks and nested comments

pub comment_rest_nonempty : (text : List ℕ) → IsCommentRest text → text ≡ [] → ⊥
comment_rest_nonempty text (closes e) f = cc
comment_rest_nonempty text (plain b rest p c e) f = cc
comment_rest_nonempty text (nested inner rest a c e) f = cc

mark_no_comment : (text : List ℕ) → text ≡ codes "{-" → IsNestedComment text → ⊥
mark_no_comment text e c = let f = c.2 in comment_rest_nonempty c.0 c.1 cc

same_special : (s t : Shape) (text : List ℕ) → FromFirst Special s text → FromFirst Special t text → s ≡ t
same_special s t text (inl p) (inl q) = p.0 ∙ sym q.0
same_special s t text (inl p) (inr (inl q)) = absurd (let e = p.1.1 in let f = q.1 in cc)
same_special s t text (inl p) (inr (inr q)) = absurd (let e = p.1.1 in let f = q.0.2 in cc)
same_special s t text (inr (inl p)) (inl q) = absurd (let e = q.1.1 in let f = p.1 in cc)
same_special s t text (inr (inl p)) (inr (inl q)) = p.0 ∙ sym q.0
same_special s t text (inr (inl p)) (inr (inr q)) = absurd (mark_no_comment text p.1 q.0)
same_special s t text (inr (inr p)) (inl q) = absurd (let e = q.1.1 in let f = p.0.2 in cc)
same_special s t text (inr (inr p)) (inr (inl q)) = absurd (mark_no_comment text q.1 p.0)
same_special s t text (inr (inr p)) (inr (inr q)) = same_utf8 s t text p.1 q.1

-- ---- all

same_at : (c : ByteClass) (s t : Shape) (text : List ℕ) → FromFirst c s text → FromFirst c t text → s ≡ t
same_at White s t text p q = p.0 ∙ sym q.0
same_at Small s t text p q = p.0 ∙ sym q.0
same_at Capital s t text p q = same_capital s t text p q
same_at Digit s t text p q = same_digit s t text p q
same_at Symbol s t text (inl p) (inl q) = same_run s t text p.1 q.1
same_at Symbol s t text (inl p) (inr q) = absurd (run_no_comment s text p.0 p.1 q.0)
same_at Symbol s t text (inr p) (inl q) = absurd (run_no_comment t text q.0 q.1 p.0)
same_at Symbol s t text (inr p) (inr q) = same_utf8 s t text p.1 q.1
same_at Special s t text p q = same_special s t text p q
same_at Quote s t text p q = p.0 ∙ sym q.0
same_at DoubleQuote s t text p q = p.0 ∙ sym q.0
same_at Other s t text p q = absurd p

pub shape_unique : (a b : Shape) (text : List ℕ) → HasShape a text → HasShape b text → a ≡ b
shape_unique a b [] p q = absurd (no_shape_nil a p)
shape_unique a b (x ∷ xs) p q = same_at (class_of x) a b (x ∷ xs) (first a x xs p) (first b x xs q)

pub no_malformed_item : (item : Item) → shape_of item ≡ malformed → ⊥
no_malformed_item items.White e = cc
no_malformed_item items.Comment e = cc
no_malformed_item (items.Lexeme k) e = cc

pub open_comment_no_item : (bytes : List ℕ) → OpenCommentBegins bytes → NoItemBegins bytes
open_comment_no_item bytes o item [] l = no_shape_nil (shape_of item) l.has
open_comment_no_item bytes o item (x ∷ xs) l =
    let e = o.opens.1 in
    let f = l.begins.1 in
    let heads : x ≡ 123 = cc in
    let long : 2 ≤ length (x ∷ xs) = l.longest malformed (codes "{-") (inr (inr (inr (inl refl)))) o.opens in
    let form : FromFirst Special (shape_of item) (x ∷ xs) = subst (λ (c : ByteClass). FromFirst c (shape_of item) (x ∷ xs)) (ap class_of heads ∙ class_brace) (first (shape_of item) x xs l.has) in
    elim form [
      | inl single ↦ omega (arith, ap length single.1.1)
      | inr (inl mark) ↦ no_malformed_item item mark.0
      | inr (inr remark) ↦ o.never_closed (x ∷ xs) remark.0 l.begins
    ]
