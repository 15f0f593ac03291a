-- Constructors and literals are read as they are spelled.
use Rattle.std.proofs.Common.{◌≡◌, inl, inr, ℕ, suc, ◌<◌, ◌≤◌, List, [], ◌∷◌, length, Bool, true, false, nat_le, Some, refl, sym, ap, ◌∙◌, subst, arith, codes}
use Rattle.hm_syntax.specs.Names.{Identifier, LiteralTree}
use Rattle.hm_parse_grammar.specs.declared.symbol.Symbol.{Symbol}
use Rattle.hm_parse_grammar.specs.declared.symbol.Symbol.TheVariants.{Open, Close, OpenSquare, CloseSquare, Comma, Colon, Con, QCon, Integer, Character, Text}
use Rattle.hm_parse_grammar.specs.Symbols.{same}
use Rattle.hm_parse_grammar.specs.Tokens.{Terminal}
use Rattle.hm_parse_grammar.specs.Grammar.Patterns.{special, tuple_text, CommaMarks, marks_none, marks_more, Gcon, gcon_qcon, gcon_unit, gcon_nil, gcon_tuple, gcon_cons, Literal', literal_integer, literal_character, literal_string}
use Rattle.hm_parse_grammar.specs.Reading.Basics.{is_at}
use Rattle.hm_parse_grammar.specs.Reading.Constructors.{begins_gcon, marks, commas_at, mark_by, mark_at, gcon_by, gcon_at, literal_by, literal_at}
use Rattle.hm_parse_grammar.proofs.Holds.{Holds, holds_none, holds_some, holds_if, holds_then, holds_expect, same_true}
use Rattle.hm_parse_grammar.proofs.CommaLaws.{le_of, le_is}

-- ---- literals

pub literal_found : (ts : List Terminal) → Holds (λ (x : LiteralTree × List Terminal). Literal' x.0 ts x.1) (literal_at ts)
unfolding literal_at
literal_found [] = holds_none
literal_found (k ∷ ts) = by_symbol k.symbol refl
  where
    by_symbol : (s : Symbol) → k.symbol ≡ s → Holds (λ (x : LiteralTree × List Terminal). Literal' x.0 (k ∷ ts) x.1) (literal_by s (k ∷ ts))
    by_symbol Integer e = holds_some _ (literal_integer e)
    by_symbol Character e = holds_some _ (literal_character e)
    by_symbol Text e = holds_some _ (literal_string e)
    by_symbol _ e = holds_none

pub literal_short : {l : LiteralTree} {ts rest : List Terminal} → Literal' l ts rest → length rest < length ts
literal_short (literal_integer q) = omega arith
literal_short (literal_character q) = omega arith
literal_short (literal_string q) = omega arith

pub literal_only : {l : LiteralTree} {ts rest : List Terminal} → Literal' l ts rest → literal_at ts ≡ Some (l, rest)
unfolding literal_at
literal_only (literal_integer q) = rw q refl
literal_only (literal_character q) = rw q refl
literal_only (literal_string q) = rw q refl

-- ---- commas

pub marks_go : (k : Terminal) (ts : List Terminal) → k.symbol ≡ Comma → marks (k ∷ ts) ≡ (suc (marks ts).0, (marks ts).1)
unfolding marks
marks_go k ts q = rw q refl

pub marks_stay : (ts : List Terminal) → is_at Comma ts ≡ false → marks ts ≡ (0, ts)
unfolding marks
marks_stay [] h = refl
marks_stay (k ∷ ts) h = rw h refl

marks_found : (ts : List Terminal) → CommaMarks (marks ts).0 ts (marks ts).1
marks_found [] = subst (λ (z : ℕ × List Terminal). CommaMarks z.0 [] z.1) (sym (marks_stay [] refl)) marks_none
marks_found (k ∷ ts) = chosen (same k.symbol Comma) refl (marks_found ts)
  where
    chosen : (c : Bool) → same k.symbol Comma ≡ c → CommaMarks (marks ts).0 ts (marks ts).1 → CommaMarks (marks (k ∷ ts)).0 (k ∷ ts) (marks (k ∷ ts)).1
    chosen true e d =
        let q : k.symbol ≡ Comma = same_true _ _ e in
        subst (λ (z : ℕ × List Terminal). CommaMarks z.0 (k ∷ ts) z.1) (sym (marks_go k ts q)) (marks_more q d)
    chosen false e d = subst (λ (z : ℕ × List Terminal). CommaMarks z.0 (k ∷ ts) z.1) (sym (marks_stay (k ∷ ts) e)) marks_none

marks_only : {n : ℕ} {ts rest : List Terminal} → CommaMarks n ts rest → is_at Comma rest ≡ false → marks ts ≡ (n, rest)
marks_only (marks_none {ts = ts}) h = marks_stay ts h
marks_only (marks_more {n = n} {k = k} {us = us} {rest = rest} q d) h =
    marks_go k us q ∙ ap (λ (z : ℕ × List Terminal). let pair : ℕ × List Terminal = (suc z.0, z.1) in pair) (marks_only d h)

marks_short : {n : ℕ} {ts rest : List Terminal} → CommaMarks n ts rest → length rest ≤ length ts
marks_short marks_none = omega arith
marks_short (marks_more q d) = omega (arith, marks_short d)

-- ---- constructors

pub gcon_short : {n : Identifier} {ts rest : List Terminal} → Gcon n ts rest → length rest < length ts
gcon_short (gcon_qcon q) = omega arith
gcon_short (gcon_unit o c) = omega arith
gcon_short (gcon_nil o c) = omega arith
gcon_short (gcon_tuple o d n c) = omega (arith, marks_short d)
gcon_short (gcon_cons o q c) = omega arith

-- commas, at least one and not too many
pub record Commas (ts : List Terminal) (n : ℕ) (rest : List Terminal) : Type 0 where
  pub are : CommaMarks n ts rest
  pub few : n ≤ 14
  pub some : (k : Terminal) (us : List Terminal) → ts ≡ k ∷ us → k.symbol ≡ Comma → (m : ℕ) × (n ≡ suc m)

commas_found : (ts : List Terminal) → Holds (λ (x : ℕ × List Terminal). Commas ts x.0 x.1) (commas_at ts)
unfolding commas_at
commas_found ts =
    holds_if (nat_le (marks ts).0 14) _ _
    (λ low. holds_some (marks ts) (record { are = marks_found ts; few = le_of _ _ low; some = counted }))
    (λ _. holds_none)
  where
    counted : (k : Terminal) (us : List Terminal) → ts ≡ k ∷ us → k.symbol ≡ Comma → (m : ℕ) × ((marks ts).0 ≡ suc m)
    counted k us e q = ((marks us).0, ap (λ z. (marks z).0) e ∙ ap (λ (z : ℕ × List Terminal). z.0) (marks_go k us q))

tuple_found : (k l : Terminal) (ts : List Terminal) → k.symbol ≡ Open → l.symbol ≡ Comma →
    Holds (λ (x : List ℕ × List Terminal). Gcon (special x.0 k) (k ∷ l ∷ ts) x.1) (mark_by Comma (l ∷ ts))
tuple_found k l ts o q =
    holds_then _ _ (commas_found (l ∷ ts)) (λ (n : ℕ × List Terminal) d.
    holds_expect Close n.1 _ (λ m us eq c. holds_some _ (spelled n.0 n.1 d m us eq c (d.some l ts refl q))))
  where
    spelled : (n : ℕ) (vs : List Terminal) → Commas (l ∷ ts) n vs → (m : Terminal) (us : List Terminal) → vs ≡ m ∷ us → m.symbol ≡ Close → (i : ℕ) × (n ≡ suc i) → Gcon (special (tuple_text n) k) (k ∷ l ∷ ts) us
    spelled n vs d m us eq c (i, e) =
        let here : CommaMarks (suc i) (l ∷ ts) (m ∷ us) = subst (λ z. CommaMarks z (l ∷ ts) (m ∷ us)) e (subst (λ z. CommaMarks n (l ∷ ts) z) eq d.are) in
        let low : suc i ≤ 14 = omega (arith, d.few, e) in
        subst (λ z. Gcon (special (tuple_text z) k) (k ∷ l ∷ ts) us) (sym e) (gcon_tuple o here low c)

pub gcon_found : (ts : List Terminal) → Holds (λ (x : Identifier × List Terminal). Gcon x.0 ts x.1) (gcon_at ts)
unfolding gcon_at mark_at
gcon_found [] = holds_none
gcon_found (k ∷ ts) = by_symbol k.symbol refl
  where
    in_parentheses : k.symbol ≡ Open → (us : List Terminal) → ts ≡ us → Holds (λ (x : List ℕ × List Terminal). Gcon (special x.0 k) (k ∷ us) x.1) (mark_at us)
    in_parentheses o [] e = holds_none
    in_parentheses o (l ∷ us) e = marked l.symbol refl
      where
        marked : (s : Symbol) → l.symbol ≡ s → Holds (λ (x : List ℕ × List Terminal). Gcon (special x.0 k) (k ∷ l ∷ us) x.1) (mark_by s (l ∷ us))
        marked Close q = holds_some _ (gcon_unit o q)
        marked Colon q = holds_expect Close us _ (λ m vs eq c. holds_some _ (subst (λ z. Gcon (special (codes ":") k) (k ∷ l ∷ z) vs) (sym eq) (gcon_cons o q c)))
        marked Comma q = tuple_found k l us o q
        marked _ q = holds_none

    by_symbol : (s : Symbol) → k.symbol ≡ s → Holds (λ (x : Identifier × List Terminal). Gcon x.0 (k ∷ ts) x.1) (gcon_by s (k ∷ ts))
    by_symbol Con e = holds_some _ (gcon_qcon (inl e))
    by_symbol QCon e = holds_some _ (gcon_qcon (inr e))
    by_symbol Open e = holds_then _ _ (in_parentheses e ts refl) (λ (x : List ℕ × List Terminal) d. holds_some _ d)
    by_symbol OpenSquare e = holds_expect CloseSquare ts _ (λ m us eq c. holds_some _ (subst (λ z. Gcon (special (codes "[]") k) (k ∷ z) us) (sym eq) (gcon_nil e c)))
    by_symbol _ e = holds_none

pub gcon_begins : {n : Identifier} {ts rest : List Terminal} → Gcon n ts rest → begins_gcon ts ≡ true
unfolding begins_gcon
gcon_begins (gcon_qcon (inl q)) = rw q refl
gcon_begins (gcon_qcon (inr q)) = rw q refl
gcon_begins (gcon_unit o c) = rw (o, c) refl
gcon_begins (gcon_nil o c) = rw (o, c) refl
gcon_begins (gcon_tuple o (marks_more q d) n c) = rw (o, q) refl
gcon_begins (gcon_cons o q c) = rw (o, q) refl

commas_are : (n : ℕ) (ts rest : List Terminal) → marks ts ≡ (n, rest) → n ≤ 14 → commas_at ts ≡ Some (n, rest)
unfolding commas_at
commas_are n ts rest e few = rw (e, le_is n 14 few) refl

opened : (k : Terminal) (us : List Terminal) (text : List ℕ) (rest : List Terminal) → k.symbol ≡ Open → mark_at us ≡ Some (text, rest) → gcon_at (k ∷ us) ≡ Some (special text k, rest)
unfolding gcon_at
opened k us text rest o e = rw o (rw e refl)

comma_mark : (l : Terminal) (us : List Terminal) (n : ℕ) (m : Terminal) (rest : List Terminal) → l.symbol ≡ Comma → commas_at (l ∷ us) ≡ Some (n, m ∷ rest) → m.symbol ≡ Close → mark_at (l ∷ us) ≡ Some (tuple_text n, rest)
unfolding mark_at
comma_mark l us n m rest q e c = ap (λ z. mark_by z (l ∷ us)) q ∙ rw e (rw c refl)

pub gcon_only : {n : Identifier} {ts rest : List Terminal} → Gcon n ts rest → gcon_at ts ≡ Some (n, rest)
unfolding gcon_at mark_at
gcon_only (gcon_qcon (inl q)) = rw q refl
gcon_only (gcon_qcon (inr q)) = rw q refl
gcon_only (gcon_unit o c) = rw o (rw c refl)
gcon_only (gcon_nil o c) = rw o (rw c refl)
gcon_only (gcon_tuple {n = n} {k = k} {m = m} {rest = rest} o (marks_more {k = l} {us = us} q d) few c) =
    opened k (l ∷ us) (tuple_text (suc n)) rest o
    (comma_mark l us (suc n) m rest q (commas_are (suc n) (l ∷ us) (m ∷ rest) (marks_only (marks_more {k = l} {us = us} q d) (ap (λ z. same z Comma) c)) few) c)
gcon_only (gcon_cons o q c) = rw o (rw q (rw c refl))
