-- The parser of constructors.
use Rattle.std.proofs.Common.{◌≡◌, ℕ, zero, suc, ◌+◌, ◌≤◌, List, [], ◌∷◌, ◌++◌, true, false, Some, None, refl, sym, ap, ◌∙◌, arith}
use Rattle.hm_lex.specs.declared.token.Place.{Place}
use Rattle.hm_syntax.specs.Names.{Identifier}
use Rattle.hm_parse_grammar.specs.declared.symbol.Symbol.TheVariants.{Comma, Colon, Open, OpenSquare}
use Rattle.hm_parse_grammar.specs.Tokens.{Terminal}
use Rattle.hm_parse_grammar.specs.Grammar.Patterns.{commas, tuple_text}
use Rattle.hm_parse_grammar.specs.Reading.Basics.{peek, is_at, tail}
use Rattle.hm_parse_grammar.specs.Reading.Constructors.{marks, IsPlaceAt, special_at, commas_at}
use Rattle.hm_parse_grammar.proofs.Holds.{same_true}
use Rattle.hm_parse_grammar.proofs.CommaLaws.{le_is, le_not}
use Rattle.hm_parse_grammar.proofs.ConstructorLaws.{marks_go, marks_stay}

pub marks_fewer : (ts : List Terminal) → is_at Comma ts ≡ true → (marks ts).0 ≡ (marks (tail ts)).0 + 1
marks_fewer [] h = cc
marks_fewer (k ∷ ts) h = let go = ap (λ (z : ℕ × List Terminal). z.0) (marks_go k ts (same_true _ _ h)) in omega arith

pub marks_rest : (ts : List Terminal) → is_at Comma ts ≡ true → (marks ts).1 ≡ (marks (tail ts)).1
marks_rest [] h = cc
marks_rest (k ∷ ts) h = ap (λ (z : ℕ × List Terminal). z.1) (marks_go k ts (same_true _ _ h))

commas_more : (n : ℕ) → commas n ++ 44 ∷ [] ≡ 44 ∷ commas n
commas_more zero = refl
commas_more (suc n) = ap (λ z. 44 ∷ z) (commas_more n)

pub marks_text : (text : List ℕ) (n : ℕ) → text ≡ 40 ∷ commas n → text ++ 44 ∷ [] ≡ 40 ∷ commas (n + 1)
marks_text text n e = let next : n + 1 ≡ suc n = omega arith in rw (e, next) (ap (λ z. 40 ∷ z) (commas_more n))

pub marks_closed : (text : List ℕ) (n : ℕ) → text ≡ 40 ∷ commas n → text ++ 41 ∷ [] ≡ tuple_text n
marks_closed text n e = rw e refl

stays : (n : ℕ) (us ts : List Terminal) → n + (marks us).0 ≡ (marks ts).0 → (marks us).1 ≡ (marks ts).1 → is_at Comma us ≡ false → marks ts ≡ (n, us)
stays n us ts count rest h =
    let stay = marks_stay us h in
    let first : (marks ts).0 ≡ n = omega (arith, count, ap (λ (z : ℕ × List Terminal). z.0) stay) in
    let second : (marks ts).1 ≡ us = sym rest ∙ ap (λ (z : ℕ × List Terminal). z.1) stay in
    pair (marks ts) n us first second
  where
    pair : (p : ℕ × List Terminal) (n : ℕ) (us : List Terminal) → p.0 ≡ n → p.1 ≡ us → p ≡ (n, us)
    pair p n us a b = λ i. (a i, b i)

pub marks_end : (n : ℕ) (us ts : List Terminal) → n + (marks us).0 ≡ (marks ts).0 → (marks us).1 ≡ (marks ts).1 → is_at Comma us ≡ false → n ≤ 14 → commas_at ts ≡ Some (n, us)
unfolding commas_at
marks_end n us ts count rest h few = rw (stays n us ts count rest h) (rw (le_is n 14 few) refl)

pub marks_many : (n : ℕ) (us ts : List Terminal) → n + (marks us).0 ≡ (marks ts).0 → is_at Comma us ≡ true → 14 ≤ n → commas_at ts ≡ None
unfolding commas_at
marks_many n us ts count h many = rw (le_not (marks ts).0 14 (omega (arith, count, marks_fewer us h))) refl

pub colon_is : (ts : List Terminal) (place : Place) (text : List ℕ) → is_at Colon ts ≡ true → IsPlaceAt ts place →
    ◌≡◌ {A = Identifier} (record { qualifier = None; text = text; line = place.line; column = place.column }) (special_at text ts)
colon_is [] place text e p = cc
colon_is (k ∷ ts) place text e p = λ i. record { qualifier = None; text = text; line = p.0 i; column = p.1 i }

pub square_is : (ts : List Terminal) (place : Place) (text : List ℕ) → peek ts ≡ OpenSquare → IsPlaceAt ts place →
    ◌≡◌ {A = Identifier} (record { qualifier = None; text = text; line = place.line; column = place.column }) (special_at text ts)
square_is [] place text e p = cc
square_is (k ∷ ts) place text e p = λ i. record { qualifier = None; text = text; line = p.0 i; column = p.1 i }

pub open_is : (ts : List Terminal) (place : Place) (text : List ℕ) → peek ts ≡ Open → IsPlaceAt ts place →
    ◌≡◌ {A = Identifier} (record { qualifier = None; text = text; line = place.line; column = place.column }) (special_at text ts)
open_is [] place text e p = cc
open_is (k ∷ ts) place text e p = λ i. record { qualifier = None; text = text; line = p.0 i; column = p.1 i }
