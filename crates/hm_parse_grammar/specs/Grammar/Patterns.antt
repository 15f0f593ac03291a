-- The grammar of constructors, literals and patterns.
use Rattle.std.specs.Prelude.{◌≡◌, ℕ, zero, suc, ◌+◌, ◌≤◌, List, [], ◌∷◌, ◌++◌, Bool, true, false, None, codes}
use Rattle.hm_syntax.specs.Names.{Identifier, LiteralTree, integer, character, string}
use Rattle.hm_syntax.specs.Trees.{Pattern, variable_pattern, bound_pattern, constructor_pattern, literal_pattern, wildcard_pattern, tuple_pattern, list_pattern, lazy_pattern, Patterns, no_patterns, more_patterns}
use Rattle.hm_parse_grammar.specs.declared.symbol.Symbol.TheVariants.{Open, Close, OpenSquare, CloseSquare, Comma, Colon, At, Tilde, Wild, Var, Integer, Character, Text}
use Rattle.hm_parse_grammar.specs.Tokens.{Terminal, name_of}
use Rattle.hm_parse_grammar.specs.Grammar.Marks.{IsQcon}

-- a special constructor, at the place of its first token
abbrev pub special : List ℕ → Terminal → Identifier
special text k = record { qualifier = None; text = text; line = k.line; column = k.column }

abbrev pub commas : ℕ → List ℕ
commas zero = []
commas (suc n) = 44 ∷ commas n

-- `(,)` and so on: the constructor of tuples with one component more than it has commas
abbrev pub tuple_text : ℕ → List ℕ
tuple_text n = 40 ∷ (commas n ++ codes ")")

-- ','*, n of them
pub data CommaMarks : ℕ → List Terminal → List Terminal → Type 0 where
  marks_none : {ts : List Terminal} → CommaMarks 0 ts ts
  marks_more : {n : ℕ} {k : Terminal} {us rest : List Terminal} → k.symbol ≡ Comma → CommaMarks n us rest → CommaMarks (suc n) (k ∷ us) rest

-- gcon = qcon | '(' ')' | '[' ']' | '(' ','+ ')' | '(' ':' ')'
pub data Gcon : Identifier → List Terminal → List Terminal → Type 0 where
  gcon_qcon : {k : Terminal} {rest : List Terminal} → IsQcon k → Gcon (name_of k) (k ∷ rest) rest
  gcon_unit : {k m : Terminal} {rest : List Terminal} → k.symbol ≡ Open → m.symbol ≡ Close → Gcon (special (codes "()") k) (k ∷ m ∷ rest) rest
  gcon_nil : {k m : Terminal} {rest : List Terminal} → k.symbol ≡ OpenSquare → m.symbol ≡ CloseSquare → Gcon (special (codes "[]") k) (k ∷ m ∷ rest) rest
  gcon_tuple : {n : ℕ} {k m : Terminal} {us rest : List Terminal} →
      k.symbol ≡ Open → CommaMarks (suc n) us (m ∷ rest) → suc n ≤ 14 → m.symbol ≡ Close → Gcon (special (tuple_text (suc n)) k) (k ∷ us) rest
  gcon_cons : {k c m : Terminal} {rest : List Terminal} → k.symbol ≡ Open → c.symbol ≡ Colon → m.symbol ≡ Close → Gcon (special (codes ":") k) (k ∷ c ∷ m ∷ rest) rest

-- literal
pub data Literal' : LiteralTree → List Terminal → List Terminal → Type 0 where
  literal_integer : {k : Terminal} {rest : List Terminal} → k.symbol ≡ Integer → Literal' (integer k.text) (k ∷ rest) rest
  literal_character : {k : Terminal} {rest : List Terminal} → k.symbol ≡ Character → Literal' (character k.text) (k ∷ rest) rest
  literal_string : {k : Terminal} {rest : List Terminal} → k.symbol ≡ Text → Literal' (string k.text) (k ∷ rest) rest

abbrev pub count_pats : Patterns → ℕ
count_pats no_patterns = 0
count_pats (more_patterns p ps) = 1 + count_pats ps

-- a single variable, with or without parentheses
abbrev pub is_variable : Pattern → Bool
is_variable (variable_pattern n) = true
is_variable _ = false

-- `p : q`, where k is the colon
abbrev pub cons_pat : Terminal → Pattern → Pattern → Pattern
cons_pat k p q = constructor_pattern (special (codes ":") k) (more_patterns p (more_patterns q no_patterns))

mutual
  -- pat = lpat [':' pat]
  pub data Pat' : Pattern → List Terminal → List Terminal → Type 0 where
    pat_one : {p : Pattern} {ts rest : List Terminal} → Lpat p ts rest → Pat' p ts rest
    pat_cons : {p q : Pattern} {k : Terminal} {ts us rest : List Terminal} → Lpat p ts (k ∷ us) → k.symbol ≡ Colon → Pat' q us rest → Pat' (cons_pat k p q) ts rest

  -- lpat = apat | gcon apat+
  pub data Lpat : Pattern → List Terminal → List Terminal → Type 0 where
    lpat_one : {p : Pattern} {ts rest : List Terminal} → Apat p ts rest → Lpat p ts rest
    lpat_apply : {n : Identifier} {p : Pattern} {ps : Patterns} {ts us vs rest : List Terminal} → Gcon n ts us → Apat p us vs → Apats ps vs rest → Lpat (constructor_pattern n (more_patterns p ps)) ts rest

  -- apat = var ['@' apat] | gcon | literal | '_' | '(' pat ')' | tuple of pats | '[' pat {',' pat}* ']' | '~' apat
  pub data Apat : Pattern → List Terminal → List Terminal → Type 0 where
    apat_var : {k : Terminal} {rest : List Terminal} → k.symbol ≡ Var → Apat (variable_pattern (name_of k)) (k ∷ rest) rest
    apat_bound : {p : Pattern} {k m : Terminal} {us rest : List Terminal} → k.symbol ≡ Var → m.symbol ≡ At → Apat p us rest → Apat (bound_pattern (name_of k) p) (k ∷ m ∷ us) rest
    apat_con : {n : Identifier} {ts rest : List Terminal} → Gcon n ts rest → Apat (constructor_pattern n no_patterns) ts rest
    apat_literal : {l : LiteralTree} {ts rest : List Terminal} → Literal' l ts rest → Apat (literal_pattern l) ts rest
    apat_wild : {k : Terminal} {rest : List Terminal} → k.symbol ≡ Wild → Apat wildcard_pattern (k ∷ rest) rest
    apat_paren : {p : Pattern} {k m : Terminal} {us rest : List Terminal} → k.symbol ≡ Open → Pat' p us (m ∷ rest) → m.symbol ≡ Close → Apat p (k ∷ us) rest
    apat_tuple : {p q : Pattern} {ps : Patterns} {k m : Terminal} {us vs rest : List Terminal} →
        k.symbol ≡ Open → Pat' p us vs → PatCommas (more_patterns q ps) vs (m ∷ rest) → m.symbol ≡ Close → count_pats (more_patterns p (more_patterns q ps)) ≤ 15 →
        Apat (tuple_pattern (more_patterns p (more_patterns q ps))) (k ∷ us) rest
    apat_list : {p : Pattern} {ps : Patterns} {k m : Terminal} {us vs rest : List Terminal} →
        k.symbol ≡ OpenSquare → Pat' p us vs → PatCommas ps vs (m ∷ rest) → m.symbol ≡ CloseSquare → Apat (list_pattern (more_patterns p ps)) (k ∷ us) rest
    apat_lazy : {p : Pattern} {k : Terminal} {us rest : List Terminal} → k.symbol ≡ Tilde → Apat p us rest → Apat (lazy_pattern p) (k ∷ us) rest

  -- apat*
  pub data Apats : Patterns → List Terminal → List Terminal → Type 0 where
    apats_none : {ts : List Terminal} → Apats no_patterns ts ts
    apats_more : {p : Pattern} {ps : Patterns} {ts us rest : List Terminal} → Apat p ts us → Apats ps us rest → Apats (more_patterns p ps) ts rest

  -- {',' pat}*
  pub data PatCommas : Patterns → List Terminal → List Terminal → Type 0 where
    pats_none : {ts : List Terminal} → PatCommas no_patterns ts ts
    pats_more : {p : Pattern} {ps : Patterns} {k : Terminal} {us vs rest : List Terminal} → k.symbol ≡ Comma → Pat' p us vs → PatCommas ps vs rest → PatCommas (more_patterns p ps) (k ∷ us) rest
