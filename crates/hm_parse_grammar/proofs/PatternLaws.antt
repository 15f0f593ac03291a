-- Patterns are read as they are spelled.
use Rattle.std.proofs.Common.{◌≡◌, ℕ, zero, suc, ◌+◌, ◌<◌, ◌≤◌, List, [], ◌∷◌, length, Some, None, refl, subst, cond, arith, codes}
use Rattle.hm_syntax.specs.Names.{Identifier, LiteralTree}
use Rattle.hm_syntax.specs.Trees.{Pattern, constructor_pattern, literal_pattern, Patterns, no_patterns, more_patterns}
use Rattle.hm_syntax.specs.Lists.{patterns}
use Rattle.hm_parse_grammar.specs.declared.symbol.Symbol.{Symbol}
use Rattle.hm_parse_grammar.specs.declared.symbol.Symbol.TheVariants.{Open, OpenSquare, Colon, Tilde, Wild, Var, Integer, Character, Text}
use Rattle.hm_parse_grammar.specs.Tokens.{Terminal}
use Rattle.hm_parse_grammar.specs.Grammar.Patterns.{count_pats, Gcon, Pat', pat_one, pat_cons, Lpat, lpat_one, lpat_apply, Apat, apat_var, apat_bound, apat_con, apat_literal, apat_wild, apat_paren, apat_tuple, apat_list, apat_lazy, Apats, apats_none, apats_more, PatCommas, pats_none, pats_more}
use Rattle.hm_parse_grammar.specs.Reading.Basics.{◌>>=◌, peek, is_at, tail, closing}
use Rattle.hm_parse_grammar.specs.Reading.Constructors.{special_at, literal_at}
use Rattle.hm_parse_grammar.specs.Reading.Patterns.{tuple_of_patterns, list_of_patterns, cons_pattern, PatternReaders, bound_with, apat_by, apat_step, next_apat, apats_with, lpat_with, pat_step, pattern_step, pattern_readers, all_patterns}
use Rattle.hm_parse_grammar.proofs.Holds.{same_true}
use Rattle.hm_parse_grammar.proofs.Rows.{Step}
use Rattle.hm_parse_grammar.proofs.CommaLaws.{CommaRules, closing_found, list_found}
use Rattle.hm_parse_grammar.proofs.ConstructorLaws.{gcon_found, gcon_short, literal_found, literal_short}
use Rattle.hm_parse_grammar.proofs.Both.{Both, both_none, both_some, both_if, both_then, both_more, both_held, both_loop}

-- ---- a spelling takes at least one token

mutual
  pub pat_short : {p : Pattern} {ts rest : List Terminal} → Pat' p ts rest → length rest < length ts
  pat_short (pat_one p) = lpat_short p
  pat_short (pat_cons p q r) = omega (arith, lpat_short p, pat_short r)

  pub lpat_short : {p : Pattern} {ts rest : List Terminal} → Lpat p ts rest → length rest < length ts
  lpat_short (lpat_one p) = apat_short p
  lpat_short (lpat_apply g p ps) = omega (arith, gcon_short g, apat_short p, apats_short ps)

  pub apat_short : {p : Pattern} {ts rest : List Terminal} → Apat p ts rest → length rest < length ts
  apat_short (apat_var q) = omega arith
  apat_short (apat_bound q a p) = omega (arith, apat_short p)
  apat_short (apat_con g) = gcon_short g
  apat_short (apat_literal l) = literal_short l
  apat_short (apat_wild q) = omega arith
  apat_short (apat_paren o p c) = omega (arith, pat_short p)
  apat_short (apat_tuple o p ps c n) = omega (arith, pat_short p, commas_short ps)
  apat_short (apat_list o p ps c) = omega (arith, pat_short p, commas_short ps)
  apat_short (apat_lazy q p) = omega (arith, apat_short p)

  pub apats_short : {ps : Patterns} {ts rest : List Terminal} → Apats ps ts rest → length rest ≤ length ts
  apats_short apats_none = omega arith
  apats_short (apats_more p ps) = omega (arith, apat_short p, apats_short ps)

  pub commas_short : {ps : Patterns} {ts rest : List Terminal} → PatCommas ps ts rest → length rest ≤ length ts
  commas_short pats_none = omega arith
  commas_short (pats_more q p ps) = omega (arith, pat_short p, commas_short ps)

-- ---- found, and readers that agree on shorter lists agree on this one

abbrev pub IsPattern : List Terminal → Pattern × List Terminal → Type 0
IsPattern ts x = Pat' x.0 ts x.1

abbrev pub IsApat : List Terminal → Pattern × List Terminal → Type 0
IsApat ts x = Apat x.0 ts x.1

abbrev pub AreApats : List Pattern → List Terminal → List Terminal → Type 0
AreApats xs ts rest = Apats (patterns xs) ts rest

abbrev pub ArePatCommas : List Pattern → List Terminal → List Terminal → Type 0
ArePatCommas xs ts rest = PatCommas (patterns xs) ts rest

pub record Agree (n : ℕ) (r s : PatternReaders) : Type 0 where
  pub whole : (ts : List Terminal) → length ts < n → Both (IsPattern ts) (r.whole ts) (s.whole ts)
  pub single : (ts : List Terminal) → length ts < n → Both (IsApat ts) (r.single ts) (s.single ts)

pub count_is : (xs : List Pattern) → count_pats (patterns xs) ≡ length xs
count_is [] = refl
count_is (x ∷ xs) = omega (arith, count_is xs)

no_more : {ps : Patterns} {us vs : List Terminal} → PatCommas ps us vs → ps ≡ no_patterns → us ≡ vs
no_more pats_none e = refl
no_more (pats_more q p ps) e = cc

pub pattern_commas : CommaRules Pat' ArePatCommas
pattern_commas = record {
  none = λ ts. pats_none;
  more = λ k x xs us vs rest q d ds. pats_more q d ds;
  short = λ x ts rest d. pat_short d;
  empty = λ ts us d. no_more d refl;
}

module _ (n : ℕ) (r s : PatternReaders) (g : Agree n r s) where
  in_parentheses : (k : Terminal) (p : Pattern) (ts us : List Terminal) → k.symbol ≡ Open → Pat' p ts us → length us < n + 1 →
      Both (IsApat (k ∷ ts)) (closing r.whole tuple_of_patterns p us) (closing s.whole tuple_of_patterns p us)
  in_parentheses k p ts us o d h =
      closing_found pattern_commas n r.whole s.whole g.whole tuple_of_patterns (IsApat (k ∷ ts)) p us h
      (λ m ws eq c. apat_paren o (subst (λ z. Pat' p ts z) eq d) c)
      (λ y ys m ws ds c few. let count : count_pats (patterns (p ∷ y ∷ ys)) ≤ 15 = rw (count_is (p ∷ y ∷ ys)) few in apat_tuple o d ds c count)

  bound_found : (k : Terminal) (ts : List Terminal) → k.symbol ≡ Var → length ts < n → Both (IsApat (k ∷ ts)) (bound_with r (k ∷ ts)) (bound_with s (k ∷ ts))
  unfolding bound_with
  bound_found k [] q h = both_some _ (apat_var q)
  bound_found k (l ∷ ts) q h =
      both_if _ _ _ _ _
      (λ a. both_then _ _ _ _ (g.single ts (omega arith)) (λ p d. both_some _ (apat_bound q (same_true _ _ a) d)))
      (λ _. both_some _ (apat_var q))

  literals : (ts : List Terminal) → Both (IsApat ts) (literal_at ts >>= λ (l : LiteralTree × List Terminal). Some (literal_pattern l.0, l.1)) (literal_at ts >>= λ (l : LiteralTree × List Terminal). Some (literal_pattern l.0, l.1))
  literals ts = both_then _ _ _ _ (both_held (literal_found ts)) (λ (l : LiteralTree × List Terminal) d. both_some _ (apat_literal d))

  pub apat_found : (ts : List Terminal) → length ts < n + 1 → Both (IsApat ts) (apat_step r ts) (apat_step s ts)
  unfolding apat_step
  apat_found ts h =
      both_if _ _ _ _ _
      (λ _. both_then _ _ _ _ (both_held (gcon_found ts)) (λ (x : Identifier × List Terminal) d. both_some _ (apat_con d)))
      (λ _. other ts h)
    where
      other : (ts : List Terminal) → length ts < n + 1 → Both (IsApat ts) (apat_by r (peek ts) ts) (apat_by s (peek ts) ts)
      other [] l = both_none
      other (k ∷ us) l = by_symbol k.symbol refl
        where
          by_symbol : (y : Symbol) → k.symbol ≡ y → Both (IsApat (k ∷ us)) (apat_by r y (k ∷ us)) (apat_by s y (k ∷ us))
          by_symbol Var e = bound_found k us e (omega arith)
          by_symbol Integer e = literals (k ∷ us)
          by_symbol Character e = literals (k ∷ us)
          by_symbol Text e = literals (k ∷ us)
          by_symbol Wild e = both_some _ (apat_wild e)
          by_symbol Open e = both_then _ _ _ _ (g.whole us (omega arith)) (λ (p : Pattern × List Terminal) d. in_parentheses k p.0 us p.1 e d (omega (arith, pat_short d)))
          by_symbol OpenSquare e = list_found pattern_commas n r.whole s.whole g.whole list_of_patterns (IsApat (k ∷ us)) us (omega arith) (λ x xs vs m ws d ds c. apat_list e d ds c)
          by_symbol Tilde e = both_then _ _ _ _ (g.single us (omega arith)) (λ p d. both_some _ (apat_lazy e d))
          by_symbol _ e = both_none

  pub next_apat_found : (ts : List Terminal) → length ts < n + 1 → Both (Step AreApats ts) (next_apat r ts) (next_apat s ts)
  unfolding next_apat
  next_apat_found ts h =
      both_if _ _ _ _ _
      (λ q. both_then _ _ _ _ (apat_found ts h) (λ (p : Pattern × List Terminal) d.
      both_some (Some p.0, p.1) (apat_short d, λ xs rest ds. apats_more d ds)))
      (λ _. both_some (None, ts) apats_none)

  pub apats_found : (ts : List Terminal) → length ts < n + 1 → Both (λ (x : List Pattern × List Terminal). AreApats x.0 ts x.1) (apats_with r ts) (apats_with s ts)
  unfolding apats_with
  apats_found ts h = both_loop AreApats (n + 1) (next_apat r) (next_apat s) next_apat_found ts h

  pub lpat_found : (ts : List Terminal) → length ts < n + 1 → Both (λ (x : Pattern × List Terminal). Lpat x.0 ts x.1) (lpat_with r ts) (lpat_with s ts)
  unfolding lpat_with
  lpat_found ts h =
      both_if _ _ _ _ _
      (λ _. both_then _ _ _ _ (both_held (gcon_found ts)) (λ (x : Identifier × List Terminal) d.
      both_then _ _ _ _ (apats_found x.1 (omega (arith, gcon_short d))) (λ (ps : List Pattern × List Terminal) ds.
      both_some _ (applied x.0 x.1 d ps.0 ps.1 ds))))
      (λ _. both_more (apat_found ts h) (λ x d. lpat_one d))
    where
      none_of : {ps : Patterns} {us vs : List Terminal} → Apats ps us vs → ps ≡ no_patterns → us ≡ vs
      none_of apats_none e = refl
      none_of (apats_more p ps) e = cc

      some_of : {p : Pattern} {ps : Patterns} {us vs : List Terminal} → Apats (more_patterns p ps) us vs → (x : Identifier) → Gcon x ts us → Lpat (constructor_pattern x (more_patterns p ps)) ts vs
      some_of (apats_more p ps) x d = lpat_apply d p ps

      applied : (x : Identifier) (us : List Terminal) → Gcon x ts us → (ps : List Pattern) (rest : List Terminal) → AreApats ps us rest → Lpat (constructor_pattern x (patterns ps)) ts rest
      applied x us d [] rest ds = lpat_one (apat_con (subst (λ z. Gcon x ts z) (none_of ds refl) d))
      applied x us d (p ∷ ps) rest ds = some_of ds x d

  pub pat_found : (ts : List Terminal) → length ts < n + 1 → Both (IsPattern ts) (pat_step r ts) (pat_step s ts)
  unfolding pat_step
  pat_found ts h = both_then _ _ _ _ (lpat_found ts h) (λ (p : Pattern × List Terminal) d. colon p.0 p.1 d)
    where
      colon : (p : Pattern) (us : List Terminal) → Lpat p ts us → Both (IsPattern ts)
          (cond (is_at Colon us) (r.whole (tail us) >>= λ (q : Pattern × List Terminal). Some (cons_pattern (special_at (codes ":") us) p q.0, q.1)) (Some (p, us)))
          (cond (is_at Colon us) (s.whole (tail us) >>= λ (q : Pattern × List Terminal). Some (cons_pattern (special_at (codes ":") us) p q.0, q.1)) (Some (p, us)))
      colon p [] d = both_some _ (pat_one d)
      colon p (k ∷ us) d =
          both_if _ _ _ _ _
          (λ q. both_then _ _ _ _ (g.whole us (omega (arith, lpat_short d))) (λ x dx. both_some _ (pat_cons d (same_true _ _ q) dx)))
          (λ _. both_some _ (pat_one d))

step_agree : (n : ℕ) (r s : PatternReaders) → Agree n r s → Agree (suc n) (pattern_step r) (pattern_step s)
step_agree n r s g = record { whole = λ ts h. pat_found n r s g ts (omega arith); single = λ ts h. apat_found n r s g ts (omega arith) }

for_agree : (n j k : ℕ) → n ≤ j → n ≤ k → Agree n (pattern_readers j) (pattern_readers k)
for_agree zero j k p q = record { whole = λ ts h. absurd (omega arith); single = λ ts h. absurd (omega arith) }
for_agree (suc n) zero k p q = absurd (omega arith)
for_agree (suc n) (suc j) zero p q = absurd (omega arith)
for_agree (suc n) (suc j) (suc k) p q = step_agree n (pattern_readers j) (pattern_readers k) (for_agree n j k (omega arith) (omega arith))

-- enough calls for this list are enough for each
all_agree : (n : ℕ) → Agree n (pattern_readers n) all_patterns
unfolding all_patterns
all_agree n = record { whole = λ ts h. (enough ts h).whole ts (omega arith); single = λ ts h. (enough ts h).single ts (omega arith) }
  where
    enough : (ts : List Terminal) → length ts < n → Agree (suc (length ts)) (pattern_readers n) (pattern_readers (suc (length ts)))
    enough ts h = for_agree (suc (length ts)) n (suc (length ts)) (omega arith) (omega arith)

-- the readers are one step of themselves, and what they find is spelled so
all_is : (n : ℕ) → Agree n all_patterns (pattern_step all_patterns)
unfolding all_patterns
all_is n = record { whole = λ ts h. (here ts).whole ts (omega arith); single = λ ts h. (here ts).single ts (omega arith) }
  where
    here : (ts : List Terminal) → Agree (suc (length ts)) (pattern_step (pattern_readers (length ts))) (pattern_step all_patterns)
    here ts = step_agree (length ts) (pattern_readers (length ts)) all_patterns (all_agree (length ts))

pub pat_is : (ts : List Terminal) → all_patterns.whole ts ≡ pat_step all_patterns ts
pat_is ts = ((all_is (suc (length ts))).whole ts (omega arith)).equal

pub apat_is : (ts : List Terminal) → all_patterns.single ts ≡ apat_step all_patterns ts
apat_is ts = ((all_is (suc (length ts))).single ts (omega arith)).equal

pub patterns_agree : (n : ℕ) → Agree n all_patterns all_patterns
patterns_agree n = record {
  whole = λ ts h. record { equal = refl; holds = ((all_is n).whole ts h).holds };
  single = λ ts h. record { equal = refl; holds = ((all_is n).single ts h).holds };
}
