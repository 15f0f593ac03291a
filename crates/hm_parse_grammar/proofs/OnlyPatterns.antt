-- What is spelled as a pattern is read, where no further pattern follows.
use Rattle.std.proofs.Common.{◌≡◌, inl, inr, ◌≤◌, List, [], ◌∷◌, length, true, false, Some, refl, sym, ap, ◌∙◌, arith}
use Rattle.hm_syntax.specs.Names.{Identifier, LiteralTree}
use Rattle.hm_syntax.specs.Trees.{Pattern, constructor_pattern, tuple_pattern, list_pattern, Patterns, no_patterns, more_patterns}
use Rattle.hm_syntax.specs.Lists.{patterns}
use Rattle.hm_parse_grammar.specs.declared.symbol.Symbol.{Symbol}
use Rattle.hm_parse_grammar.specs.declared.symbol.Symbol.TheVariants.{Open, Close, OpenSquare, CloseSquare, Comma, Colon, At, Tilde, Wild, Var, Integer, Character, Text}
use Rattle.hm_parse_grammar.specs.Symbols.{same}
use Rattle.hm_parse_grammar.specs.Tokens.{Terminal}
use Rattle.hm_parse_grammar.specs.Grammar.Patterns.{count_pats, Gcon, gcon_qcon, gcon_unit, gcon_nil, gcon_tuple, gcon_cons, Literal', literal_integer, literal_character, literal_string, Pat', pat_one, pat_cons, Lpat, lpat_one, lpat_apply, Apat, apat_var, apat_bound, apat_con, apat_literal, apat_wild, apat_paren, apat_tuple, apat_list, apat_lazy, Apats, apats_none, apats_more, PatCommas, pats_none, pats_more}
use Rattle.hm_parse_grammar.specs.Reading.Basics.{peek, is_at, loop, next_of}
use Rattle.hm_parse_grammar.specs.Reading.Constructors.{is_mark, begin_gcon, begins_gcon, gcon_at}
use Rattle.hm_parse_grammar.specs.Reading.Patterns.{begins_apat, tuple_of_patterns, list_of_patterns, apat_by, apat_step, bound_with, next_apat, apats_with, lpat_with, pat_step, all_patterns}
use Rattle.hm_parse_grammar.proofs.Rows.{Steps, loop_stops, loop_takes}
use Rattle.hm_parse_grammar.proofs.CommaLaws.{next_found, closes_one, closes_row, lists_row, row_stops, row_takes}
use Rattle.hm_parse_grammar.proofs.ConstructorLaws.{gcon_begins, gcon_only, literal_only}
use Rattle.hm_parse_grammar.proofs.PatternLaws.{AreApats, ArePatCommas, pattern_commas, next_apat_found, patterns_agree, pat_is, apat_is, count_is}

abbrev pub pattern_list : Patterns → List Pattern
pattern_list no_patterns = []
pattern_list (more_patterns p ps) = p ∷ pattern_list ps

pub patterns_list : (ps : Patterns) → patterns (pattern_list ps) ≡ ps
patterns_list no_patterns = refl
patterns_list (more_patterns p ps) = ap (more_patterns p) (patterns_list ps)

pub pattern_steps : Steps ArePatCommas (next_of all_patterns.whole)
pattern_steps = record { step = λ ts. record { holds = (next_found pattern_commas (length ts) all_patterns.whole all_patterns.whole (patterns_agree (length ts)).whole ts (omega arith)).holds } }

pub apat_steps : Steps AreApats (next_apat all_patterns)
apat_steps = record { step = λ ts. record { holds = (next_apat_found (length ts) all_patterns all_patterns (patterns_agree (length ts)) ts (omega arith)).holds } }

-- ---- what a pattern begins with

gcon_first : {n : Identifier} {ts rest : List Terminal} → Gcon n ts rest → begins_apat (peek ts) ≡ true
gcon_first (gcon_qcon (inl q)) = ap begins_apat q
gcon_first (gcon_qcon (inr q)) = ap begins_apat q
gcon_first (gcon_unit o c) = ap begins_apat o
gcon_first (gcon_nil o c) = ap begins_apat o
gcon_first (gcon_tuple o d n c) = ap begins_apat o
gcon_first (gcon_cons o q c) = ap begins_apat o

literal_first : {l : LiteralTree} {ts rest : List Terminal} → Literal' l ts rest → begins_apat (peek ts) ≡ true
literal_first (literal_integer q) = ap begins_apat q
literal_first (literal_character q) = ap begins_apat q
literal_first (literal_string q) = ap begins_apat q

pub apat_begins : {p : Pattern} {ts rest : List Terminal} → Apat p ts rest → begins_apat (peek ts) ≡ true
apat_begins (apat_var q) = ap begins_apat q
apat_begins (apat_bound q a p) = ap begins_apat q
apat_begins (apat_con g) = gcon_first g
apat_begins (apat_literal l) = literal_first l
apat_begins (apat_wild q) = ap begins_apat q
apat_begins (apat_paren o p c) = ap begins_apat o
apat_begins (apat_tuple o p ps c n) = ap begins_apat o
apat_begins (apat_list o p ps c) = ap begins_apat o
apat_begins (apat_lazy q p) = ap begins_apat q

lpat_begins : {p : Pattern} {ts rest : List Terminal} → Lpat p ts rest → begins_apat (peek ts) ≡ true
lpat_begins (lpat_one p) = apat_begins p
lpat_begins (lpat_apply g p ps) = gcon_first g

pub pat_begins : {p : Pattern} {ts rest : List Terminal} → Pat' p ts rest → begins_apat (peek ts) ≡ true
pat_begins (pat_one p) = lpat_begins p
pat_begins (pat_cons p q r) = lpat_begins p

no_mark : (s : Symbol) → begins_apat s ≡ true → is_mark s ≡ false
no_mark Close h = sym h
no_mark Comma h = sym h
no_mark Colon h = sym h
no_mark _ h = refl

no_close : (s : Symbol) → begins_apat s ≡ true → same s CloseSquare ≡ false
no_close CloseSquare h = cc
no_close _ h = refl

opens_none : (k : Terminal) (us : List Terminal) → k.symbol ≡ Open → begins_apat (peek us) ≡ true → begins_gcon (k ∷ us) ≡ false
unfolding begins_gcon
opens_none k us o h = rw o (no_mark (peek us) h)

squares_none : (k : Terminal) (us : List Terminal) → k.symbol ≡ OpenSquare → begins_apat (peek us) ≡ true → begins_gcon (k ∷ us) ≡ false
unfolding begins_gcon
squares_none k us o h = rw o (no_close (peek us) h)

begins_none : (k : Terminal) (us : List Terminal) (s : Symbol) → k.symbol ≡ s → ((second : Symbol) → begin_gcon s second ≡ false) → begins_gcon (k ∷ us) ≡ false
unfolding begins_gcon
begins_none k us s q h = rw q (h (peek us))

literal_none : {l : LiteralTree} {ts rest : List Terminal} → Literal' l ts rest → begins_gcon ts ≡ false
literal_none (literal_integer {k = k} {rest = rest} q) = begins_none k rest Integer q (λ _. refl)
literal_none (literal_character {k = k} {rest = rest} q) = begins_none k rest Character q (λ _. refl)
literal_none (literal_string {k = k} {rest = rest} q) = begins_none k rest Text q (λ _. refl)

few : (p q : Pattern) (ps : Patterns) → count_pats (more_patterns p (more_patterns q ps)) ≤ 15 → length (p ∷ q ∷ pattern_list ps) ≤ 15
few p q ps h = rw (← count_is (p ∷ q ∷ pattern_list ps)) (rw (patterns_list ps) h)

commas_begin : {q : Pattern} {ps : Patterns} {us rest : List Terminal} → PatCommas (more_patterns q ps) us rest → peek us ≡ Comma
commas_begin (pats_more q p ps) = q

commas_colon : {ps : Patterns} {us rest : List Terminal} → PatCommas ps us rest → is_at Colon rest ≡ false → is_at Colon us ≡ false
commas_colon pats_none h = h
commas_colon (pats_more q p ps) h = ap (λ z. same z Colon) q

commas_apat : {ps : Patterns} {us rest : List Terminal} → PatCommas ps us rest → begins_apat (peek rest) ≡ false → begins_apat (peek us) ≡ false
commas_apat pats_none h = h
commas_apat (pats_more q p ps) h = ap begins_apat q

commas_at : {ps : Patterns} {us rest : List Terminal} → PatCommas ps us rest → is_at At rest ≡ false → is_at At us ≡ false
commas_at pats_none h = h
commas_at (pats_more q p ps) h = ap (λ z. same z At) q

pub apats_at : {ps : Patterns} {us rest : List Terminal} → Apats ps us rest → is_at At rest ≡ false → is_at At us ≡ false
apats_at apats_none h = h
apats_at (apats_more {ts = us} p ps) h = begin_no_at (peek us) (apat_begins p)
  where
    begin_no_at : (s : Symbol) → begins_apat s ≡ true → same s At ≡ false
    begin_no_at At h = cc
    begin_no_at _ h = refl

took : (p : Pattern) (ps : List Pattern) (us vs rest : List Terminal) → begins_apat (peek us) ≡ true → apat_step all_patterns us ≡ Some (p, vs) → loop (next_apat all_patterns) vs ≡ Some (ps, rest) →
    loop (next_apat all_patterns) us ≡ Some (p ∷ ps, rest)
unfolding next_apat
took p ps us vs rest b a l = loop_takes apat_steps us vs p (rw (b, a) refl) ∙ rw l refl

stopped : (us : List Terminal) → begins_apat (peek us) ≡ false → loop (next_apat all_patterns) us ≡ Some ([], us)
unfolding next_apat
stopped us h = loop_stops apat_steps us us (rw h refl)

lpat_apat : (ts : List Terminal) → begins_gcon ts ≡ false → lpat_with all_patterns ts ≡ apat_step all_patterns ts
unfolding lpat_with
lpat_apat ts h = rw h refl

lpat_gcon : (ts us : List Terminal) (n : Identifier) → begins_gcon ts ≡ true → gcon_at ts ≡ Some (n, us) → (ps : List Pattern) (vs : List Terminal) → loop (next_apat all_patterns) us ≡ Some (ps, vs) →
    lpat_with all_patterns ts ≡ Some (constructor_pattern n (patterns ps), vs)
unfolding lpat_with apats_with
lpat_gcon ts us n h g ps vs l = rw (h, g, l) refl

apat_other : (ts : List Terminal) (s : Symbol) → begins_gcon ts ≡ false → peek ts ≡ s → apat_step all_patterns ts ≡ apat_by all_patterns s ts
unfolding apat_step
apat_other ts s h e = rw h (ap (λ z. apat_by all_patterns z ts) e)

mutual
  unfolding pat_step apat_step bound_with

  pub only_pat : {p : Pattern} {ts rest : List Terminal} → Pat' p ts rest → begins_apat (peek rest) ≡ false → is_at At rest ≡ false → is_at Colon rest ≡ false → all_patterns.whole ts ≡ Some (p, rest)
  only_pat (pat_one {ts = ts} p) h a c = pat_is ts ∙ rw (only_lpat p h a) (rw c refl)
  only_pat (pat_cons {ts = ts} p q r) h a c = pat_is ts ∙ rw (only_lpat p (ap begins_apat q) (ap (λ z. same z At) q)) (rw q (rw (only_pat r h a c) refl))

  only_lpat : {p : Pattern} {ts rest : List Terminal} → Lpat p ts rest → begins_apat (peek rest) ≡ false → is_at At rest ≡ false → lpat_with all_patterns ts ≡ Some (p, rest)
  only_lpat (lpat_one (apat_con {n = n} {ts = ts} {rest = rest} g)) h a = lpat_gcon ts rest n (gcon_begins g) (gcon_only g) [] rest (stopped rest h)
  only_lpat (lpat_one (apat_var {k = k} {rest = rest} q)) h a = lpat_apat _ (begins_none k rest Var q (λ _. refl)) ∙ only_apat (apat_var q) a
  only_lpat (lpat_one (apat_bound {k = k} {m = m} {us = us} q b p)) h a = lpat_apat _ (begins_none k (m ∷ us) Var q (λ _. refl)) ∙ only_apat (apat_bound q b p) a
  only_lpat (lpat_one (apat_literal l)) h a = lpat_apat _ (literal_none l) ∙ only_apat (apat_literal l) a
  only_lpat (lpat_one (apat_wild {k = k} {rest = rest} q)) h a = lpat_apat _ (begins_none k rest Wild q (λ _. refl)) ∙ only_apat (apat_wild q) a
  only_lpat (lpat_one (apat_paren {k = k} {us = us} o p c)) h a = lpat_apat _ (opens_none k us o (pat_begins p)) ∙ only_apat (apat_paren o p c) a
  only_lpat (lpat_one (apat_tuple {k = k} {us = us} o p ps c n)) h a = lpat_apat _ (opens_none k us o (pat_begins p)) ∙ only_apat (apat_tuple o p ps c n) a
  only_lpat (lpat_one (apat_list {k = k} {us = us} o p ps c)) h a = lpat_apat _ (squares_none k us o (pat_begins p)) ∙ only_apat (apat_list o p ps c) a
  only_lpat (lpat_one (apat_lazy {k = k} {us = us} q p)) h a = lpat_apat _ (begins_none k us Tilde q (λ _. refl)) ∙ only_apat (apat_lazy q p) a
  only_lpat (lpat_apply {n = n} {p = p} {ps = ps} {ts = ts} {us = us} {vs = vs} {rest = rest} g d ds) h a =
      lpat_gcon ts us n (gcon_begins g) (gcon_only g) (p ∷ pattern_list ps) rest (took p (pattern_list ps) us vs rest (apat_begins d) (only_apat d (apats_at ds a)) (only_apats ds h a))
      ∙ ap (λ z. Some (constructor_pattern n (more_patterns p z), rest)) (patterns_list ps)

  pub only_apats : {ps : Patterns} {us rest : List Terminal} → Apats ps us rest → begins_apat (peek rest) ≡ false → is_at At rest ≡ false → loop (next_apat all_patterns) us ≡ Some (pattern_list ps, rest)
  only_apats (apats_none {ts = us}) h a = stopped us h
  only_apats (apats_more {p = p} {ps = ps} {ts = ts} {us = us} {rest = rest} d ds) h a = took p (pattern_list ps) ts us rest (apat_begins d) (only_apat d (apats_at ds a)) (only_apats ds h a)

  pub only_apat : {p : Pattern} {ts rest : List Terminal} → Apat p ts rest → is_at At rest ≡ false → apat_step all_patterns ts ≡ Some (p, rest)
  only_apat (apat_var {k = k} {rest = rest} q) a = rw (begins_none k rest Var q (λ _. refl)) (rw q (rw a refl))
  only_apat (apat_bound {k = k} {m = m} {us = us} q b p) a = rw (begins_none k (m ∷ us) Var q (λ _. refl)) (rw q (rw b (rw (apat_is us ∙ only_apat p a) refl)))
  only_apat (apat_con g) a = rw (gcon_begins g) (rw (gcon_only g) refl)
  only_apat (apat_literal (literal_integer {k = k} {rest = rest} q)) a = apat_other (k ∷ rest) Integer (literal_none (literal_integer {k = k} {rest = rest} q)) q ∙ rw (literal_only (literal_integer {k = k} {rest = rest} q)) refl
  only_apat (apat_literal (literal_character {k = k} {rest = rest} q)) a = apat_other (k ∷ rest) Character (literal_none (literal_character {k = k} {rest = rest} q)) q ∙ rw (literal_only (literal_character {k = k} {rest = rest} q)) refl
  only_apat (apat_literal (literal_string {k = k} {rest = rest} q)) a = apat_other (k ∷ rest) Text (literal_none (literal_string {k = k} {rest = rest} q)) q ∙ rw (literal_only (literal_string {k = k} {rest = rest} q)) refl
  only_apat (apat_wild {k = k} {rest = rest} q) a = rw (begins_none k rest Wild q (λ _. refl)) (rw q refl)
  only_apat (apat_paren {p = p} {k = k} {m = m} {us = us} {rest = rest} o d c) a =
      rw (opens_none k us o (pat_begins d)) (rw o (rw (only_pat d (ap begins_apat c) (ap (λ z. same z At) c) (ap (λ z. same z Colon) c)) (closes_one all_patterns.whole tuple_of_patterns p m rest c)))
  only_apat (apat_tuple {p = p} {q = q} {ps = ps} {k = k} {m = m} {us = us} {vs = vs} {rest = rest} o d ds c n) a =
      rw (opens_none k us o (pat_begins d)) (rw o (rw (only_pat d (ap begins_apat (commas_begin ds)) (ap (λ z. same z At) (commas_begin ds)) (ap (λ z. same z Colon) (commas_begin ds)))
      (closes_row all_patterns.whole tuple_of_patterns p (q ∷ pattern_list ps) vs m rest (ap (λ z. same z Comma) (commas_begin ds))
      (only_commas ds (ap (λ z. same z Comma) c) (ap begins_apat c) (ap (λ z. same z At) c) (ap (λ z. same z Colon) c)) c (few p q ps n)
      ∙ ap (λ z. Some (tuple_pattern (more_patterns p (more_patterns q z)), rest)) (patterns_list ps))))
  only_apat (apat_list {p = p} {ps = ps} {k = k} {m = m} {us = us} {vs = vs} {rest = rest} o d ds c) a =
      rw (squares_none k us o (pat_begins d)) (rw o
      (lists_row all_patterns.whole list_of_patterns p (pattern_list ps) us vs m rest
      (only_pat d (commas_apat ds (ap begins_apat c)) (commas_at ds (ap (λ z. same z At) c)) (commas_colon ds (ap (λ z. same z Colon) c)))
      (only_commas ds (ap (λ z. same z Comma) c) (ap begins_apat c) (ap (λ z. same z At) c) (ap (λ z. same z Colon) c)) c
      ∙ ap (λ z. Some (list_pattern (more_patterns p z), rest)) (patterns_list ps)))
  only_apat (apat_lazy {k = k} {us = us} q p) a = rw (begins_none k us Tilde q (λ _. refl)) (rw q (rw (apat_is us ∙ only_apat p a) refl))

  only_commas : {ps : Patterns} {us rest : List Terminal} → PatCommas ps us rest → is_at Comma rest ≡ false → begins_apat (peek rest) ≡ false → is_at At rest ≡ false → is_at Colon rest ≡ false →
      loop (next_of all_patterns.whole) us ≡ Some (pattern_list ps, rest)
  only_commas (pats_none {ts = us}) h b a c = row_stops all_patterns.whole pattern_steps us h
  only_commas (pats_more {p = p} {ps = ps} {k = k} {us = us} {vs = vs} {rest = rest} q d ds) h b a c =
      row_takes all_patterns.whole pattern_steps (pattern_list ps) rest vs p (only_commas ds h b a c) (k ∷ us) (ap (λ z. same z Comma) q) (only_pat d (commas_apat ds b) (commas_at ds a) (commas_colon ds c))
