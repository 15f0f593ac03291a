-- The loops and calls of the parser of expressions.
use Rattle.std.proofs.Common.{◌≡◌, ◌+◌, ◌<◌, ◌≤◌, List, [], ◌∷◌, ◌++◌, length, Bool, true, false, Option, Some, None, refl, sym, ap, ◌∙◌, cond, arith}
use Rattle.hm_lex.specs.declared.token.Place.{Place}
use Rattle.hm_syntax.specs.Names.{Identifier}
use Rattle.hm_syntax.specs.Trees.{Pattern, Expression, application, lambda, tuple_expression, list_expression, Declaration, RightSide, Alternative, alternative}
use Rattle.hm_syntax.specs.Lists.{patterns, expressions}
use Rattle.hm_parse_grammar.specs.declared.symbol.Symbol.{Symbol}
use Rattle.hm_parse_grammar.specs.declared.symbol.Symbol.TheVariants.{Case, Where, Equals, Colon, Bar, Arrow, Open, Close, CloseSquare, LeftBrace, RightBrace, Comma, Semicolon, Backslash, Let, If}
use Rattle.hm_parse_grammar.specs.Symbols.{same}
use Rattle.hm_parse_grammar.specs.Tokens.{Terminal}
use Rattle.hm_parse_grammar.specs.Reading.Basics.{◌>>=◌, Reader, peek, is_at, tail, expect, item_end, past_semicolons, loop, behind, next_of, tuple_behind, closing, list_in}
use Rattle.hm_parse_grammar.specs.Reading.Constructors.{IsPlaceAt}
use Rattle.hm_parse_grammar.specs.Reading.Patterns.{begins_apat, apat_step, next_apat, apats_with, all_patterns}
use Rattle.hm_parse_grammar.specs.Reading.Expressions.{begins_aexp, tuple_of_expressions, list_of_expressions, next_item_of, var_at, exp_with, aexp_by, aexp_step, next_aexp, args_from, guarded_in, next_guarded, rhs_with, bodies_with, alt_with, alts_with, opd_with, lambda_with, binding_of, binding_with, decl_with, chain_step, decls_step, all_expressions}
use Rattle.hm_parse_grammar.proofs.Rows.{falls, goes_on, ends, fails, starts, loop_takes}
use Rattle.hm_parse_grammar.proofs.Semicolons.{past_short}
use Rattle.hm_parse_grammar.proofs.PatternLaws as pattern_laws
use Rattle.hm_parse_grammar.proofs.PatternLaws.{apats_short, pat_short, patterns_agree}
use Rattle.hm_parse_grammar.proofs.OnlyPatterns.{apat_steps, apat_begins}
use Rattle.hm_parse_grammar.proofs.ExpressionLaws as laws
use Rattle.hm_parse_grammar.proofs.ExpressionLaws.{exp_short, closed_short, open_short, opd_short, aexp_short, decls_short, rhs_short, expressions_agree, IsChain}
use Rattle.hm_parse_grammar.proofs.OnlyExpressions.{args_take, args_stop, next_is, expression_steps, arg_steps, guard_steps, alt_steps, decl_steps, var_steps}
use Rattle.hm_parse_descent.proofs.CommaLoops.{tuple_rest, list_rest, tuple_goes_on, tuple_ends, tuple_open, tuple_fails, tuple_many, list_goes_on, list_ends, list_open, list_fails}
use Rattle.hm_parse_descent.proofs.PatternLoops.{apat_taken, apat_refused}

pub chain_is : (ts : List Terminal) → all_expressions.chain ts ≡ chain_step all_expressions ts
chain_is ts = laws.chain_is ts

pub decls_is : (ts : List Terminal) → all_expressions.decls ts ≡ decls_step all_expressions ts
decls_is ts = laws.decls_is ts

chain_short : (ts us : List Terminal) (e : Expression) (o : Bool) → IsChain ts ((e, o), us) → length us < length ts
chain_short ts us e true d = open_short d
chain_short ts us e false d = closed_short d

pub chain_shorter : (ts us : List Terminal) (x : Expression × Bool) → all_expressions.chain ts ≡ Some (x, us) → length us < length ts
chain_shorter ts us x h = chain_short ts us x.0 x.1 (((expressions_agree (length ts + 1)).chain ts (omega arith)).holds (x, us) h)

pub exp_shorter : (ts us : List Terminal) (e : Expression) → exp_with all_expressions ts ≡ Some (e, us) → length us < length ts
exp_shorter ts us e h = exp_short ((laws.exp_found (length ts + 1) all_expressions all_expressions (expressions_agree (length ts + 1)) ts (omega arith)).holds (e, us) h)

pub aexp_shorter : (ts us : List Terminal) (e : Expression) → aexp_step all_expressions ts ≡ Some (e, us) → length us < length ts
aexp_shorter ts us e h = aexp_short ((laws.aexp_found (length ts) all_expressions all_expressions (expressions_agree (length ts)) ts (omega arith)).holds (e, us) h)

pub opd_shorter : (ts us : List Terminal) (e : Expression) → opd_with all_expressions ts ≡ Some (e, us) → length us < length ts
opd_shorter ts us e h = opd_short ((laws.opd_found (length ts) all_expressions all_expressions (expressions_agree (length ts)) ts (omega arith)).holds (e, us) h)

pub decls_shorter : (ts us : List Terminal) (ds : List Declaration) → all_expressions.decls ts ≡ Some (ds, us) → length us < length ts
decls_shorter ts us ds h = decls_short (((expressions_agree (length ts + 1)).decls ts (omega arith)).holds (ds, us) h)

pub apats_shorter : (ts us : List Terminal) (ps : List Pattern) → apats_with all_patterns ts ≡ Some (ps, us) → length us ≤ length ts
apats_shorter ts us ps h = apats_short ((pattern_laws.apats_found (length ts) all_patterns all_patterns (patterns_agree (length ts)) ts (omega arith)).holds (ps, us) h)

pub pattern_shorter : (ts us : List Terminal) (p : Pattern) → all_patterns.whole ts ≡ Some (p, us) → length us < length ts
pattern_shorter ts us p h = pat_short (((patterns_agree (length ts + 1)).whole ts (omega arith)).holds (p, us) h)

pub expect_shorter : (s : Symbol) (ts us : List Terminal) → expect s ts ≡ Some us → length us < length ts
expect_shorter s [] us h = cc
expect_shorter s (k ∷ ts) us h = chosen (same k.symbol s) h
  where
    chosen : (c : Bool) → cond c (Some ts) None ≡ Some us → length us < length (k ∷ ts)
    chosen true e = let same : ts ≡ us = cc in omega (arith, ap length same)
    chosen false e = cc

pub past_shorter : (ts : List Terminal) → length (past_semicolons ts) ≤ length ts
past_shorter ts = past_short ts

pub args_go_on : (f a : Expression) (ts us : List Terminal) → begins_aexp (peek ts) ≡ true → aexp_step all_expressions ts ≡ Some (a, us) → args_from all_expressions (application f a) us ≡ args_from all_expressions f ts
args_go_on f a ts us h e = sym (args_take f a ts us (next_is ts us a h e))

pub args_end : (f : Expression) (ts : List Terminal) → begins_aexp (peek ts) ≡ false → args_from all_expressions f ts ≡ Some (f, ts)
args_end f ts h = args_stop f ts h

pub args_fail : (f : Expression) (ts : List Terminal) → begins_aexp (peek ts) ≡ true → aexp_step all_expressions ts ≡ None → args_from all_expressions f ts ≡ None
unfolding args_from next_aexp
args_fail f ts h e =
    let none : next_aexp all_expressions ts ≡ None = rw (h, e) refl in
    let stop : loop (next_aexp all_expressions) ts ≡ None = sym (starts (loop (next_aexp all_expressions) ts)) ∙ fails arg_steps [] ts none in
    rw stop refl

-- ---- what follows a parenthesis

pub no_expression : (rs : List Terminal) → exp_with all_expressions (tail rs) ≡ None → aexp_by all_expressions Open rs ≡ None
no_expression rs e = rw e refl

pub alone : (x : Expression) (rs ts us : List Terminal) → exp_with all_expressions (tail rs) ≡ Some (x, ts) → is_at Comma ts ≡ false → expect Close ts ≡ Some us → aexp_by all_expressions Open rs ≡ Some (x, us)
unfolding closing
alone x rs ts us e q k = rw e (rw (q, k) refl)

pub alone_open : (x : Expression) (rs ts : List Terminal) → exp_with all_expressions (tail rs) ≡ Some (x, ts) → is_at Comma ts ≡ false → expect Close ts ≡ None → aexp_by all_expressions Open rs ≡ None
unfolding closing
alone_open x rs ts e q k = rw e (rw (q, k) refl)

pub components_start : (x : Expression) (xs : List Expression) (rs ts : List Terminal) → exp_with all_expressions (tail rs) ≡ Some (x, ts) → is_at Comma ts ≡ true → xs ≡ x ∷ [] →
    tuple_rest (exp_with all_expressions) tuple_of_expressions xs ts ≡ aexp_by all_expressions Open rs
unfolding closing tuple_behind tuple_rest
components_start x xs rs ts e q is = rw e (rw (q, is) refl)

pub components_go_on : (xs : List Expression) (x : Expression) (ts us : List Terminal) → is_at Comma ts ≡ true → exp_with all_expressions (tail ts) ≡ Some (x, us) →
    tuple_rest (exp_with all_expressions) tuple_of_expressions (xs ++ x ∷ []) us ≡ tuple_rest (exp_with all_expressions) tuple_of_expressions xs ts
components_go_on xs x ts us e q = tuple_goes_on (exp_with all_expressions) expression_steps tuple_of_expressions xs x ts us e q

pub components_end : (xs : List Expression) (us vs : List Terminal) → is_at Comma us ≡ false → expect Close us ≡ Some vs → length xs ≤ 15 →
    tuple_rest (exp_with all_expressions) tuple_of_expressions xs us ≡ Some (tuple_expression (expressions xs), vs)
components_end xs us vs q k few = tuple_ends (exp_with all_expressions) expression_steps tuple_of_expressions xs us vs q k few

pub components_open : (xs : List Expression) (us : List Terminal) → is_at Comma us ≡ false → expect Close us ≡ None → tuple_rest (exp_with all_expressions) tuple_of_expressions xs us ≡ None
components_open xs us q k = tuple_open (exp_with all_expressions) expression_steps tuple_of_expressions xs us q k

pub components_fail : (xs : List Expression) (us : List Terminal) → is_at Comma us ≡ true → exp_with all_expressions (tail us) ≡ None → tuple_rest (exp_with all_expressions) tuple_of_expressions xs us ≡ None
components_fail xs us q k = tuple_fails (exp_with all_expressions) expression_steps tuple_of_expressions xs us q k

pub components_many : (xs : List Expression) (us : List Terminal) → 15 ≤ length xs → is_at Comma us ≡ true → tuple_rest (exp_with all_expressions) tuple_of_expressions xs us ≡ None
components_many xs us many q = tuple_many (exp_with all_expressions) expression_steps tuple_of_expressions xs us many q

pub elements_none : (ts : List Terminal) → exp_with all_expressions ts ≡ None → list_in (exp_with all_expressions) list_of_expressions ts ≡ None
unfolding list_in
elements_none ts e = rw e refl

pub elements_start : (x : Expression) (xs : List Expression) (rs ts : List Terminal) → exp_with all_expressions rs ≡ Some (x, ts) → xs ≡ x ∷ [] →
    list_rest (exp_with all_expressions) list_of_expressions xs ts ≡ list_in (exp_with all_expressions) list_of_expressions rs
unfolding list_in list_rest
elements_start x xs rs ts e is = rw (e, is) refl

pub elements_go_on : (xs : List Expression) (x : Expression) (ts us : List Terminal) → is_at Comma ts ≡ true → exp_with all_expressions (tail ts) ≡ Some (x, us) →
    list_rest (exp_with all_expressions) list_of_expressions (xs ++ x ∷ []) us ≡ list_rest (exp_with all_expressions) list_of_expressions xs ts
elements_go_on xs x ts us e q = list_goes_on (exp_with all_expressions) expression_steps list_of_expressions xs x ts us e q

pub elements_end : (xs : List Expression) (us vs : List Terminal) → is_at Comma us ≡ false → expect CloseSquare us ≡ Some vs → list_rest (exp_with all_expressions) list_of_expressions xs us ≡ Some (list_expression (expressions xs), vs)
elements_end xs us vs q k = list_ends (exp_with all_expressions) expression_steps list_of_expressions xs us vs q k

pub elements_open : (xs : List Expression) (us : List Terminal) → is_at Comma us ≡ false → expect CloseSquare us ≡ None → list_rest (exp_with all_expressions) list_of_expressions xs us ≡ None
elements_open xs us q k = list_open (exp_with all_expressions) expression_steps list_of_expressions xs us q k

pub elements_fail : (xs : List Expression) (us : List Terminal) → is_at Comma us ≡ true → exp_with all_expressions (tail us) ≡ None → list_rest (exp_with all_expressions) list_of_expressions xs us ≡ None
elements_fail xs us q k = list_fails (exp_with all_expressions) expression_steps list_of_expressions xs us q k

-- ---- lambdas

-- a lambda with these parameters
abbrev lambda_from : Option (List Pattern × List Terminal) → Option (Expression × List Terminal)
lambda_from row = do
  ps ← row
  us ← expect Arrow ps.1
  e ← exp_with all_expressions us
  Some (lambda (patterns ps.0) e.0, e.1)

-- a lambda with p and these parameters
abbrev lambda_behind : Pattern → Option (List Pattern × List Terminal) → Option (Expression × List Terminal)
lambda_behind p row = do
  ps ← row
  us ← expect Arrow ps.1
  e ← exp_with all_expressions us
  Some (lambda (patterns (p ∷ ps.0)) e.0, e.1)

one_before : (p : Pattern) (row : Option (List Pattern × List Terminal)) → lambda_behind p row ≡ lambda_from (row >>= λ x. Some (p ∷ x.0, x.1))
one_before p None = refl
one_before p (Some x) = refl

lambda_is : (ts : List Terminal) → begins_apat (peek ts) ≡ true → lambda_with all_expressions ts ≡ lambda_from (apats_with all_patterns ts)
unfolding lambda_with apats_with
lambda_is ts h = by_first (apat_step all_patterns ts) refl
  where
    by_first : (o : Option (Pattern × List Terminal)) → apat_step all_patterns ts ≡ o → lambda_with all_expressions ts ≡ lambda_from (apats_with all_patterns ts)
    by_first None e =
        let none : loop (next_apat all_patterns) ts ≡ None = sym (starts (loop (next_apat all_patterns) ts)) ∙ fails apat_steps [] ts (apat_refused ts h e) in
        rw (e, none) refl
    by_first (Some p) e =
        let more : loop (next_apat all_patterns) ts ≡ (loop (next_apat all_patterns) p.1 >>= λ x. Some (p.0 ∷ x.0, x.1)) = loop_takes apat_steps ts p.1 p.0 (apat_taken p.0 ts p.1 h e) in
        rw (e, more) (one_before p.0 (loop (next_apat all_patterns) p.1))

pub lambda_read : (ts us vs ws : List Terminal) (ps : List Pattern) (e : Expression) → begins_apat (peek ts) ≡ true → apats_with all_patterns ts ≡ Some (ps, us) → expect Arrow us ≡ Some vs → exp_with all_expressions vs ≡ Some (e, ws) →
    lambda_with all_expressions ts ≡ Some (lambda (patterns ps) e, ws)
lambda_read ts us vs ws ps e h a k b = lambda_is ts h ∙ rw a (rw k (rw b refl))

pub lambda_without : (ts : List Terminal) → begins_apat (peek ts) ≡ false → lambda_with all_expressions ts ≡ None
unfolding lambda_with
lambda_without ts h = by_first (apat_step all_patterns ts) refl
  where
    by_first : (o : Option (Pattern × List Terminal)) → apat_step all_patterns ts ≡ o → lambda_with all_expressions ts ≡ None
    by_first None e = rw e refl
    by_first (Some p) e =
        let begins : begins_apat (peek ts) ≡ true = apat_begins ((pattern_laws.apat_found (length ts) all_patterns all_patterns (patterns_agree (length ts)) ts (omega arith)).holds (p.0, p.1) e) in
        let clash : true ≡ false = sym begins ∙ h in cc

pub lambda_no_pattern : (ts : List Terminal) → begins_apat (peek ts) ≡ true → apats_with all_patterns ts ≡ None → lambda_with all_expressions ts ≡ None
lambda_no_pattern ts h a = lambda_is ts h ∙ rw a refl

pub lambda_no_arrow : (ts us : List Terminal) (ps : List Pattern) → begins_apat (peek ts) ≡ true → apats_with all_patterns ts ≡ Some (ps, us) → expect Arrow us ≡ None → lambda_with all_expressions ts ≡ None
lambda_no_arrow ts us ps h a k = lambda_is ts h ∙ rw a (rw k refl)

pub lambda_no_body : (ts us vs : List Terminal) (ps : List Pattern) → begins_apat (peek ts) ≡ true → apats_with all_patterns ts ≡ Some (ps, us) → expect Arrow us ≡ Some vs → exp_with all_expressions vs ≡ None → lambda_with all_expressions ts ≡ None
lambda_no_body ts us vs ps h a k b = lambda_is ts h ∙ rw a (rw k (rw b refl))

-- ---- items between braces

item_taken : {A : Type 0} (one : Reader A) (x : A) (ts us vs : List Terminal) → is_at RightBrace (past_semicolons ts) ≡ false → one (past_semicolons ts) ≡ Some (x, us) → item_end Semicolon RightBrace us ≡ Some vs → next_item_of one ts ≡ Some (Some x, vs)
unfolding next_item_of
item_taken one x ts us vs h e k = rw h (rw e (rw k refl))

item_open : {A : Type 0} (one : Reader A) (x : A) (ts us : List Terminal) → is_at RightBrace (past_semicolons ts) ≡ false → one (past_semicolons ts) ≡ Some (x, us) → item_end Semicolon RightBrace us ≡ None → next_item_of one ts ≡ None
unfolding next_item_of
item_open one x ts us h e k = rw h (rw e (rw k refl))

item_fails : {A : Type 0} (one : Reader A) (ts : List Terminal) → is_at RightBrace (past_semicolons ts) ≡ false → one (past_semicolons ts) ≡ None → next_item_of one ts ≡ None
unfolding next_item_of
item_fails one ts h e = rw h (rw e refl)

no_item : {A : Type 0} (one : Reader A) (ts : List Terminal) → is_at RightBrace (past_semicolons ts) ≡ true → next_item_of one ts ≡ Some (None, tail (past_semicolons ts))
unfolding next_item_of
no_item one ts h = rw h refl

alt_is : (ts us vs : List Terminal) (p : Pattern) (b : RightSide) → all_patterns.whole ts ≡ Some (p, us) → rhs_with all_expressions Arrow us ≡ Some (b, vs) → alt_with all_expressions ts ≡ Some (alternative p b, vs)
unfolding alt_with
alt_is ts us vs p b e q = rw e (rw q refl)

alt_no_pattern : (ts : List Terminal) → all_patterns.whole ts ≡ None → alt_with all_expressions ts ≡ None
unfolding alt_with
alt_no_pattern ts e = rw e refl

alt_no_rhs : (ts us : List Terminal) (p : Pattern) → all_patterns.whole ts ≡ Some (p, us) → rhs_with all_expressions Arrow us ≡ None → alt_with all_expressions ts ≡ None
unfolding alt_with
alt_no_rhs ts us p e q = rw e (rw q refl)

alt_taken : (p : Pattern) (b : RightSide) (ts us vs ws : List Terminal) → is_at RightBrace (past_semicolons ts) ≡ false → all_patterns.whole (past_semicolons ts) ≡ Some (p, us) → rhs_with all_expressions Arrow us ≡ Some (b, vs) →
    item_end Semicolon RightBrace vs ≡ Some ws → next_item_of (alt_with all_expressions) ts ≡ Some (Some (alternative p b), ws)
alt_taken p b ts us vs ws h e q k = item_taken (alt_with all_expressions) (alternative p b) ts vs ws h (alt_is (past_semicolons ts) us vs p b e q) k

pub alts_none : (ts : List Terminal) → is_at RightBrace (past_semicolons ts) ≡ true → alts_with all_expressions ts ≡ None
unfolding alts_with
alts_none ts h = rw h refl

pub alts_start : (ts : List Terminal) → is_at RightBrace (past_semicolons ts) ≡ false → behind [] (loop (next_item_of (alt_with all_expressions)) (past_semicolons ts)) ≡ alts_with all_expressions ts
unfolding alts_with
alts_start ts h = rw h (starts (loop (next_item_of (alt_with all_expressions)) (past_semicolons ts)))

pub alts_go_on : (xs : List Alternative) (p : Pattern) (b : RightSide) (ts us vs ws : List Terminal) → is_at RightBrace (past_semicolons ts) ≡ false → all_patterns.whole (past_semicolons ts) ≡ Some (p, us) → rhs_with all_expressions Arrow us ≡ Some (b, vs) →
    item_end Semicolon RightBrace vs ≡ Some ws → behind (xs ++ alternative p b ∷ []) (loop (next_item_of (alt_with all_expressions)) ws) ≡ behind xs (loop (next_item_of (alt_with all_expressions)) ts)
alts_go_on xs p b ts us vs ws h e q k = goes_on alt_steps xs (alternative p b) ts ws (alt_taken p b ts us vs ws h e q k)

pub alts_end : (xs : List Alternative) (ts : List Terminal) → is_at RightBrace (past_semicolons ts) ≡ true → behind xs (loop (next_item_of (alt_with all_expressions)) ts) ≡ Some (xs, tail (past_semicolons ts))
alts_end xs ts h = ends alt_steps xs ts (tail (past_semicolons ts)) (no_item (alt_with all_expressions) ts h)

pub alts_no_pattern : (xs : List Alternative) (ts : List Terminal) → is_at RightBrace (past_semicolons ts) ≡ false → all_patterns.whole (past_semicolons ts) ≡ None → behind xs (loop (next_item_of (alt_with all_expressions)) ts) ≡ None
alts_no_pattern xs ts h e = fails alt_steps xs ts (item_fails (alt_with all_expressions) ts h (alt_no_pattern (past_semicolons ts) e))

pub alts_no_rhs : (xs : List Alternative) (p : Pattern) (ts us : List Terminal) → is_at RightBrace (past_semicolons ts) ≡ false → all_patterns.whole (past_semicolons ts) ≡ Some (p, us) → rhs_with all_expressions Arrow us ≡ None →
    behind xs (loop (next_item_of (alt_with all_expressions)) ts) ≡ None
alts_no_rhs xs p ts us h e q = fails alt_steps xs ts (item_fails (alt_with all_expressions) ts h (alt_no_rhs (past_semicolons ts) us p e q))

pub alts_open : (xs : List Alternative) (p : Pattern) (b : RightSide) (ts us vs : List Terminal) → is_at RightBrace (past_semicolons ts) ≡ false → all_patterns.whole (past_semicolons ts) ≡ Some (p, us) → rhs_with all_expressions Arrow us ≡ Some (b, vs) →
    item_end Semicolon RightBrace vs ≡ None → behind xs (loop (next_item_of (alt_with all_expressions)) ts) ≡ None
alts_open xs p b ts us vs h e q k = fails alt_steps xs ts (item_open (alt_with all_expressions) (alternative p b) ts vs h (alt_is (past_semicolons ts) us vs p b e q) k)

pub next_alts_shorter : (p : Pattern) (b : RightSide) (ts us vs ws : List Terminal) → is_at RightBrace (past_semicolons ts) ≡ false → all_patterns.whole (past_semicolons ts) ≡ Some (p, us) → rhs_with all_expressions Arrow us ≡ Some (b, vs) →
    item_end Semicolon RightBrace vs ≡ Some ws → length ws < length ts
next_alts_shorter p b ts us vs ws h e q k = falls alt_steps ts ws (alternative p b) (alt_taken p b ts us vs ws h e q k)

pub decls_none : (ts : List Terminal) → expect LeftBrace ts ≡ None → all_expressions.decls ts ≡ None
unfolding decls_step
decls_none ts e = decls_is ts ∙ rw e refl

pub decls_start : (ts us : List Terminal) → expect LeftBrace ts ≡ Some us → behind [] (loop (next_item_of (decl_with all_expressions)) us) ≡ all_expressions.decls ts
unfolding decls_step
decls_start ts us e = starts (loop (next_item_of (decl_with all_expressions)) us) ∙ sym (decls_is ts ∙ rw e refl)

pub decls_go_on : (xs : List Declaration) (x : Declaration) (ts us vs : List Terminal) → is_at RightBrace (past_semicolons ts) ≡ false → decl_with all_expressions (past_semicolons ts) ≡ Some (x, us) → item_end Semicolon RightBrace us ≡ Some vs →
    behind (xs ++ x ∷ []) (loop (next_item_of (decl_with all_expressions)) vs) ≡ behind xs (loop (next_item_of (decl_with all_expressions)) ts)
decls_go_on xs x ts us vs h e k = goes_on decl_steps xs x ts vs (item_taken (decl_with all_expressions) x ts us vs h e k)

pub decls_end : (xs : List Declaration) (ts : List Terminal) → is_at RightBrace (past_semicolons ts) ≡ true → behind xs (loop (next_item_of (decl_with all_expressions)) ts) ≡ Some (xs, tail (past_semicolons ts))
decls_end xs ts h = ends decl_steps xs ts (tail (past_semicolons ts)) (no_item (decl_with all_expressions) ts h)

pub decls_fail : (xs : List Declaration) (ts : List Terminal) → is_at RightBrace (past_semicolons ts) ≡ false → decl_with all_expressions (past_semicolons ts) ≡ None → behind xs (loop (next_item_of (decl_with all_expressions)) ts) ≡ None
decls_fail xs ts h e = fails decl_steps xs ts (item_fails (decl_with all_expressions) ts h e)

pub decls_open : (xs : List Declaration) (x : Declaration) (ts us : List Terminal) → is_at RightBrace (past_semicolons ts) ≡ false → decl_with all_expressions (past_semicolons ts) ≡ Some (x, us) → item_end Semicolon RightBrace us ≡ None →
    behind xs (loop (next_item_of (decl_with all_expressions)) ts) ≡ None
decls_open xs x ts us h e k = fails decl_steps xs ts (item_open (decl_with all_expressions) x ts us h e k)

pub next_decls_shorter : (x : Declaration) (ts us vs : List Terminal) → is_at RightBrace (past_semicolons ts) ≡ false → decl_with all_expressions (past_semicolons ts) ≡ Some (x, us) → item_end Semicolon RightBrace us ≡ Some vs → length vs < length ts
next_decls_shorter x ts us vs h e k = falls decl_steps ts vs x (item_taken (decl_with all_expressions) x ts us vs h e k)

-- ---- right sides

guard_taken : (s : Symbol) (x : Option Expression × Expression) (ts us : List Terminal) → is_at Bar ts ≡ true → guarded_in all_expressions s (tail ts) ≡ Some (x, us) → next_guarded all_expressions s ts ≡ Some (Some x, us)
unfolding next_guarded
guard_taken s x ts us h e = rw (h, e) refl

guard_refused : (s : Symbol) (ts : List Terminal) → is_at Bar ts ≡ true → guarded_in all_expressions s (tail ts) ≡ None → next_guarded all_expressions s ts ≡ None
unfolding next_guarded
guard_refused s ts h e = rw (h, e) refl

no_guard : (s : Symbol) (ts : List Terminal) → is_at Bar ts ≡ false → next_guarded all_expressions s ts ≡ Some (None, ts)
unfolding next_guarded
no_guard s ts h = rw h refl

pub body_alone : (s : Symbol) (e : Expression) (ts us : List Terminal) → is_at s ts ≡ true → exp_with all_expressions (tail ts) ≡ Some (e, us) → bodies_with all_expressions s ts ≡ Some ((None, e) ∷ [], us)
unfolding bodies_with
body_alone s e ts us h q = rw (h, q) refl

pub body_none : (s : Symbol) (ts : List Terminal) → is_at s ts ≡ true → exp_with all_expressions (tail ts) ≡ None → bodies_with all_expressions s ts ≡ None
unfolding bodies_with
body_none s ts h q = rw (h, q) refl

pub bodies_none : (s : Symbol) (ts : List Terminal) → is_at s ts ≡ false → is_at Bar ts ≡ false → bodies_with all_expressions s ts ≡ None
unfolding bodies_with
bodies_none s ts h k = rw (h, k) refl

pub guards_start : (s : Symbol) (ts : List Terminal) → is_at s ts ≡ false → is_at Bar ts ≡ true → behind [] (loop (next_guarded all_expressions s) ts) ≡ bodies_with all_expressions s ts
unfolding bodies_with
guards_start s ts h k = by_first (guarded_in all_expressions s (tail ts)) refl
  where
    by_first : (o : Option ((Option Expression × Expression) × List Terminal)) → guarded_in all_expressions s (tail ts) ≡ o → behind [] (loop (next_guarded all_expressions s) ts) ≡ bodies_with all_expressions s ts
    by_first None e = fails (guard_steps s) [] ts (guard_refused s ts k e) ∙ rw (h, k, e) refl
    by_first (Some x) e = sym (goes_on (guard_steps s) [] x.0 ts x.1 (guard_taken s x.0 ts x.1 k e)) ∙ rw (h, k, e) refl

pub guards_go_on : (s : Symbol) (xs : List (Option Expression × Expression)) (x : Option Expression × Expression) (ts us : List Terminal) → is_at Bar ts ≡ true → guarded_in all_expressions s (tail ts) ≡ Some (x, us) →
    behind (xs ++ x ∷ []) (loop (next_guarded all_expressions s) us) ≡ behind xs (loop (next_guarded all_expressions s) ts)
guards_go_on s xs x ts us h e = goes_on (guard_steps s) xs x ts us (guard_taken s x ts us h e)

pub guards_end : (s : Symbol) (xs : List (Option Expression × Expression)) (ts : List Terminal) → is_at Bar ts ≡ false → behind xs (loop (next_guarded all_expressions s) ts) ≡ Some (xs, ts)
guards_end s xs ts h = ends (guard_steps s) xs ts ts (no_guard s ts h)

pub guards_fail : (s : Symbol) (xs : List (Option Expression × Expression)) (ts : List Terminal) → is_at Bar ts ≡ true → guarded_in all_expressions s (tail ts) ≡ None → behind xs (loop (next_guarded all_expressions s) ts) ≡ None
guards_fail s xs ts h e = fails (guard_steps s) xs ts (guard_refused s ts h e)

pub next_guarded_shorter : (s : Symbol) (ts us : List Terminal) (x : Option Expression × Expression) → is_at Bar ts ≡ true → guarded_in all_expressions s (tail ts) ≡ Some (x, us) → length us < length ts
next_guarded_shorter s ts us x h e = falls (guard_steps s) ts us x (guard_taken s x ts us h e)

-- ---- first steps

pub symbol_shorter : (s : Symbol) (ts : List Terminal) → is_at s ts ≡ true → is_at s [] ≡ false → length (tail ts) < length ts
symbol_shorter s [] h z = let clash : true ≡ false = sym h ∙ z in cc
symbol_shorter s (k ∷ ts) h z = omega arith

pub backslash_shorter : (ts : List Terminal) → peek ts ≡ Backslash → length (tail ts) < length ts
backslash_shorter [] h = cc
backslash_shorter (k ∷ ts) h = omega arith

pub let_shorter : (ts : List Terminal) → peek ts ≡ Let → length (tail ts) < length ts
let_shorter [] h = cc
let_shorter (k ∷ ts) h = omega arith

pub if_shorter : (ts : List Terminal) → peek ts ≡ If → length (tail ts) < length ts
if_shorter [] h = cc
if_shorter (k ∷ ts) h = omega arith

pub case_shorter : (ts : List Terminal) → is_at Case ts ≡ true → length (tail ts) < length ts
case_shorter [] h = cc
case_shorter (k ∷ ts) h = omega arith

pub colon_shorter : (ts : List Terminal) → is_at Colon ts ≡ true → length (tail ts) < length ts
colon_shorter [] h = cc
colon_shorter (k ∷ ts) h = omega arith

pub where_shorter : (ts : List Terminal) → is_at Where ts ≡ true → length (tail ts) < length ts
where_shorter [] h = cc
where_shorter (k ∷ ts) h = omega arith

pub bar_shorter : (ts : List Terminal) → is_at Bar ts ≡ true → length (tail ts) < length ts
bar_shorter [] h = cc
bar_shorter (k ∷ ts) h = omega arith

pub bodies_shorter : (s : Symbol) (ts us : List Terminal) (xs : List (Option Expression × Expression)) → is_at s [] ≡ false → bodies_with all_expressions s ts ≡ Some (xs, us) → length us < length ts
bodies_shorter s ts us xs z h = ((laws.bodies_found (length ts) all_expressions all_expressions (expressions_agree (length ts)) s z ts (omega arith)).holds (xs, us) h).0

pub variable_shorter : (ts us : List Terminal) (n : Identifier) → var_at ts ≡ Some (n, us) → length us < length ts
variable_shorter ts us n h = laws.var_short n ts us ((laws.var_found ts).holds (n, us) h)

var_taken : (n : Identifier) (ts us : List Terminal) → is_at Comma ts ≡ true → var_at (tail ts) ≡ Some (n, us) → next_of var_at ts ≡ Some (Some n, us)
unfolding next_of
var_taken n ts us h e = rw (h, e) refl

var_refused : (ts : List Terminal) → is_at Comma ts ≡ true → var_at (tail ts) ≡ None → next_of var_at ts ≡ None
unfolding next_of
var_refused ts h e = rw (h, e) refl

no_var : (ts : List Terminal) → is_at Comma ts ≡ false → next_of var_at ts ≡ Some (None, ts)
unfolding next_of
no_var ts h = rw h refl

pub vars_go_on : (xs : List Identifier) (x : Identifier) (ts us : List Terminal) → is_at Comma ts ≡ true → var_at (tail ts) ≡ Some (x, us) → behind (xs ++ x ∷ []) (loop (next_of var_at) us) ≡ behind xs (loop (next_of var_at) ts)
vars_go_on xs x ts us h e = goes_on var_steps xs x ts us (var_taken x ts us h e)

pub vars_end : (xs : List Identifier) (ts : List Terminal) → is_at Comma ts ≡ false → behind xs (loop (next_of var_at) ts) ≡ Some (xs, ts)
vars_end xs ts h = ends var_steps xs ts ts (no_var ts h)

pub vars_fail : (xs : List Identifier) (ts : List Terminal) → is_at Comma ts ≡ true → var_at (tail ts) ≡ None → behind xs (loop (next_of var_at) ts) ≡ None
vars_fail xs ts h e = fails var_steps xs ts (var_refused ts h e)

pub next_vars_shorter : (ts us : List Terminal) (x : Identifier) → is_at Comma ts ≡ true → var_at (tail ts) ≡ Some (x, us) → length us < length ts
next_vars_shorter ts us x h e = falls var_steps ts us x (var_taken x ts us h e)

pub binding_is : (ts us vs : List Terminal) (place : Place) (p : Pattern) (b : RightSide) → IsPlaceAt ts place → all_patterns.whole ts ≡ Some (p, us) → rhs_with all_expressions Equals us ≡ Some (b, vs) →
    binding_with all_expressions ts ≡ Some (binding_of place.line place.column p b, vs)
unfolding binding_with
binding_is [] us vs place p b at w r = let short : length us < 0 = pattern_shorter [] us p w in absurd (omega (arith, short))
binding_is (k ∷ ts) us vs place p b at w r = rw (w, r, at.0, at.1) refl
