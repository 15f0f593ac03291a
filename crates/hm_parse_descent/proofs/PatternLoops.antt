-- The loops and calls of the parser of patterns.
use Rattle.std.proofs.Common.{◌≡◌, ◌+◌, ◌<◌, ◌≤◌, List, [], ◌∷◌, ◌++◌, length, true, false, Some, None, refl, arith}
use Rattle.hm_syntax.specs.Names.{Identifier}
use Rattle.hm_syntax.specs.Trees.{Pattern, tuple_pattern, list_pattern}
use Rattle.hm_syntax.specs.Lists.{patterns}
use Rattle.hm_parse_grammar.specs.declared.symbol.Symbol.TheVariants.{Tilde, Open, Close, CloseSquare, Comma}
use Rattle.hm_parse_grammar.specs.Tokens.{Terminal}
use Rattle.hm_parse_grammar.specs.Reading.Basics.{peek, is_at, tail, expect, loop, behind, tuple_behind, closing, list_in}
use Rattle.hm_parse_grammar.specs.Reading.Constructors.{gcon_at}
use Rattle.hm_parse_grammar.specs.Reading.Patterns.{begins_apat, tuple_of_patterns, list_of_patterns, apat_by, apat_step, next_apat, lpat_with, pat_step, all_patterns}
use Rattle.hm_parse_grammar.proofs.Rows.{falls, goes_on, ends, fails, starts}
use Rattle.hm_parse_grammar.proofs.ConstructorLaws.{gcon_found, gcon_short}
use Rattle.hm_parse_grammar.proofs.PatternLaws as laws
use Rattle.hm_parse_grammar.proofs.PatternLaws.{pat_short, lpat_short, patterns_agree}
use Rattle.hm_parse_grammar.proofs.OnlyPatterns.{pattern_steps, apat_steps}
use Rattle.hm_parse_descent.proofs.CommaLoops.{tuple_rest, list_rest, tuple_goes_on, tuple_ends, tuple_open, tuple_fails, tuple_many, list_goes_on, list_ends, list_open, list_fails}

pub pat_is : (ts : List Terminal) → all_patterns.whole ts ≡ pat_step all_patterns ts
pat_is ts = laws.pat_is ts

pub apat_is : (ts : List Terminal) → all_patterns.single ts ≡ apat_step all_patterns ts
apat_is ts = laws.apat_is ts

pub tilde_shorter : (ts : List Terminal) → peek ts ≡ Tilde → length (tail ts) < length ts
tilde_shorter [] h = cc
tilde_shorter (k ∷ ts) h = omega arith

pub gcon_shorter : (ts us : List Terminal) (n : Identifier) → gcon_at ts ≡ Some (n, us) → length us < length ts
gcon_shorter ts us n e = gcon_short ((gcon_found ts).holds (n, us) e)

pub pattern_shorter : (ts us : List Terminal) (p : Pattern) → all_patterns.whole ts ≡ Some (p, us) → length us < length ts
pattern_shorter ts us p e = pat_short (((patterns_agree (length ts + 1)).whole ts (omega arith)).holds (p, us) e)

pub lpat_shorter : (ts us : List Terminal) (p : Pattern) → lpat_with all_patterns ts ≡ Some (p, us) → length us < length ts
lpat_shorter ts us p e = lpat_short ((laws.lpat_found (length ts) all_patterns all_patterns (patterns_agree (length ts)) ts (omega arith)).holds (p, us) e)

-- ---- what follows a parenthesis

pub no_pattern : (rs : List Terminal) → all_patterns.whole (tail rs) ≡ None → apat_by all_patterns Open rs ≡ None
no_pattern rs e = rw e refl

pub alone : (x : Pattern) (rs ts us : List Terminal) → all_patterns.whole (tail rs) ≡ Some (x, ts) → is_at Comma ts ≡ false → expect Close ts ≡ Some us → apat_by all_patterns Open rs ≡ Some (x, us)
unfolding closing
alone x rs ts us e q k = rw e (rw (q, k) refl)

pub alone_open : (x : Pattern) (rs ts : List Terminal) → all_patterns.whole (tail rs) ≡ Some (x, ts) → is_at Comma ts ≡ false → expect Close ts ≡ None → apat_by all_patterns Open rs ≡ None
unfolding closing
alone_open x rs ts e q k = rw e (rw (q, k) refl)

pub components_start : (x : Pattern) (xs : List Pattern) (rs ts : List Terminal) → all_patterns.whole (tail rs) ≡ Some (x, ts) → is_at Comma ts ≡ true → xs ≡ x ∷ [] → tuple_rest all_patterns.whole tuple_of_patterns xs ts ≡ apat_by all_patterns Open rs
unfolding closing tuple_behind tuple_rest
components_start x xs rs ts e q is = rw e (rw (q, is) refl)

pub components_go_on : (xs : List Pattern) (x : Pattern) (ts us : List Terminal) → is_at Comma ts ≡ true → all_patterns.whole (tail ts) ≡ Some (x, us) →
    tuple_rest all_patterns.whole tuple_of_patterns (xs ++ x ∷ []) us ≡ tuple_rest all_patterns.whole tuple_of_patterns xs ts
components_go_on xs x ts us e q = tuple_goes_on all_patterns.whole pattern_steps tuple_of_patterns xs x ts us e q

pub components_end : (xs : List Pattern) (us vs : List Terminal) → is_at Comma us ≡ false → expect Close us ≡ Some vs → length xs ≤ 15 → tuple_rest all_patterns.whole tuple_of_patterns xs us ≡ Some (tuple_pattern (patterns xs), vs)
components_end xs us vs q k few = tuple_ends all_patterns.whole pattern_steps tuple_of_patterns xs us vs q k few

pub components_open : (xs : List Pattern) (us : List Terminal) → is_at Comma us ≡ false → expect Close us ≡ None → tuple_rest all_patterns.whole tuple_of_patterns xs us ≡ None
components_open xs us q k = tuple_open all_patterns.whole pattern_steps tuple_of_patterns xs us q k

pub components_fail : (xs : List Pattern) (us : List Terminal) → is_at Comma us ≡ true → all_patterns.whole (tail us) ≡ None → tuple_rest all_patterns.whole tuple_of_patterns xs us ≡ None
components_fail xs us q k = tuple_fails all_patterns.whole pattern_steps tuple_of_patterns xs us q k

pub components_many : (xs : List Pattern) (us : List Terminal) → 15 ≤ length xs → is_at Comma us ≡ true → tuple_rest all_patterns.whole tuple_of_patterns xs us ≡ None
components_many xs us many q = tuple_many all_patterns.whole pattern_steps tuple_of_patterns xs us many q

pub elements_none : (ts : List Terminal) → all_patterns.whole ts ≡ None → list_in all_patterns.whole list_of_patterns ts ≡ None
unfolding list_in
elements_none ts e = rw e refl

pub elements_start : (x : Pattern) (xs : List Pattern) (rs ts : List Terminal) → all_patterns.whole rs ≡ Some (x, ts) → xs ≡ x ∷ [] → list_rest all_patterns.whole list_of_patterns xs ts ≡ list_in all_patterns.whole list_of_patterns rs
unfolding list_in list_rest
elements_start x xs rs ts e is = rw (e, is) refl

pub elements_go_on : (xs : List Pattern) (x : Pattern) (ts us : List Terminal) → is_at Comma ts ≡ true → all_patterns.whole (tail ts) ≡ Some (x, us) →
    list_rest all_patterns.whole list_of_patterns (xs ++ x ∷ []) us ≡ list_rest all_patterns.whole list_of_patterns xs ts
elements_go_on xs x ts us e q = list_goes_on all_patterns.whole pattern_steps list_of_patterns xs x ts us e q

pub elements_end : (xs : List Pattern) (us vs : List Terminal) → is_at Comma us ≡ false → expect CloseSquare us ≡ Some vs → list_rest all_patterns.whole list_of_patterns xs us ≡ Some (list_pattern (patterns xs), vs)
elements_end xs us vs q k = list_ends all_patterns.whole pattern_steps list_of_patterns xs us vs q k

pub elements_open : (xs : List Pattern) (us : List Terminal) → is_at Comma us ≡ false → expect CloseSquare us ≡ None → list_rest all_patterns.whole list_of_patterns xs us ≡ None
elements_open xs us q k = list_open all_patterns.whole pattern_steps list_of_patterns xs us q k

pub elements_fail : (xs : List Pattern) (us : List Terminal) → is_at Comma us ≡ true → all_patterns.whole (tail us) ≡ None → list_rest all_patterns.whole list_of_patterns xs us ≡ None
elements_fail xs us q k = list_fails all_patterns.whole pattern_steps list_of_patterns xs us q k

-- ---- the patterns after a name

pub apat_taken : (x : Pattern) (ts us : List Terminal) → begins_apat (peek ts) ≡ true → apat_step all_patterns ts ≡ Some (x, us) → next_apat all_patterns ts ≡ Some (Some x, us)
unfolding next_apat
apat_taken x ts us h e = rw (h, e) refl

pub apat_refused : (ts : List Terminal) → begins_apat (peek ts) ≡ true → apat_step all_patterns ts ≡ None → next_apat all_patterns ts ≡ None
unfolding next_apat
apat_refused ts h e = rw (h, e) refl

stopped : (ts : List Terminal) → begins_apat (peek ts) ≡ false → next_apat all_patterns ts ≡ Some (None, ts)
unfolding next_apat
stopped ts h = rw h refl

pub apats_go_on : (xs : List Pattern) (x : Pattern) (ts us : List Terminal) → begins_apat (peek ts) ≡ true → apat_step all_patterns ts ≡ Some (x, us) → behind (xs ++ x ∷ []) (loop (next_apat all_patterns) us) ≡ behind xs (loop (next_apat all_patterns) ts)
apats_go_on xs x ts us h e = goes_on apat_steps xs x ts us (apat_taken x ts us h e)

pub apats_end : (xs : List Pattern) (ts : List Terminal) → begins_apat (peek ts) ≡ false → behind xs (loop (next_apat all_patterns) ts) ≡ Some (xs, ts)
apats_end xs ts h = ends apat_steps xs ts ts (stopped ts h)

pub apats_fail : (xs : List Pattern) (ts : List Terminal) → begins_apat (peek ts) ≡ true → apat_step all_patterns ts ≡ None → behind xs (loop (next_apat all_patterns) ts) ≡ None
apats_fail xs ts h e = fails apat_steps xs ts (apat_refused ts h e)

pub apats_start : (ts : List Terminal) → behind [] (loop (next_apat all_patterns) ts) ≡ loop (next_apat all_patterns) ts
apats_start ts = starts (loop (next_apat all_patterns) ts)

pub apats_shorter : (ts us : List Terminal) (x : Pattern) → begins_apat (peek ts) ≡ true → apat_step all_patterns ts ≡ Some (x, us) → length us < length ts
apats_shorter ts us x h e = falls apat_steps ts us x (apat_taken x ts us h e)
