-- The loops and calls of the parser of types.
use Rattle.std.proofs.Common.{◌≡◌, ◌+◌, ◌<◌, ◌≤◌, List, [], ◌∷◌, ◌++◌, length, true, false, Some, None, refl, ap, arith}
use Rattle.hm_syntax.specs.Names.{Identifier}
use Rattle.hm_syntax.specs.Trees.{TypeTree, tuple_type, unit_type}
use Rattle.hm_syntax.specs.Lists.{types}
use Rattle.hm_parse_grammar.specs.declared.symbol.Symbol.TheVariants.{OpenSquare, Close, Comma}
use Rattle.hm_parse_grammar.specs.Tokens.{Terminal, name_of}
use Rattle.hm_parse_grammar.specs.Reading.Basics.{peek, is_at, tail, expect, name_at, loop, behind, tuple_behind, closing}
use Rattle.hm_parse_grammar.specs.Reading.Types.{begins_atype, tuple_of_types, type_in, atype_with, next_atype, btype_with, type_at}
use Rattle.hm_parse_grammar.proofs.Rows.{falls, goes_on, ends, fails, starts}
use Rattle.hm_parse_grammar.proofs.TypeLaws as types
use Rattle.hm_parse_grammar.proofs.TypeLaws.{type_short, btype_short, type_agree}
use Rattle.hm_parse_grammar.proofs.OnlyTypes.{type_steps, atype_steps}
use Rattle.hm_parse_descent.proofs.CommaLoops.{tuple_rest, tuple_goes_on, tuple_ends, tuple_open, tuple_fails, tuple_many}

pub type_is : (ts : List Terminal) → type_at ts ≡ Rattle.hm_parse_grammar.specs.Reading.Types.type_step type_at ts
type_is ts = types.type_is ts

pub square_shorter : (ts : List Terminal) → peek ts ≡ OpenSquare → length (tail ts) < length ts
square_shorter [] h = cc
square_shorter (k ∷ ts) h = omega arith

pub comma_shorter : (ts : List Terminal) → is_at Comma ts ≡ true → length (tail ts) < length ts
comma_shorter [] h = cc
comma_shorter (k ∷ ts) h = omega arith

pub tail_length : (ts : List Terminal) → length (tail ts) ≤ length ts
tail_length [] = omega arith
tail_length (k ∷ ts) = omega arith

pub name_shorter : (ts us : List Terminal) (n : Identifier) → name_at ts ≡ Some (n, us) → length us < length ts
name_shorter [] us n h = cc
name_shorter (k ∷ ts) us n h = let same : ◌≡◌ {A = Identifier × List Terminal} (n, us) (name_of k, ts) = cc in omega (arith, ap (λ x. length x.1) same)

pub type_shorter : (ts us : List Terminal) (t : TypeTree) → type_at ts ≡ Some (t, us) → length us < length ts
type_shorter ts us t e = type_short (((type_agree (length ts + 1)).reads ts (omega arith)).holds (t, us) e)

pub btype_shorter : (ts us : List Terminal) (t : TypeTree) → btype_with type_at ts ≡ Some (t, us) → length us < length ts
btype_shorter ts us t e = btype_short ((types.btype_found (length ts) type_at type_at (type_agree (length ts)) ts (omega arith)).holds (t, us) e)

-- ---- what follows a parenthesis

pub unit_is : (ts : List Terminal) → is_at Close ts ≡ true → type_in type_at ts ≡ Some (unit_type, tail ts)
unfolding type_in
unit_is ts h = rw h refl

pub no_type : (ts : List Terminal) → is_at Close ts ≡ false → type_at ts ≡ None → type_in type_at ts ≡ None
unfolding type_in
no_type ts h e = rw (h, e) refl

pub alone : (x : TypeTree) (rs ts us : List Terminal) → is_at Close rs ≡ false → type_at rs ≡ Some (x, ts) → is_at Comma ts ≡ false → expect Close ts ≡ Some us → type_in type_at rs ≡ Some (x, us)
unfolding type_in closing
alone x rs ts us h e q k = rw (h, e) (rw (q, k) refl)

pub alone_open : (x : TypeTree) (rs ts : List Terminal) → is_at Close rs ≡ false → type_at rs ≡ Some (x, ts) → is_at Comma ts ≡ false → expect Close ts ≡ None → type_in type_at rs ≡ None
unfolding type_in closing
alone_open x rs ts h e q k = rw (h, e) (rw (q, k) refl)

pub components_start : (x : TypeTree) (xs : List TypeTree) (rs ts : List Terminal) → is_at Close rs ≡ false → type_at rs ≡ Some (x, ts) → is_at Comma ts ≡ true → xs ≡ x ∷ [] → tuple_rest type_at tuple_of_types xs ts ≡ type_in type_at rs
unfolding type_in closing tuple_behind tuple_rest
components_start x xs rs ts h e q is = rw (h, e) (rw (q, is) refl)

pub components_go_on : (xs : List TypeTree) (x : TypeTree) (ts us : List Terminal) → is_at Comma ts ≡ true → type_at (tail ts) ≡ Some (x, us) →
    tuple_rest type_at tuple_of_types (xs ++ x ∷ []) us ≡ tuple_rest type_at tuple_of_types xs ts
components_go_on xs x ts us e q = tuple_goes_on type_at type_steps tuple_of_types xs x ts us e q

pub components_end : (xs : List TypeTree) (us vs : List Terminal) → is_at Comma us ≡ false → expect Close us ≡ Some vs → length xs ≤ 15 → tuple_rest type_at tuple_of_types xs us ≡ Some (tuple_type (types xs), vs)
components_end xs us vs q k few = tuple_ends type_at type_steps tuple_of_types xs us vs q k few

pub components_open : (xs : List TypeTree) (us : List Terminal) → is_at Comma us ≡ false → expect Close us ≡ None → tuple_rest type_at tuple_of_types xs us ≡ None
components_open xs us q k = tuple_open type_at type_steps tuple_of_types xs us q k

pub components_fail : (xs : List TypeTree) (us : List Terminal) → is_at Comma us ≡ true → type_at (tail us) ≡ None → tuple_rest type_at tuple_of_types xs us ≡ None
components_fail xs us q k = tuple_fails type_at type_steps tuple_of_types xs us q k

pub components_many : (xs : List TypeTree) (us : List Terminal) → 15 ≤ length xs → is_at Comma us ≡ true → tuple_rest type_at tuple_of_types xs us ≡ None
components_many xs us many q = tuple_many type_at type_steps tuple_of_types xs us many q

-- ---- the arguments of a constructor

taken : (x : TypeTree) (ts us : List Terminal) → begins_atype (peek ts) ≡ true → atype_with type_at ts ≡ Some (x, us) → next_atype type_at ts ≡ Some (Some x, us)
unfolding next_atype
taken x ts us h e = rw (h, e) refl

refused : (ts : List Terminal) → begins_atype (peek ts) ≡ true → atype_with type_at ts ≡ None → next_atype type_at ts ≡ None
unfolding next_atype
refused ts h e = rw (h, e) refl

stopped : (ts : List Terminal) → begins_atype (peek ts) ≡ false → next_atype type_at ts ≡ Some (None, ts)
unfolding next_atype
stopped ts h = rw h refl

pub atypes_go_on : (xs : List TypeTree) (x : TypeTree) (ts us : List Terminal) → begins_atype (peek ts) ≡ true → atype_with type_at ts ≡ Some (x, us) → behind (xs ++ x ∷ []) (loop (next_atype type_at) us) ≡ behind xs (loop (next_atype type_at) ts)
atypes_go_on xs x ts us h e = goes_on atype_steps xs x ts us (taken x ts us h e)

pub atypes_end : (xs : List TypeTree) (ts : List Terminal) → begins_atype (peek ts) ≡ false → behind xs (loop (next_atype type_at) ts) ≡ Some (xs, ts)
atypes_end xs ts h = ends atype_steps xs ts ts (stopped ts h)

pub atypes_fail : (xs : List TypeTree) (ts : List Terminal) → begins_atype (peek ts) ≡ true → atype_with type_at ts ≡ None → behind xs (loop (next_atype type_at) ts) ≡ None
atypes_fail xs ts h e = fails atype_steps xs ts (refused ts h e)

pub atypes_start : (ts : List Terminal) → behind [] (loop (next_atype type_at) ts) ≡ loop (next_atype type_at) ts
atypes_start ts = starts (loop (next_atype type_at) ts)

pub atypes_shorter : (ts us : List Terminal) (x : TypeTree) → begins_atype (peek ts) ≡ true → atype_with type_at ts ≡ Some (x, us) → length us < length ts
atypes_shorter ts us x h e = falls atype_steps ts us x (taken x ts us h e)
