-- What is spelled as a type is read, where no further type follows.
use Rattle.std.proofs.Common.{◌≡◌, ◌⊎◌, inl, inr, ◌≤◌, List, [], ◌∷◌, length, true, false, Some, refl, ap, ◌∙◌, arith}
use Rattle.hm_syntax.specs.Trees.{TypeTree, tuple_type, TypeTrees, no_types, more_types}
use Rattle.hm_syntax.specs.Lists.{types}
use Rattle.hm_parse_grammar.specs.declared.symbol.Symbol.{Symbol}
use Rattle.hm_parse_grammar.specs.declared.symbol.Symbol.TheVariants.{Close, Comma, Con, QCon}
use Rattle.hm_parse_grammar.specs.Symbols.{same, is_qcon}
use Rattle.hm_parse_grammar.specs.Tokens.{Terminal}
use Rattle.hm_parse_grammar.specs.Grammar.Types.{count_types, Type', type_one, type_arrow, Btype, btype_one, btype_apply, Atype, atype_con, atype_var, atype_unit, atype_paren, atype_tuple, atype_list, Atypes, atypes_none, atypes_more, TypeCommas, types_none, types_more}
use Rattle.hm_parse_grammar.specs.Reading.Basics.{peek, is_at, loop, next_of}
use Rattle.hm_parse_grammar.specs.Reading.Types.{begins_atype, tuple_of_types, type_in, atype_with, next_atype, atypes_with, btype_with, type_step, type_at}
use Rattle.hm_parse_grammar.proofs.Rows.{Steps, loop_stops, loop_takes}
use Rattle.hm_parse_grammar.proofs.CommaLaws.{next_found, closes_one, closes_row, row_stops, row_takes}
use Rattle.hm_parse_grammar.proofs.TypeLaws.{no_arrow_next, type_commas, next_atype_found, type_agree, type_is, count_is}

abbrev pub type_list : TypeTrees → List TypeTree
type_list no_types = []
type_list (more_types t ts) = t ∷ type_list ts

pub types_list : (ts : TypeTrees) → types (type_list ts) ≡ ts
types_list no_types = refl
types_list (more_types t ts) = ap (more_types t) (types_list ts)

pub type_steps : Steps (λ xs us rest. TypeCommas (types xs) us rest) (next_of type_at)
type_steps = record { step = λ ts. record { holds = (next_found type_commas (length ts) type_at type_at (type_agree (length ts)).reads ts (omega arith)).holds } }

pub atype_steps : Steps (λ xs us rest. Atypes (types xs) us rest) (next_atype type_at)
atype_steps = record { step = λ ts. record { holds = (next_atype_found (length ts) type_at type_at (type_agree (length ts)) ts (omega arith)).holds } }

atype_begins : {t : TypeTree} {ts rest : List Terminal} → Atype t ts rest → begins_atype (peek ts) ≡ true
atype_begins (atype_con (inl q)) = ap begins_atype q
atype_begins (atype_con (inr q)) = ap begins_atype q
atype_begins (atype_var q) = ap begins_atype q
atype_begins (atype_unit o c) = ap begins_atype o
atype_begins (atype_paren o t c) = ap begins_atype o
atype_begins (atype_tuple o t ts c n) = ap begins_atype o
atype_begins (atype_list o t c) = ap begins_atype o

qcon_begins : (s : Symbol) → (s ≡ Con) ⊎ (s ≡ QCon) → begins_atype s ≡ true
qcon_begins s (inl q) = ap begins_atype q
qcon_begins s (inr q) = ap begins_atype q

btype_begins : {t : TypeTree} {ts rest : List Terminal} → Btype t ts rest → begins_atype (peek ts) ≡ true
btype_begins (btype_one a) = atype_begins a
btype_begins (btype_apply q a as_) = qcon_begins _ q

type_begins : {t : TypeTree} {ts rest : List Terminal} → Type' t ts rest → begins_atype (peek ts) ≡ true
type_begins (type_one b a) = btype_begins b
type_begins (type_arrow b q t) = btype_begins b

not_close : (s : Symbol) → begins_atype s ≡ true → same s Close ≡ false
not_close Close h = cc
not_close _ h = refl

commas_follow : {ts : TypeTrees} {us rest : List Terminal} → TypeCommas ts us rest → begins_atype (peek rest) ≡ false → begins_atype (peek us) ≡ false
commas_follow types_none h = h
commas_follow (types_more q t ts) h = ap begins_atype q

is_qcon_of : (s : Symbol) → (s ≡ Con) ⊎ (s ≡ QCon) → is_qcon s ≡ true
is_qcon_of s (inl q) = ap is_qcon q
is_qcon_of s (inr q) = ap is_qcon q

few : (t u : TypeTree) (ts : TypeTrees) → count_types (more_types t (more_types u ts)) ≤ 15 → length (t ∷ u ∷ type_list ts) ≤ 15
few t u ts h = rw (← count_is (t ∷ u ∷ type_list ts)) (rw (types_list ts) h)

commas_begin : {u : TypeTree} {ts : TypeTrees} {us rest : List Terminal} → TypeCommas (more_types u ts) us rest → peek us ≡ Comma
commas_begin (types_more q t ts) = q

-- a row with one more type at its front
took : (t : TypeTree) (xs : List TypeTree) (us vs rest : List Terminal) → begins_atype (peek us) ≡ true → atype_with type_at us ≡ Some (t, vs) → loop (next_atype type_at) vs ≡ Some (xs, rest) →
    loop (next_atype type_at) us ≡ Some (t ∷ xs, rest)
unfolding next_atype
took t xs us vs rest b a l = loop_takes atype_steps us vs t (rw (b, a) refl) ∙ rw l refl

stopped : (us : List Terminal) → begins_atype (peek us) ≡ false → loop (next_atype type_at) us ≡ Some ([], us)
unfolding next_atype
stopped us h = loop_stops atype_steps us us (rw h refl)

mutual
  unfolding type_step btype_with atypes_with atype_with next_atype type_in

  pub only_type : {t : TypeTree} {ts rest : List Terminal} → Type' t ts rest → begins_atype (peek rest) ≡ false → type_at ts ≡ Some (t, rest)
  only_type (type_one {ts = ts} b a) h = type_is ts ∙ rw (only_btype b h) (rw (no_arrow_next _ a) refl)
  only_type (type_arrow {ts = ts} b q t) h = type_is ts ∙ rw (only_btype b (ap begins_atype q)) (rw q (rw (only_type t h) refl))

  only_btype : {t : TypeTree} {ts rest : List Terminal} → Btype t ts rest → begins_atype (peek rest) ≡ false → btype_with type_at ts ≡ Some (t, rest)
  only_btype (btype_one (atype_con {rest = rest} q)) h = rw (is_qcon_of _ q) (rw (stopped rest h) refl)
  only_btype (btype_one (atype_var q)) h = rw (ap is_qcon q) (only_atype (atype_var q))
  only_btype (btype_one (atype_unit o c)) h = rw (ap is_qcon o) (only_atype (atype_unit o c))
  only_btype (btype_one (atype_paren o t c)) h = rw (ap is_qcon o) (only_atype (atype_paren o t c))
  only_btype (btype_one (atype_tuple o t ts c n)) h = rw (ap is_qcon o) (only_atype (atype_tuple o t ts c n))
  only_btype (btype_one (atype_list o t c)) h = rw (ap is_qcon o) (only_atype (atype_list o t c))
  only_btype (btype_apply {t = t} {ts = ts} {us = us} {vs = vs} {rest = rest} q a as_) h =
      rw (is_qcon_of _ q) (rw (took t (type_list ts) us vs rest (atype_begins a) (only_atype a) (only_atypes as_ h)) (rw (types_list ts) refl))

  pub only_atypes : {ts : TypeTrees} {us rest : List Terminal} → Atypes ts us rest → begins_atype (peek rest) ≡ false → loop (next_atype type_at) us ≡ Some (type_list ts, rest)
  only_atypes (atypes_none {ts = us}) h = stopped us h
  only_atypes (atypes_more {t = t} {ts = ts} {us = us} {vs = vs} {rest = rest} a as_) h = took t (type_list ts) us vs rest (atype_begins a) (only_atype a) (only_atypes as_ h)

  pub only_atype : {t : TypeTree} {ts rest : List Terminal} → Atype t ts rest → atype_with type_at ts ≡ Some (t, rest)
  only_atype (atype_con (inl q)) = rw q refl
  only_atype (atype_con (inr q)) = rw q refl
  only_atype (atype_var q) = rw q refl
  only_atype (atype_unit o c) = rw o (rw c refl)
  only_atype (atype_paren {t = t} {m = m} {us = us} {rest = rest} o d c) =
      rw o (rw (not_close (peek us) (type_begins d)) (rw (only_type d (ap begins_atype c)) (closes_one type_at tuple_of_types t m rest c)))
  only_atype (atype_tuple {t = t} {u = u} {ts = ts} {m = m} {us = us} {vs = vs} {rest = rest} o d ds c n) =
      rw o (rw (not_close (peek us) (type_begins d)) (rw (only_type d (ap begins_atype (commas_begin ds)))
      (closes_row type_at tuple_of_types t (u ∷ type_list ts) vs m rest (ap (λ z. same z Comma) (commas_begin ds)) (only_commas ds (ap (λ z. same z Comma) c) (ap begins_atype c)) c (few t u ts n)
      ∙ ap (λ z. Some (tuple_type (more_types t (more_types u z)), rest)) (types_list ts))))
  only_atype (atype_list o t c) = rw o (rw (only_type t (ap begins_atype c)) (rw c refl))

  only_commas : {ts : TypeTrees} {us rest : List Terminal} → TypeCommas ts us rest → is_at Comma rest ≡ false → begins_atype (peek rest) ≡ false → loop (next_of type_at) us ≡ Some (type_list ts, rest)
  only_commas (types_none {ts = us}) h b = row_stops type_at type_steps us h
  only_commas (types_more {t = t} {ts = ts} {k = k} {us = us} {vs = vs} {rest = rest} q d ds) h b =
      row_takes type_at type_steps (type_list ts) rest vs t (only_commas ds h b) (k ∷ us) (ap (λ z. same z Comma) q) (only_type d (commas_follow ds b))
