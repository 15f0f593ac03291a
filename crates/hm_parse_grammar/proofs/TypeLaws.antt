-- Types are read as they are spelled.
use Rattle.std.proofs.Common.{◌≡◌, inl, inr, false, ℕ, zero, suc, ◌+◌, ◌<◌, ◌≤◌, List, [], ◌∷◌, length, Some, None, refl, subst, cond, arith}
use Rattle.hm_syntax.specs.Trees.{TypeTree, constructor_type, function_type, TypeTrees, no_types, more_types}
use Rattle.hm_syntax.specs.Lists.{types}
use Rattle.hm_parse_grammar.specs.declared.symbol.Symbol.{Symbol}
use Rattle.hm_parse_grammar.specs.declared.symbol.Symbol.TheVariants.{Open, OpenSquare, CloseSquare, Arrow, Var, Con, QCon}
use Rattle.hm_parse_grammar.specs.Tokens.{Terminal, name_of}
use Rattle.hm_parse_grammar.specs.Symbols.{same}
use Rattle.hm_parse_grammar.specs.Grammar.Marks.{IsQcon, NoArrow}
use Rattle.hm_parse_grammar.specs.Grammar.Types.{count_types, Type', type_one, type_arrow, Btype, btype_one, btype_apply, Atype, atype_con, atype_var, atype_unit, atype_paren, atype_tuple, atype_list, Atypes, atypes_none, atypes_more, TypeCommas, types_none, types_more}
use Rattle.hm_parse_grammar.specs.Reading.Basics.{◌>>=◌, Reader, is_at, tail, closing}
use Rattle.hm_parse_grammar.specs.Reading.Types.{tuple_of_types, type_in, atype_by, atype_with, next_atype, atypes_with, btype_with, type_step, type_for, type_at}
use Rattle.hm_parse_grammar.proofs.Holds.{same_true, qcon_is}
use Rattle.hm_parse_grammar.proofs.Rows.{Step}
use Rattle.hm_parse_grammar.proofs.CommaLaws.{CommaRules, closing_found}
use Rattle.hm_parse_grammar.proofs.Both.{Both, both_none, both_some, both_if, both_then, both_more, both_expect, both_loop}

-- ---- whether `->` is next

pub not_arrow : (s : Symbol) → same s Arrow ≡ false → s ≡ Arrow → ⊥
not_arrow s q e = differ (subst (λ z. same z Arrow ≡ false) e q)
  where
    differ : same Arrow Arrow ≡ false → ⊥
    differ h = cc

-- no arrow is next, as the reader tests it
pub no_arrow_next : (ts : List Terminal) → NoArrow ts → is_at Arrow ts ≡ false
no_arrow_next [] h = refl
no_arrow_next (k ∷ ts) h = differs k.symbol h
  where
    differs : (s : Symbol) → (s ≡ Arrow → ⊥) → same s Arrow ≡ false
    differs Arrow d = absurd (d refl)
    differs _ d = refl

-- ---- a spelling takes at least one token

mutual
  pub type_short : {t : TypeTree} {ts rest : List Terminal} → Type' t ts rest → length rest < length ts
  type_short (type_one b a) = btype_short b
  type_short (type_arrow b a t) = omega (arith, btype_short b, type_short t)

  pub btype_short : {t : TypeTree} {ts rest : List Terminal} → Btype t ts rest → length rest < length ts
  btype_short (btype_one a) = atype_short a
  btype_short (btype_apply q a as_) = omega (arith, atype_short a, atypes_short as_)

  pub atype_short : {t : TypeTree} {ts rest : List Terminal} → Atype t ts rest → length rest < length ts
  atype_short (atype_con q) = omega arith
  atype_short (atype_var q) = omega arith
  atype_short (atype_unit o c) = omega arith
  atype_short (atype_paren o t c) = omega (arith, type_short t)
  atype_short (atype_tuple o t ts c n) = omega (arith, type_short t, commas_short ts)
  atype_short (atype_list o t c) = omega (arith, type_short t)

  pub atypes_short : {ts : TypeTrees} {us rest : List Terminal} → Atypes ts us rest → length rest ≤ length us
  atypes_short atypes_none = omega arith
  atypes_short (atypes_more a as_) = omega (arith, atype_short a, atypes_short as_)

  pub commas_short : {ts : TypeTrees} {us rest : List Terminal} → TypeCommas ts us rest → length rest ≤ length us
  commas_short types_none = omega arith
  commas_short (types_more q t ts) = omega (arith, type_short t, commas_short ts)

-- ---- found, and readers that agree on shorter lists agree on this one

abbrev pub IsType : List Terminal → TypeTree × List Terminal → Type 0
IsType ts x = Type' x.0 ts x.1

pub record Agree (n : ℕ) (r s : Reader TypeTree) : Type 0 where
  pub reads : (ts : List Terminal) → length ts < n → Both (IsType ts) (r ts) (s ts)

pub count_is : (xs : List TypeTree) → count_types (types xs) ≡ length xs
count_is [] = refl
count_is (x ∷ xs) = omega (arith, count_is xs)

no_more : {ts : TypeTrees} {us vs : List Terminal} → TypeCommas ts us vs → ts ≡ no_types → us ≡ vs
no_more types_none e = refl
no_more (types_more q t ts) e = cc

pub type_commas : CommaRules Type' (λ xs us rest. TypeCommas (types xs) us rest)
type_commas = record {
  none = λ ts. types_none;
  more = λ k x xs us vs rest q d ds. types_more q d ds;
  short = λ x ts rest d. type_short d;
  empty = λ ts us d. no_more d refl;
}

module _ (n : ℕ) (r s : Reader TypeTree) (g : Agree n r s) where
  closing_types : (k : Terminal) (t : TypeTree) (ts us : List Terminal) → k.symbol ≡ Open → Type' t ts us → length us < n + 1 →
      Both (λ (x : TypeTree × List Terminal). Atype x.0 (k ∷ ts) x.1) (closing r tuple_of_types t us) (closing s tuple_of_types t us)
  closing_types k t ts us o d h =
      closing_found type_commas n r s g.reads tuple_of_types (λ (x : TypeTree × List Terminal). Atype x.0 (k ∷ ts) x.1) t us h
      (λ m ws eq c. atype_paren o (subst (λ z. Type' t ts z) eq d) c)
      (λ y ys m ws ds c few. let count : count_types (types (t ∷ y ∷ ys)) ≤ 15 = rw (count_is (t ∷ y ∷ ys)) few in atype_tuple o d ds c count)

  type_in_found : (k : Terminal) (ts : List Terminal) → k.symbol ≡ Open → length ts < n → Both (λ (x : TypeTree × List Terminal). Atype x.0 (k ∷ ts) x.1) (type_in r ts) (type_in s ts)
  unfolding type_in
  type_in_found k [] o h = both_then _ _ _ _ (g.reads [] h) (λ t d. absurd (omega (arith, type_short d)))
  type_in_found k (l ∷ ts) o h =
      both_if _ _ _ _ _
      (λ q. both_some _ (atype_unit o (same_true _ _ q)))
      (λ _. both_then _ _ _ _ (g.reads (l ∷ ts) h) (λ t d. closing_types k t.0 (l ∷ ts) t.1 o d (omega (arith, type_short d))))

  pub atype_found : (ts : List Terminal) → length ts < n + 1 → Both (λ (x : TypeTree × List Terminal). Atype x.0 ts x.1) (atype_with r ts) (atype_with s ts)
  unfolding atype_with
  atype_found [] h = both_none
  atype_found (k ∷ ts) h = by_symbol k.symbol refl
    where
      by_symbol : (y : Symbol) → k.symbol ≡ y → Both (λ (x : TypeTree × List Terminal). Atype x.0 (k ∷ ts) x.1) (atype_by r y (k ∷ ts)) (atype_by s y (k ∷ ts))
      by_symbol Var e = both_some _ (atype_var e)
      by_symbol Con e = both_some _ (atype_con (inl e))
      by_symbol QCon e = both_some _ (atype_con (inr e))
      by_symbol Open e = type_in_found k ts e (omega arith)
      by_symbol OpenSquare e =
          both_then _ _ _ _ (g.reads ts (omega arith)) (λ (t : TypeTree × List Terminal) d.
          both_expect CloseSquare t.1 _ _ (λ m us eq c. both_some _ (atype_list e (subst (λ z. Type' t.0 ts z) eq d) c)))
      by_symbol _ e = both_none

  pub next_atype_found : (ts : List Terminal) → length ts < n + 1 → Both (Step (λ xs us rest. Atypes (types xs) us rest) ts) (next_atype r ts) (next_atype s ts)
  unfolding next_atype
  next_atype_found ts h =
      both_if _ _ _ _ _
      (λ q. both_then _ _ _ _ (atype_found ts h) (λ (t : TypeTree × List Terminal) d.
      both_some (Some t.0, t.1) (atype_short d, λ xs rest ds. atypes_more d ds)))
      (λ _. both_some (None, ts) atypes_none)

  atypes_found : (ts : List Terminal) → length ts < n + 1 → Both (λ (x : List TypeTree × List Terminal). Atypes (types x.0) ts x.1) (atypes_with r ts) (atypes_with s ts)
  unfolding atypes_with
  atypes_found ts h = both_loop (λ xs vs rest. Atypes (types xs) vs rest) (n + 1) (next_atype r) (next_atype s) next_atype_found ts h

  pub btype_found : (ts : List Terminal) → length ts < n + 1 → Both (λ (x : TypeTree × List Terminal). Btype x.0 ts x.1) (btype_with r ts) (btype_with s ts)
  unfolding btype_with
  btype_found [] h = both_more (atype_found [] h) (λ x d. btype_one d)
  btype_found (k ∷ ts) h =
      both_if _ _ _ _ _
      (λ q. both_then _ _ _ _ (atypes_found ts (omega arith)) (λ (xs : List TypeTree × List Terminal) ds. both_some _ (applied xs.0 xs.1 (qcon_is _ q) ds)))
      (λ _. both_more (atype_found (k ∷ ts) h) (λ x d. btype_one d))
    where
      applied : (xs : List TypeTree) (rest : List Terminal) → IsQcon k → Atypes (types xs) ts rest → Btype (constructor_type (name_of k) (types xs)) (k ∷ ts) rest
      applied [] rest q ds = bare q (none_of ds refl)
        where
          none_of : {ts : TypeTrees} {us vs : List Terminal} → Atypes ts us vs → ts ≡ no_types → us ≡ vs
          none_of atypes_none e = refl
          none_of (atypes_more a as_) e = cc

          bare : IsQcon k → ts ≡ rest → Btype (constructor_type (name_of k) no_types) (k ∷ ts) rest
          bare q e = rw e (btype_one (atype_con q))
      applied (x ∷ xs) rest q ds = some_of ds
        where
          some_of : {us : List Terminal} → Atypes (more_types x (types xs)) us rest → Btype (constructor_type (name_of k) (more_types x (types xs))) (k ∷ us) rest
          some_of (atypes_more a as_) = btype_apply q a as_

  step_found : (ts : List Terminal) → length ts < n + 1 → Both (IsType ts) (type_step r ts) (type_step s ts)
  unfolding type_step
  step_found ts h = both_then _ _ _ _ (btype_found ts h) (λ (t : TypeTree × List Terminal) d. arrow t.0 t.1 d)
    where
      arrow : (t : TypeTree) (us : List Terminal) → Btype t ts us → Both (IsType ts)
          (cond (is_at Arrow us) (r (tail us) >>= λ (u : TypeTree × List Terminal). Some (function_type t u.0, u.1)) (Some (t, us)))
          (cond (is_at Arrow us) (s (tail us) >>= λ (u : TypeTree × List Terminal). Some (function_type t u.0, u.1)) (Some (t, us)))
      arrow t [] d = both_some _ (type_one d tt)
      arrow t (k ∷ us) d =
          both_if _ _ _ _ _
          (λ q. both_then _ _ _ _ (g.reads us (omega (arith, btype_short d))) (λ u du. both_some _ (type_arrow d (same_true _ _ q) du)))
          (λ q. both_some _ (type_one d (not_arrow k.symbol q)))

  step_agree : Agree (suc n) (type_step r) (type_step s)
  step_agree = record { reads = λ ts h. step_found ts (omega arith) }

for_agree : (n j k : ℕ) → n ≤ j → n ≤ k → Agree n (type_for j) (type_for k)
for_agree zero j k p q = record { reads = λ ts h. absurd (omega arith) }
for_agree (suc n) zero k p q = absurd (omega arith)
for_agree (suc n) (suc j) zero p q = absurd (omega arith)
for_agree (suc n) (suc j) (suc k) p q = record { reads = (step_agree n (type_for j) (type_for k) (for_agree n j k (omega arith) (omega arith))).reads }

-- enough calls for this list are enough for each
at_agree : (n : ℕ) → Agree n (type_for n) type_at
unfolding type_at
at_agree n = record { reads = λ ts h. (for_agree (suc (length ts)) n (suc (length ts)) (omega arith) (omega arith)).reads ts (omega arith) }

type_both : (ts : List Terminal) → Both (IsType ts) (type_at ts) (type_step type_at ts)
unfolding type_at
type_both ts = (step_agree (length ts) (type_for (length ts)) type_at (at_agree (length ts))).reads ts (omega arith)

-- a type is read in one step of itself
pub type_is : (ts : List Terminal) → type_at ts ≡ type_step type_at ts
type_is ts = (type_both ts).equal

pub type_agree : (n : ℕ) → Agree n type_at type_at
type_agree n = record { reads = λ ts h. record { equal = refl; holds = (type_both ts).holds } }
