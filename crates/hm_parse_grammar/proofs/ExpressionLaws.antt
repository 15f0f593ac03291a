-- Expressions and declarations are read as they are spelled.
use Rattle.std.proofs.Common.{◌≡◌, inl, inr, ℕ, zero, suc, ◌+◌, ◌<◌, ◌≤◌, List, [], ◌∷◌, length, Bool, true, false, Option, Some, None, refl, sym, ap, ◌∙◌, subst, cond, arith, codes}
use Rattle.hm_syntax.specs.Names.{Identifier, LiteralTree}
use Rattle.hm_syntax.specs.Trees.{TypeTree, Pattern, variable_pattern, bound_pattern, constructor_pattern, literal_pattern, wildcard_pattern, tuple_pattern, list_pattern, lazy_pattern, Expression, literal_expression, application, case_expression, Expressions, no_expressions, Declaration, signature, Declarations, RightSide, right_side, Bodies, Alternative, Alternatives, no_alternatives}
use Rattle.hm_syntax.specs.Lists.{patterns, expressions, declarations, alternatives, bodies}
use Rattle.hm_parse_grammar.specs.declared.symbol.Symbol.{Symbol}
use Rattle.hm_parse_grammar.specs.declared.symbol.Symbol.TheVariants.{Case, Else, If, In, Let, Of, Then, Colon, OfType, Equals, Backslash, Bar, Arrow, Open, OpenSquare, LeftBrace, RightBrace, Comma, Semicolon, Var, QVar, Integer, Character, Text}
use Rattle.hm_parse_grammar.specs.Symbols.{same}
use Rattle.hm_parse_grammar.specs.Tokens.{Terminal, name_of}
use Rattle.hm_parse_grammar.specs.Grammar.Types.{Type'}
use Rattle.hm_parse_grammar.specs.Grammar.Patterns.{Pat', Apat, Apats}
use Rattle.hm_parse_grammar.specs.Grammar.Expressions.{count_exprs, VarCommas, vars_none, vars_more, Exp, exp_open, exp_closed, exp_typed, ClosedExp, closed_one, closed_cons, OpenExp, open_lam, open_cons, Lam, lam_fun, lam_let, lam_if, Opd, opd_apply, opd_case, Args, args_none, args_more, Guard, guard_open, guard_closed, Guards, guards_none, guards_more, Rhs', rhs_plain, rhs_guards, MayWhere, no_where, some_where, Alt', alt', Alts, alts_none, alts_last, alts_empty, alts_more, Aexp, aexp_var, aexp_con, aexp_literal, aexp_paren, aexp_tuple, aexp_list, ExpCommas, exps_none, exps_more, Decls, decls, DeclItems, decls_none, decls_last, decls_empty, decls_more, Decl, decl_signature, decl_clause, decl_pattern, decl_variable}
use Rattle.hm_parse_grammar.specs.Reading.Basics.{◌>>=◌, peek, is_at, past_semicolons, loop, behind, closing}
use Rattle.hm_parse_grammar.specs.Reading.Constructors.{line_at, column_at, special_at, literal_at}
use Rattle.hm_parse_grammar.specs.Reading.Types.{type_at}
use Rattle.hm_parse_grammar.specs.Reading.Patterns.{apat_step, apats_with, all_patterns}
use Rattle.hm_parse_grammar.specs.Reading.Expressions.{tuple_of_expressions, list_of_expressions, cons_expression, applied, next_item_of, var_at, ExpressionReaders, typed, exp_with, aexp_by, aexp_step, next_aexp, args_from, guarded_in, next_guarded, bodies_with, where_with, rhs_with, alt_with, alts_with, case_with, opd_with, link, lambda_with, let_with, if_with, open_by, chain_step, signature_with, clause_with, begins_signature, named_with, binding_of, binding_with, decl_with, decls_step, expression_step, expression_readers, all_expressions}
use Rattle.hm_parse_grammar.proofs.Holds.{Holds, holds_none, holds_some, holds_if, same_true}
use Rattle.hm_parse_grammar.proofs.Rows.{Step}
use Rattle.hm_parse_grammar.proofs.CommaLaws.{CommaRules, Behind, behind_found, closing_found, list_found}
use Rattle.hm_parse_grammar.proofs.ItemLaws.{ItemRules, ItemsTo, items_past, item_found}
use Rattle.hm_parse_grammar.proofs.Semicolons.{past_short, past_stops}
use Rattle.hm_parse_grammar.proofs.ConstructorLaws.{gcon_found, gcon_short, literal_found, literal_short}
use Rattle.hm_parse_grammar.proofs.TypeLaws.{type_short, type_agree}
use Rattle.hm_parse_grammar.proofs.PatternLaws as pattern_laws
use Rattle.hm_parse_grammar.proofs.PatternLaws.{pat_short, apat_short, apats_short, patterns_agree}
use Rattle.hm_parse_grammar.proofs.Both.{Both, both_none, both_some, both_if, both_then, both_more, both_held, both_expect, both_loop}

-- ---- a spelling takes at least one token

pub vars_short : {ns : List Identifier} {ts rest : List Terminal} → VarCommas ns ts rest → length rest ≤ length ts
vars_short vars_none = omega arith
vars_short (vars_more q v ns) = omega (arith, vars_short ns)

mutual
  pub exp_short : {e : Expression} {ts rest : List Terminal} → Exp e ts rest → length rest < length ts
  exp_short (exp_open e) = open_short e
  exp_short (exp_closed e) = closed_short e
  exp_short (exp_typed e s t) = omega (arith, closed_short e, type_short t)

  pub closed_short : {e : Expression} {ts rest : List Terminal} → ClosedExp e ts rest → length rest < length ts
  closed_short (closed_one a) = opd_short a
  closed_short (closed_cons a s b) = omega (arith, opd_short a, closed_short b)

  pub open_short : {e : Expression} {ts rest : List Terminal} → OpenExp e ts rest → length rest < length ts
  open_short (open_lam e) = lam_short e
  open_short (open_cons a s b) = omega (arith, opd_short a, open_short b)

  pub lam_short : {e : Expression} {ts rest : List Terminal} → Lam e ts rest → length rest < length ts
  lam_short (lam_fun s p ps a e) = omega (arith, apat_short p, apats_short ps, exp_short e)
  lam_short (lam_let s ds i e) = omega (arith, decls_short ds, exp_short e)
  lam_short (lam_if i a t b s c) = omega (arith, exp_short a, exp_short b, exp_short c)

  pub opd_short : {e : Expression} {ts rest : List Terminal} → Opd e ts rest → length rest < length ts
  opd_short (opd_apply f as_) = omega (arith, aexp_short f, args_short as_)
  opd_short (opd_case c e o b as_ r) = omega (arith, exp_short e, alts_short as_)

  pub args_short : {f e : Expression} {ts rest : List Terminal} → Args f e ts rest → length rest ≤ length ts
  args_short args_none = omega arith
  args_short (args_more a as_) = omega (arith, aexp_short a, args_short as_)

  pub guard_short : {e : Expression} {ts rest : List Terminal} → Guard e ts rest → length rest < length ts
  guard_short (guard_open e) = open_short e
  guard_short (guard_closed e) = closed_short e

  pub guards_short : {s : Symbol} {gs : Bodies} {ts rest : List Terminal} → Guards s gs ts rest → length rest ≤ length ts
  guards_short guards_none = omega arith
  guards_short (guards_more b g m e gs) = omega (arith, guard_short g, exp_short e, guards_short gs)

  pub rhs_short : {s : Symbol} {r : RightSide} {ts rest : List Terminal} → Rhs' s r ts rest → length rest < length ts
  rhs_short (rhs_plain q e w) = omega (arith, exp_short e, where_short w)
  rhs_short (rhs_guards (guards_more b g m e gs) w) = omega (arith, guard_short g, exp_short e, guards_short gs, where_short w)

  pub where_short : {ds : Declarations} {ts rest : List Terminal} → MayWhere ds ts rest → length rest ≤ length ts
  where_short no_where = omega arith
  where_short (some_where w ds) = omega (arith, decls_short ds)

  pub alt_short : {a : Alternative} {ts rest : List Terminal} → Alt' a ts rest → length rest < length ts
  alt_short (alt' p r) = omega (arith, pat_short p, rhs_short r)

  pub alts_short : {as_ : Alternatives} {ts rest : List Terminal} → Alts as_ ts rest → length rest ≤ length ts
  alts_short alts_none = omega arith
  alts_short (alts_last a) = omega (arith, alt_short a)
  alts_short (alts_empty s as_) = omega (arith, alts_short as_)
  alts_short (alts_more a s as_) = omega (arith, alt_short a, alts_short as_)

  pub aexp_short : {e : Expression} {ts rest : List Terminal} → Aexp e ts rest → length rest < length ts
  aexp_short (aexp_var s) = omega arith
  aexp_short (aexp_con g) = gcon_short g
  aexp_short (aexp_literal l) = literal_short l
  aexp_short (aexp_paren o e c) = omega (arith, exp_short e)
  aexp_short (aexp_tuple o e es c n) = omega (arith, exp_short e, commas_short es)
  aexp_short (aexp_list o e es c) = omega (arith, exp_short e, commas_short es)

  pub commas_short : {es : Expressions} {ts rest : List Terminal} → ExpCommas es ts rest → length rest ≤ length ts
  commas_short exps_none = omega arith
  commas_short (exps_more s e es) = omega (arith, exp_short e, commas_short es)

  pub decls_short : {ds : Declarations} {ts rest : List Terminal} → Decls ds ts rest → length rest < length ts
  decls_short (decls o ds c) = omega (arith, items_short ds)

  pub items_short : {ds : Declarations} {ts rest : List Terminal} → DeclItems ds ts rest → length rest ≤ length ts
  items_short decls_none = omega arith
  items_short (decls_last d) = omega (arith, decl_short d)
  items_short (decls_empty s ds) = omega (arith, items_short ds)
  items_short (decls_more d s ds) = omega (arith, decl_short d, items_short ds)

  pub decl_short : {d : Declaration} {ts rest : List Terminal} → Decl d ts rest → length rest < length ts
  decl_short (decl_signature v ns o t) = omega (arith, vars_short ns, type_short t)
  decl_short (decl_clause v ps r) = omega (arith, apats_short ps, rhs_short r)
  decl_short (decl_pattern p v r) = omega (arith, pat_short p, rhs_short r)
  decl_short (decl_variable p r) = omega (arith, pat_short p, rhs_short r)

-- ---- found, and readers that agree on shorter lists agree on this one

abbrev pub IsChain : List Terminal → (Expression × Bool) × List Terminal → Type 0
IsChain ts ((e, true), rest) = OpenExp e ts rest
IsChain ts ((e, false), rest) = ClosedExp e ts rest

abbrev pub IsExp : List Terminal → Expression × List Terminal → Type 0
IsExp ts x = Exp x.0 ts x.1

abbrev pub IsAexp : List Terminal → Expression × List Terminal → Type 0
IsAexp ts x = Aexp x.0 ts x.1

abbrev pub AreDecls : List Terminal → List Declaration × List Terminal → Type 0
AreDecls ts x = Decls (declarations x.0) ts x.1

abbrev pub AreExpCommas : List Expression → List Terminal → List Terminal → Type 0
AreExpCommas xs ts rest = ExpCommas (expressions xs) ts rest

abbrev pub AreAlts : List Alternative → List Terminal → List Terminal → Type 0
AreAlts xs ts rest = Alts (alternatives xs) ts rest

abbrev pub AreDeclItems : List Declaration → List Terminal → List Terminal → Type 0
AreDeclItems xs ts rest = DeclItems (declarations xs) ts rest

-- what each thing before these may be applied to
abbrev pub AreArgs : List Expression → List Terminal → List Terminal → Type 0
AreArgs xs ts rest = (f : Expression) → Args f (applied f xs) ts rest

abbrev pub AreGuards : Symbol → List (Option Expression × Expression) → List Terminal → List Terminal → Type 0
AreGuards s xs ts rest = Guards s (bodies xs) ts rest

pub record Agree (n : ℕ) (r s : ExpressionReaders) : Type 0 where
  pub chain : (ts : List Terminal) → length ts < n → Both (IsChain ts) (r.chain ts) (s.chain ts)
  pub decls : (ts : List Terminal) → length ts < n → Both (AreDecls ts) (r.decls ts) (s.decls ts)

pub count_is : (xs : List Expression) → count_exprs (expressions xs) ≡ length xs
count_is [] = refl
count_is (x ∷ xs) = omega (arith, count_is xs)

no_more : {es : Expressions} {us vs : List Terminal} → ExpCommas es us vs → es ≡ no_expressions → us ≡ vs
no_more exps_none e = refl
no_more (exps_more q x es) e = cc

pub expression_commas : CommaRules Exp AreExpCommas
expression_commas = record {
  none = λ ts. exps_none;
  more = λ k x xs us vs rest q d ds. exps_more q d ds;
  short = λ x ts rest d. exp_short d;
  empty = λ ts us d. no_more d refl;
}

pub alt_items : ItemRules Alt' AreAlts
alt_items = record {
  none = λ ts. alts_none;
  last = λ x ts rest d. alts_last d;
  empty = λ k xs us rest q d. alts_empty q d;
  more = λ k x xs ts us rest d q ds. alts_more d q ds;
  short = λ x ts rest d. alt_short d;
}

pub decl_items : ItemRules Decl AreDeclItems
decl_items = record {
  none = λ ts. decls_none;
  last = λ x ts rest d. decls_last d;
  empty = λ k xs us rest q d. decls_empty q d;
  more = λ k x xs ts us rest d q ds. decls_more d q ds;
  short = λ x ts rest d. decl_short d;
}

-- ---- variables with commas between

abbrev pub IsVar : Identifier → List Terminal → List Terminal → Type 0
IsVar n ts rest = (k : Terminal) × (k.symbol ≡ Var) × (n ≡ name_of k) × (ts ≡ k ∷ rest)

pub var_found : (ts : List Terminal) → Holds (λ (x : Identifier × List Terminal). IsVar x.0 ts x.1) (var_at ts)
unfolding var_at
var_found [] = holds_none
var_found (k ∷ ts) = holds_if _ _ _ (λ q. holds_some (name_of k, ts) (k, same_true _ _ q, refl, refl)) (λ _. holds_none)

pub var_short : (n : Identifier) (ts rest : List Terminal) → IsVar n ts rest → length rest < length ts
var_short n ts rest (k, q, is, e) = omega (arith, ap length e)

vars_empty : {ns : List Identifier} {us vs : List Terminal} → VarCommas ns us vs → ns ≡ [] → us ≡ vs
vars_empty vars_none e = refl
vars_empty (vars_more q v ns) e = cc

pub var_commas : CommaRules IsVar (λ ns ts rest. VarCommas ns ts rest)
var_commas = record {
  none = λ ts. vars_none;
  more = λ k x xs us vs rest q d ds. another k x xs us vs rest q d ds;
  short = var_short;
  empty = λ ts us d. vars_empty d refl;
}
  where
    another : (k : Terminal) (x : Identifier) (xs : List Identifier) (us vs rest : List Terminal) → k.symbol ≡ Comma → IsVar x us vs → VarCommas xs vs rest → VarCommas (x ∷ xs) (k ∷ us) rest
    another k x xs us vs rest q (m, v, is, e) ds = subst (λ z. VarCommas (x ∷ xs) (k ∷ z) rest) (sym e) (subst (λ z. VarCommas (z ∷ xs) (k ∷ m ∷ vs) rest) (sym is) (vars_more q v ds))

-- a first thing, and a row of others behind it
pub both_behind : {A : Type 0} (C : List A → List Terminal → List Terminal → Type 0) (x : A) (us : List Terminal) (a b : Option (List A × List Terminal)) →
    Both (λ (y : List A × List Terminal). C y.0 us y.1) a b → Both (λ (y : List A × List Terminal). Behind C x us y.0 y.1) (behind (x ∷ []) a) (behind (x ∷ []) b)
both_behind C x us None b k = rw (← k.equal) both_none
both_behind C x us (Some y) b k = rw (← k.equal) (both_some (x ∷ y.0, y.1) (record { others = y.0; is = refl; row = k.holds y refl }))

type_read : (ts : List Terminal) → Both (λ (x : TypeTree × List Terminal). Type' x.0 ts x.1) (type_at ts) (type_at ts)
type_read ts = (type_agree (length ts + 1)).reads ts (omega arith)

pattern_read : (ts : List Terminal) → Both (λ (x : Pattern × List Terminal). Pat' x.0 ts x.1) (all_patterns.whole ts) (all_patterns.whole ts)
pattern_read ts = (patterns_agree (length ts + 1)).whole ts (omega arith)

apat_read : (ts : List Terminal) → Both (λ (x : Pattern × List Terminal). Apat x.0 ts x.1) (apat_step all_patterns ts) (apat_step all_patterns ts)
apat_read ts = pattern_laws.apat_found (length ts) all_patterns all_patterns (patterns_agree (length ts)) ts (omega arith)

apats_read : (ts : List Terminal) → Both (λ (x : List Pattern × List Terminal). Apats (patterns x.0) ts x.1) (apats_with all_patterns ts) (apats_with all_patterns ts)
apats_read ts = pattern_laws.apats_found (length ts) all_patterns all_patterns (patterns_agree (length ts)) ts (omega arith)

-- a pattern and a right side spell the binding
bound : (ts us rest : List Terminal) (p : Pattern) (b : RightSide) → Pat' p ts us → Rhs' Equals b us rest → Decl (binding_of (line_at ts) (column_at ts) p b) ts rest
bound [] us rest p b d db = absurd (omega (arith, pat_short d))
bound (k ∷ ts) us rest (variable_pattern n) b d db = decl_variable d db
bound (k ∷ ts) us rest (bound_pattern n p) b d db = decl_pattern d refl db
bound (k ∷ ts) us rest (constructor_pattern n ps) b d db = decl_pattern d refl db
bound (k ∷ ts) us rest (literal_pattern l) b d db = decl_pattern d refl db
bound (k ∷ ts) us rest wildcard_pattern b d db = decl_pattern d refl db
bound (k ∷ ts) us rest (tuple_pattern ps) b d db = decl_pattern d refl db
bound (k ∷ ts) us rest (list_pattern ps) b d db = decl_pattern d refl db
bound (k ∷ ts) us rest (lazy_pattern p) b d db = decl_pattern d refl db

guard_of : (ts : List Terminal) (g : Expression) (b : Bool) (us : List Terminal) → IsChain ts ((g, b), us) → Guard g ts us
guard_of ts g true us d = guard_open d
guard_of ts g false us d = guard_closed d

chain_short : (ts us : List Terminal) (e : Expression) (b : Bool) → IsChain ts ((e, b), us) → length us < length ts
chain_short ts us e true d = open_short d
chain_short ts us e false d = closed_short d

-- a guard, the mark behind it, and an expression
pub record IsGuarded (s : Symbol) (x : Option Expression × Expression) (ts rest : List Terminal) : Type 0 where
  pub guard : Expression
  pub mark : Terminal
  pub upto : List Terminal
  pub is : x ≡ (Some guard, x.1)
  pub first : Guard guard ts (mark ∷ upto)
  pub marked : mark.symbol ≡ s
  pub second : Exp x.1 upto rest

module _ (n : ℕ) (r s : ExpressionReaders) (g : Agree n r s) where
  pub exp_found : (ts : List Terminal) → length ts < n → Both (IsExp ts) (exp_with r ts) (exp_with s ts)
  unfolding exp_with
  exp_found ts h = both_then _ _ _ _ (g.chain ts h) (λ c dc. ends c.0.0 c.0.1 c.1 dc)
    where
      ends : (e : Expression) (b : Bool) (us : List Terminal) → IsChain ts ((e, b), us) → Both (IsExp ts) (typed e b us) (typed e b us)
      ends e true us d = both_some _ (exp_open d)
      ends e false [] d = both_some _ (exp_closed d)
      ends e false (k ∷ us) d =
          both_if _ _ _ _ _
          (λ q. both_then _ _ _ _ (type_read us) (λ (t : TypeTree × List Terminal) dt. both_some _ (exp_typed d (same_true _ _ q) dt)))
          (λ _. both_some _ (exp_closed d))

  in_parentheses : (k : Terminal) (e : Expression) (ts us : List Terminal) → k.symbol ≡ Open → Exp e ts us → length us < n + 1 →
      Both (IsAexp (k ∷ ts)) (closing (exp_with r) tuple_of_expressions e us) (closing (exp_with s) tuple_of_expressions e us)
  in_parentheses k e ts us o d h =
      closing_found expression_commas n (exp_with r) (exp_with s) exp_found tuple_of_expressions (IsAexp (k ∷ ts)) e us h
      (λ m ws eq c. aexp_paren o (subst (λ z. Exp e ts z) eq d) c)
      (λ y ys m ws ds c few. let count : count_exprs (expressions (e ∷ y ∷ ys)) ≤ 15 = rw (count_is (e ∷ y ∷ ys)) few in aexp_tuple o d ds c count)

  literals : (ts : List Terminal) → Both (IsAexp ts) (literal_at ts >>= λ (l : LiteralTree × List Terminal). Some (literal_expression l.0, l.1)) (literal_at ts >>= λ (l : LiteralTree × List Terminal). Some (literal_expression l.0, l.1))
  literals ts = both_then _ _ _ _ (both_held (literal_found ts)) (λ (l : LiteralTree × List Terminal) d. both_some _ (aexp_literal d))

  pub aexp_found : (ts : List Terminal) → length ts < n + 1 → Both (IsAexp ts) (aexp_step r ts) (aexp_step s ts)
  unfolding aexp_step
  aexp_found ts h =
      both_if _ _ _ _ _
      (λ _. both_then _ _ _ _ (both_held (gcon_found ts)) (λ (x : Identifier × List Terminal) d. both_some _ (aexp_con d)))
      (λ _. other ts h)
    where
      other : (ts : List Terminal) → length ts < n + 1 → Both (IsAexp ts) (aexp_by r (peek ts) ts) (aexp_by s (peek ts) ts)
      other [] l = both_none
      other (k ∷ us) l = by_symbol k.symbol refl
        where
          by_symbol : (y : Symbol) → k.symbol ≡ y → Both (IsAexp (k ∷ us)) (aexp_by r y (k ∷ us)) (aexp_by s y (k ∷ us))
          by_symbol Var e = both_some _ (aexp_var (inl e))
          by_symbol QVar e = both_some _ (aexp_var (inr e))
          by_symbol Integer e = literals (k ∷ us)
          by_symbol Character e = literals (k ∷ us)
          by_symbol Text e = literals (k ∷ us)
          by_symbol Open e = both_then _ _ _ _ (exp_found us (omega arith)) (λ (x : Expression × List Terminal) d. in_parentheses k x.0 us x.1 e d (omega (arith, exp_short d)))
          by_symbol OpenSquare e = list_found expression_commas n (exp_with r) (exp_with s) exp_found list_of_expressions (IsAexp (k ∷ us)) us (omega arith) (λ x xs vs m ws d ds c. aexp_list e d ds c)
          by_symbol _ e = both_none

  pub next_aexp_found : (ts : List Terminal) → length ts < n + 1 → Both (Step AreArgs ts) (next_aexp r ts) (next_aexp s ts)
  unfolding next_aexp
  next_aexp_found ts h =
      both_if _ _ _ _ _
      (λ q. both_then _ _ _ _ (aexp_found ts h) (λ (x : Expression × List Terminal) d.
      both_some (Some x.0, x.1) (aexp_short d, λ xs rest ds. λ f. args_more d (ds (application f x.0)))))
      (λ _. both_some (None, ts) (λ f. args_none))

  pub args_found : (f : Expression) (ts : List Terminal) → length ts < n + 1 → Both (λ (x : Expression × List Terminal). Args f x.0 ts x.1) (args_from r f ts) (args_from s f ts)
  unfolding args_from
  args_found f ts h = both_then _ _ _ _ (both_loop AreArgs (n + 1) (next_aexp r) (next_aexp s) next_aexp_found ts h) (λ (xs : List Expression × List Terminal) d. both_some _ (d f))

  -- ---- right sides

  guarded_found : (y : Symbol) (ts : List Terminal) → length ts < n →
      Both (λ (x : (Option Expression × Expression) × List Terminal). IsGuarded y x.0 ts x.1) (guarded_in r y ts) (guarded_in s y ts)
  unfolding guarded_in
  guarded_found y ts h =
      both_then _ _ _ _ (g.chain ts h) (λ (c : (Expression × Bool) × List Terminal) dc.
      both_expect y c.1 _ _ (λ m us eq q.
      both_then _ _ _ _ (exp_found us (omega (arith, chain_short ts c.1 c.0.0 c.0.1 dc, ap length eq))) (λ (e : Expression × List Terminal) de.
      both_some ((Some c.0.0, e.0), e.1) (record {
        guard = c.0.0;
        mark = m;
        upto = us;
        is = refl;
        first = subst (λ z. Guard c.0.0 ts z) eq (guard_of ts c.0.0 c.0.1 c.1 dc);
        marked = q;
        second = de;
      }))))

  guarded_short : (y : Symbol) (x : Option Expression × Expression) (ts rest : List Terminal) → IsGuarded y x ts rest → length rest < length ts
  guarded_short y x ts rest d = omega (arith, guard_short d.first, exp_short d.second)

  guarded_more : (y : Symbol) (k : Terminal) (x : Option Expression × Expression) (xs : List (Option Expression × Expression)) (ts us rest : List Terminal) → k.symbol ≡ Bar → IsGuarded y x ts us →
      AreGuards y xs us rest → Guards y (bodies (x ∷ xs)) (k ∷ ts) rest
  guarded_more y k x xs ts us rest q d ds = subst (λ z. Guards y (bodies (z ∷ xs)) (k ∷ ts) rest) (sym d.is) (guards_more q d.first d.marked d.second ds)

  pub next_guarded_found : (y : Symbol) (ts : List Terminal) → length ts < n + 1 → Both (Step (AreGuards y) ts) (next_guarded r y ts) (next_guarded s y ts)
  unfolding next_guarded
  next_guarded_found y [] h = both_some (None, []) guards_none
  next_guarded_found y (k ∷ ts) h =
      both_if _ _ _ _ _
      (λ q. both_then _ _ _ _ (guarded_found y ts (omega arith)) (λ (x : (Option Expression × Expression) × List Terminal) d.
      both_some (Some x.0, x.1) (omega (arith, guarded_short y x.0 ts x.1 d), λ xs rest ds. guarded_more y k x.0 xs ts x.1 rest (same_true _ _ q) d ds)))
      (λ _. both_some (None, k ∷ ts) guards_none)

  where_found : (ts : List Terminal) → length ts < n + 1 → Both (λ (x : List Declaration × List Terminal). MayWhere (declarations x.0) ts x.1) (where_with r ts) (where_with s ts)
  unfolding where_with
  where_found [] h = both_some _ no_where
  where_found (k ∷ ts) h =
      both_if _ _ _ _ _
      (λ q. both_more (g.decls ts (omega arith)) (λ x d. some_where (same_true _ _ q) d))
      (λ _. both_some _ no_where)

  -- bodies, and what a right side needs of them
  abbrev pub AreBodies : Symbol → List Terminal → List (Option Expression × Expression) × List Terminal → Type 0
  AreBodies y ts x = (length x.1 < length ts) × ((ds : Declarations) (rest : List Terminal) → MayWhere ds x.1 rest → Rhs' y (right_side (bodies x.0) ds) ts rest)

  guards_rhs : (y : Symbol) (k : Terminal) (ts : List Terminal) (x : Option Expression × Expression) (us : List Terminal) → k.symbol ≡ Bar → IsGuarded y x ts us → (xs : List (Option Expression × Expression)) (rest : List Terminal) →
      Behind (AreGuards y) x us xs rest → AreBodies y (k ∷ ts) (xs, rest)
  guards_rhs y k ts x us q d xs rest b =
      subst (λ z. AreBodies y (k ∷ ts) (z, rest)) (sym b.is)
      (subst (λ z. AreBodies y (k ∷ ts) (z ∷ b.others, rest)) (sym d.is)
      (omega (arith, guarded_short y x ts us d, guards_short b.row), λ ds vs w. rhs_guards (guards_more q d.first d.marked d.second b.row) w))

  pub bodies_found : (y : Symbol) → is_at y [] ≡ false → (ts : List Terminal) → length ts < n + 1 → Both (AreBodies y ts) (bodies_with r y ts) (bodies_with s y ts)
  unfolding bodies_with
  bodies_found y z [] h = both_if _ _ _ _ _ (λ q. let clash : true ≡ false = sym q ∙ z in cc) (λ _. both_none)
  bodies_found y z (k ∷ ts) h =
      both_if _ _ _ _ _
      (λ q. both_then _ _ _ _ (exp_found ts (omega arith)) (λ (e : Expression × List Terminal) d.
      both_some ((None, e.0) ∷ [], e.1) (omega (arith, exp_short d), λ ds rest w. rhs_plain (same_true _ _ q) d w)))
      (λ _. both_if _ _ _ _ _
      (λ q. both_then _ _ _ _ (guarded_found y ts (omega arith)) (λ (x : (Option Expression × Expression) × List Terminal) d.
      both_more (both_behind (AreGuards y) x.0 x.1 (loop (next_guarded r y) x.1) (loop (next_guarded s y) x.1)
      (both_loop (AreGuards y) (n + 1) (next_guarded r y) (next_guarded s y) (next_guarded_found y) x.1 (omega (arith, guarded_short y x.0 ts x.1 d))))
      (λ (w : List (Option Expression × Expression) × List Terminal) b. guards_rhs y k ts x.0 x.1 (same_true _ _ q) d w.0 w.1 b)))
      (λ _. both_none))

  pub rhs_found : (y : Symbol) → is_at y [] ≡ false → (ts : List Terminal) → length ts < n + 1 → Both (λ (x : RightSide × List Terminal). Rhs' y x.0 ts x.1) (rhs_with r y ts) (rhs_with s y ts)
  unfolding rhs_with
  rhs_found y z ts h =
      both_then _ _ _ _ (bodies_found y z ts h) (λ (bs : List (Option Expression × Expression) × List Terminal) b.
      both_then _ _ _ _ (where_found bs.1 (omega (arith, b.0))) (λ (ds : List Declaration × List Terminal) w.
      both_some (right_side (bodies bs.0) (declarations ds.0), ds.1) (b.1 (declarations ds.0) ds.1 w)))

  -- ---- alternatives

  pub alt_found : (ts : List Terminal) → length ts < n → Both (λ (x : Alternative × List Terminal). Alt' x.0 ts x.1) (alt_with r ts) (alt_with s ts)
  unfolding alt_with
  alt_found ts h =
      both_then _ _ _ _ (pattern_read ts) (λ (p : Pattern × List Terminal) d.
      both_then _ _ _ _ (rhs_found Arrow refl p.1 (omega (arith, pat_short d))) (λ (b : RightSide × List Terminal) db. both_some _ (alt' d db)))

  -- one alternative or more, through the brace
  abbrev AreSomeAlts : List Terminal → List Alternative × List Terminal → Type 0
  AreSomeAlts ts x = (m : Terminal) × (m.symbol ≡ RightBrace) × AreAlts x.0 ts (m ∷ x.1) × ((a : Alternative) × ((rest : List Alternative) × (x.0 ≡ a ∷ rest)))

  alts_found : (ts : List Terminal) → length ts < n → Both (AreSomeAlts ts) (alts_with r ts) (alts_with s ts)
  unfolding alts_with
  alts_found ts h =
      both_if _ _ _ _ _
      (λ _. both_none)
      (λ other. both_more (both_loop (ItemsTo AreAlts) n (next_item_of (alt_with r)) (next_item_of (alt_with s)) (λ us l. item_found alt_items n (alt_with r) (alt_with s) alt_found us l) (past_semicolons ts) (omega (arith, past_short ts)))
      (λ (x : List Alternative × List Terminal) d. some x.0 x.1 other d))
    where
      none_of : {as_ : Alternatives} {us : List Terminal} {m : Terminal} {vs : List Terminal} → Alts as_ us (m ∷ vs) → as_ ≡ no_alternatives → m.symbol ≡ RightBrace → is_at RightBrace us ≡ false → is_at Semicolon us ≡ false → ⊥
      none_of alts_none e q a b = let z : true ≡ false = sym (ap (λ z. same z RightBrace) q) ∙ a in cc
      none_of (alts_last a') e q a b = cc
      none_of (alts_empty s as_) e q a b = let z : true ≡ false = sym (ap (λ z. same z Semicolon) s) ∙ b in cc
      none_of (alts_more a' s as_) e q a b = cc

      some : (xs : List Alternative) (rest : List Terminal) → is_at RightBrace (past_semicolons ts) ≡ false → ItemsTo AreAlts xs (past_semicolons ts) rest → AreSomeAlts ts (xs, rest)
      some [] rest other d = absurd (none_of d.items refl d.close other (past_stops ts))
      some (a ∷ xs) rest other d = (d.mark, d.close, items_past alt_items (a ∷ xs) ts (d.mark ∷ rest) d.items, (a, (xs, refl)))

  -- ---- operands

  case_found : (k : Terminal) (ts : List Terminal) → k.symbol ≡ Case → length ts < n → Both (λ (x : Expression × List Terminal). Opd x.0 (k ∷ ts) x.1) (case_with r ts) (case_with s ts)
  unfolding case_with
  case_found k ts q h =
      both_then _ _ _ _ (exp_found ts h) (λ (e : Expression × List Terminal) d.
      both_expect Of e.1 _ _ (λ m us eq o.
      both_expect LeftBrace us _ _ (λ b vs eq' l.
      both_then _ _ _ _ (alts_found vs (omega (arith, exp_short d, ap length eq, ap length eq'))) (λ (x : List Alternative × List Terminal) a.
      both_some (case_expression e.0 (alternatives x.0), x.1)
      (spelled e.0 (subst (λ z. Exp e.0 ts z) (eq ∙ ap (λ z. m ∷ z) eq') d) o l x.0 x.1 a)))))
    where
      spelled : {m b : Terminal} {vs : List Terminal} (e : Expression) → Exp e ts (m ∷ b ∷ vs) → m.symbol ≡ Of → b.symbol ≡ LeftBrace → (xs : List Alternative) (rest : List Terminal) → AreSomeAlts vs (xs, rest) →
          Opd (case_expression e (alternatives xs)) (k ∷ ts) rest
      spelled {vs = vs} e d o l xs rest (c, close, items, (a, (others, is))) =
          subst (λ z. Opd (case_expression e (alternatives z)) (k ∷ ts) rest) (sym is) (opd_case q d o l (subst (λ z. AreAlts z vs (c ∷ rest)) is items) close)

  pub opd_found : (ts : List Terminal) → length ts < n + 1 → Both (λ (x : Expression × List Terminal). Opd x.0 ts x.1) (opd_with r ts) (opd_with s ts)
  unfolding opd_with
  opd_found [] h = both_then _ _ _ _ (aexp_found [] h) (λ f d. absurd (omega (arith, aexp_short d)))
  opd_found (k ∷ ts) h =
      both_if _ _ _ _ _
      (λ q. case_found k ts (same_true _ _ q) (omega arith))
      (λ _. both_then _ _ _ _ (aexp_found (k ∷ ts) h) (λ (f : Expression × List Terminal) d.
      both_more (args_found f.0 f.1 (omega (arith, aexp_short d))) (λ (x : Expression × List Terminal) dx. opd_apply d dx)))

  link_found : (a : Expression) (ts us : List Terminal) → Opd a ts us → length us < n + 1 → Both (IsChain ts) (link r a us) (link s a us)
  unfolding link
  link_found a ts [] d h = both_some _ (closed_one d)
  link_found a ts (k ∷ us) d h =
      both_if _ _ _ _ _
      (λ q. both_then _ _ _ _ (g.chain us (omega arith)) (λ (b : (Expression × Bool) × List Terminal) db. more b.0.0 b.0.1 b.1 (same_true _ _ q) db))
      (λ _. both_some _ (closed_one d))
    where
      more : (b : Expression) (o : Bool) (vs : List Terminal) → k.symbol ≡ Colon → IsChain us ((b, o), vs) →
          Both (IsChain ts) (Some ((cons_expression (special_at (codes ":") (k ∷ us)) a b, o), vs)) (Some ((cons_expression (special_at (codes ":") (k ∷ us)) a b, o), vs))
      more b true vs c db = both_some _ (open_cons d c db)
      more b false vs c db = both_some _ (closed_cons d c db)

  -- ---- what extends as far right as it can

  lambda_found : (k : Terminal) (ts : List Terminal) → k.symbol ≡ Backslash → length ts < n → Both (λ (x : Expression × List Terminal). Lam x.0 (k ∷ ts) x.1) (lambda_with r ts) (lambda_with s ts)
  unfolding lambda_with
  lambda_found k ts q h =
      both_then _ _ _ _ (apat_read ts) (λ (p : Pattern × List Terminal) dp.
      both_then _ _ _ _ (apats_read p.1) (λ (ps : List Pattern × List Terminal) dps.
      both_expect Arrow ps.1 _ _ (λ m us eq a.
      both_then _ _ _ _ (exp_found us (omega (arith, apat_short dp, apats_short dps, ap length eq))) (λ e de.
      both_some _ (lam_fun q dp (subst (λ z. Apats (patterns ps.0) p.1 z) eq dps) a de)))))

  let_found : (k : Terminal) (ts : List Terminal) → k.symbol ≡ Let → length ts < n → Both (λ (x : Expression × List Terminal). Lam x.0 (k ∷ ts) x.1) (let_with r ts) (let_with s ts)
  unfolding let_with
  let_found k ts q h =
      both_then _ _ _ _ (g.decls ts h) (λ (ds : List Declaration × List Terminal) dds.
      both_expect In ds.1 _ _ (λ m us eq i.
      both_then _ _ _ _ (exp_found us (omega (arith, decls_short dds, ap length eq))) (λ e de.
      both_some _ (lam_let q (subst (λ z. Decls (declarations ds.0) ts z) eq dds) i de))))

  if_found : (k : Terminal) (ts : List Terminal) → k.symbol ≡ If → length ts < n → Both (λ (x : Expression × List Terminal). Lam x.0 (k ∷ ts) x.1) (if_with r ts) (if_with s ts)
  unfolding if_with
  if_found k ts q h =
      both_then _ _ _ _ (exp_found ts h) (λ (a : Expression × List Terminal) da.
      both_expect Then a.1 _ _ (λ m us eq t.
      both_then _ _ _ _ (exp_found us (omega (arith, exp_short da, ap length eq))) (λ (b : Expression × List Terminal) db.
      both_expect Else b.1 _ _ (λ o vs eq' l.
      both_then _ _ _ _ (exp_found vs (omega (arith, exp_short da, exp_short db, ap length eq, ap length eq'))) (λ c dc.
      both_some _ (lam_if q (subst (λ z. Exp a.0 ts z) eq da) t (subst (λ z. Exp b.0 us z) eq' db) l dc))))))

  chain_found : (ts : List Terminal) → length ts < n + 1 → Both (IsChain ts) (chain_step r ts) (chain_step s ts)
  unfolding chain_step
  chain_found [] h = both_then _ _ _ _ (opd_found [] h) (λ a d. absurd (omega (arith, opd_short d)))
  chain_found (k ∷ ts) h =
      both_if _ _ _ _ _
      (λ _. both_then _ _ _ _ (by_symbol k.symbol refl) (λ (e : Expression × List Terminal) d. opened e.0 e.1 d))
      (λ _. both_then _ _ _ _ (opd_found (k ∷ ts) h) (λ (a : Expression × List Terminal) d. link_found a.0 (k ∷ ts) a.1 d (omega (arith, opd_short d))))
    where
      opened : (e : Expression) (us : List Terminal) → Lam e (k ∷ ts) us → Both (IsChain (k ∷ ts)) (Some ((e, true), us)) (Some ((e, true), us))
      opened e us d = both_some ((e, true), us) (open_lam d)

      by_symbol : (y : Symbol) → k.symbol ≡ y → Both (λ (x : Expression × List Terminal). Lam x.0 (k ∷ ts) x.1) (open_by r y (k ∷ ts)) (open_by s y (k ∷ ts))
      by_symbol Backslash q = lambda_found k ts q (omega arith)
      by_symbol Let q = let_found k ts q (omega arith)
      by_symbol If q = if_found k ts q (omega arith)
      by_symbol _ q = both_none

  -- ---- declarations

  signature_found : (k : Terminal) (ts : List Terminal) → k.symbol ≡ Var → Both (λ (x : Declaration × List Terminal). Decl x.0 (k ∷ ts) x.1) (signature_with r (name_of k) ts) (signature_with s (name_of k) ts)
  unfolding signature_with
  signature_found k ts q =
      both_then _ _ _ _ (behind_found var_commas (length ts) var_at var_at (λ us l. both_held (var_found us)) (name_of k) ts (omega arith)) (λ (ns : List Identifier × List Terminal) b.
      both_expect OfType ns.1 _ _ (λ m us eq o.
      both_then _ _ _ _ (type_read us) (λ (t : TypeTree × List Terminal) dt.
      both_some (signature ns.0 t.0, t.1)
      (subst (λ z. Decl (signature z t.0) (k ∷ ts) t.1) (sym b.is) (decl_signature q (subst (λ z. VarCommas b.others ts z) eq b.row) o dt)))))

  clause_found : (k : Terminal) (ts : List Terminal) → k.symbol ≡ Var → length ts < n → Both (λ (x : Declaration × List Terminal). Decl x.0 (k ∷ ts) x.1) (clause_with r (name_of k) ts) (clause_with s (name_of k) ts)
  unfolding clause_with
  clause_found k ts q h =
      both_then _ _ _ _ (apats_read ts) (λ (ps : List Pattern × List Terminal) dps.
      both_then _ _ _ _ (rhs_found Equals refl ps.1 (omega (arith, apats_short dps))) (λ b db.
      both_some _ (decl_clause q dps db)))

  named_found : (ts : List Terminal) → length ts < n + 1 → Both (λ (x : Declaration × List Terminal). Decl x.0 ts x.1) (named_with r ts) (named_with s ts)
  unfolding named_with var_at
  named_found [] h = both_none
  named_found (k ∷ ts) h = variable (is_at Var (k ∷ ts)) refl
    where
      rest : k.symbol ≡ Var → Both (λ (x : Declaration × List Terminal). Decl x.0 (k ∷ ts) x.1)
          (cond (begins_signature (peek ts)) (signature_with r (name_of k) ts) (clause_with r (name_of k) ts))
          (cond (begins_signature (peek ts)) (signature_with s (name_of k) ts) (clause_with s (name_of k) ts))
      rest q = both_if _ _ _ _ _ (λ _. signature_found k ts q) (λ _. clause_found k ts q (omega arith))

      variable : (b : Bool) → is_at Var (k ∷ ts) ≡ b → Both (λ (x : Declaration × List Terminal). Decl x.0 (k ∷ ts) x.1)
          (cond b (Some (name_of k, ts)) None >>= λ (x : Identifier × List Terminal). cond (begins_signature (peek x.1)) (signature_with r x.0 x.1) (clause_with r x.0 x.1))
          (cond b (Some (name_of k, ts)) None >>= λ (x : Identifier × List Terminal). cond (begins_signature (peek x.1)) (signature_with s x.0 x.1) (clause_with s x.0 x.1))
      variable true q = rest (same_true _ _ q)
      variable false q = both_none

  binding_found : (ts : List Terminal) → length ts < n + 1 → Both (λ (x : Declaration × List Terminal). Decl x.0 ts x.1) (binding_with r ts) (binding_with s ts)
  unfolding binding_with
  binding_found ts h =
      both_then _ _ _ _ (pattern_read ts) (λ (p : Pattern × List Terminal) d.
      both_then _ _ _ _ (rhs_found Equals refl p.1 (omega (arith, pat_short d))) (λ (b : RightSide × List Terminal) db.
      both_some (binding_of (line_at ts) (column_at ts) p.0 b.0, b.1) (bound ts p.1 b.1 p.0 b.0 d db)))

  pub decl_found : (ts : List Terminal) → length ts < n + 1 → Both (λ (x : Declaration × List Terminal). Decl x.0 ts x.1) (decl_with r ts) (decl_with s ts)
  unfolding decl_with
  decl_found ts h = both_if _ _ _ _ _ (λ _. binding_found ts h) (λ _. named_found ts h)

  decls_found : (ts : List Terminal) → length ts < n + 1 → Both (AreDecls ts) (decls_step r ts) (decls_step s ts)
  unfolding decls_step
  decls_found ts h =
      both_expect LeftBrace ts _ _ (λ k us eq o.
      both_more (both_loop (ItemsTo AreDeclItems) n (next_item_of (decl_with r)) (next_item_of (decl_with s)) (λ vs l. item_found decl_items n (decl_with r) (decl_with s) (λ ws m. decl_found ws (omega arith)) vs l) us (omega (arith, ap length eq)))
      (λ (x : List Declaration × List Terminal) d. subst (λ z. Decls (declarations x.0) z x.1) (sym eq) (decls o d.items d.close)))

  step_agree : Agree (suc n) (expression_step r) (expression_step s)
  step_agree = record { chain = λ ts h. chain_found ts (omega arith); decls = λ ts h. decls_found ts (omega arith) }

for_agree : (n j k : ℕ) → n ≤ j → n ≤ k → Agree n (expression_readers j) (expression_readers k)
for_agree zero j k p q = record { chain = λ ts h. absurd (omega arith); decls = λ ts h. absurd (omega arith) }
for_agree (suc n) zero k p q = absurd (omega arith)
for_agree (suc n) (suc j) zero p q = absurd (omega arith)
for_agree (suc n) (suc j) (suc k) p q = step_agree n (expression_readers j) (expression_readers k) (for_agree n j k (omega arith) (omega arith))

-- enough calls for this list are enough for each
all_agree : (n : ℕ) → Agree n (expression_readers n) all_expressions
unfolding all_expressions
all_agree n = record { chain = λ ts h. (enough ts h).chain ts (omega arith); decls = λ ts h. (enough ts h).decls ts (omega arith) }
  where
    enough : (ts : List Terminal) → length ts < n → Agree (suc (length ts)) (expression_readers n) (expression_readers (suc (length ts)))
    enough ts h = for_agree (suc (length ts)) n (suc (length ts)) (omega arith) (omega arith)

-- the readers are one step of themselves, and what they find is spelled so
all_is : (n : ℕ) → Agree n all_expressions (expression_step all_expressions)
unfolding all_expressions
all_is n = record { chain = λ ts h. (here ts).chain ts (omega arith); decls = λ ts h. (here ts).decls ts (omega arith) }
  where
    here : (ts : List Terminal) → Agree (suc (length ts)) (expression_step (expression_readers (length ts))) (expression_step all_expressions)
    here ts = step_agree (length ts) (expression_readers (length ts)) all_expressions (all_agree (length ts))

pub chain_is : (ts : List Terminal) → all_expressions.chain ts ≡ chain_step all_expressions ts
chain_is ts = ((all_is (suc (length ts))).chain ts (omega arith)).equal

pub decls_is : (ts : List Terminal) → all_expressions.decls ts ≡ decls_step all_expressions ts
decls_is ts = ((all_is (suc (length ts))).decls ts (omega arith)).equal

pub expressions_agree : (n : ℕ) → Agree n all_expressions all_expressions
expressions_agree n = record {
  chain = λ ts h. record { equal = refl; holds = ((all_is n).chain ts h).holds };
  decls = λ ts h. record { equal = refl; holds = ((all_is n).decls ts h).holds };
}
