-- What is spelled as an expression or a declaration is read, where nothing follows that goes on with it.
use Rattle.std.proofs.Common.{◌≡◌, ◌⊎◌, inl, inr, ℕ, ◌≤◌, suc, List, [], ◌∷◌, length, Bool, true, false, Option, Some, None, refl, sym, ap, ◌∙◌, arith}
use Rattle.hm_syntax.specs.Names.{Identifier, LiteralTree}
use Rattle.hm_syntax.specs.Trees.{TypeTree, Pattern, variable_pattern, bound_pattern, constructor_pattern, literal_pattern, wildcard_pattern, tuple_pattern, list_pattern, lazy_pattern, Patterns, no_patterns, more_patterns, Expression, constructor_expression, literal_expression, if_expression, application, typed_expression, lambda, let_expression, case_expression, tuple_expression, list_expression, Expressions, no_expressions, more_expressions, Declaration, signature, clause, pattern_binding, Declarations, no_declarations, more_declarations, RightSide, right_side, Bodies, no_bodies, plain_body, guarded_body, Alternative, alternative, Alternatives, no_alternatives, more_alternatives}
use Rattle.hm_syntax.specs.Lists.{patterns, expressions, declarations, alternatives, bodies}
use Rattle.hm_parse_grammar.specs.declared.symbol.Symbol.{Symbol}
use Rattle.hm_parse_grammar.specs.declared.symbol.Symbol.TheVariants.{Case, Else, If, In, Let, Of, Then, Where, Colon, OfType, Equals, At, Tilde, Wild, Backslash, Bar, Arrow, Open, Close, OpenSquare, CloseSquare, LeftBrace, RightBrace, Comma, Semicolon, Var, Con, QVar, QCon, Integer, Character, Text}
use Rattle.hm_parse_grammar.specs.Symbols.{same}
use Rattle.hm_parse_grammar.specs.Tokens.{Terminal, name_of}
use Rattle.hm_parse_grammar.specs.Grammar.Patterns.{is_variable, Pat', pat_one, pat_cons, Lpat, lpat_one, lpat_apply, Apat, apat_var, apat_bound, apat_con, apat_literal, apat_wild, apat_paren, apat_tuple, apat_list, apat_lazy, Apats, apats_none, apats_more, Gcon, gcon_qcon, gcon_unit, gcon_nil, gcon_tuple, gcon_cons, Literal', literal_integer, literal_character, literal_string}
use Rattle.hm_parse_grammar.specs.Grammar.Expressions.{cons, count_exprs, VarCommas, vars_none, vars_more, Exp, exp_open, exp_closed, exp_typed, ClosedExp, closed_one, closed_cons, OpenExp, open_lam, open_cons, Lam, lam_fun, lam_let, lam_if, Opd, opd_apply, opd_case, Args, args_none, args_more, Guard, guard_open, guard_closed, Guards, guards_none, guards_more, Rhs', rhs_plain, rhs_guards, MayWhere, no_where, some_where, Alt', alt', Alts, alts_none, alts_last, alts_empty, alts_more, Aexp, aexp_var, aexp_con, aexp_literal, aexp_paren, aexp_tuple, aexp_list, ExpCommas, exps_none, exps_more, Decls, decls, DeclItems, decls_none, decls_last, decls_empty, decls_more, Decl, decl_signature, decl_clause, decl_pattern, decl_variable}
use Rattle.hm_parse_grammar.specs.Reading.Basics.{◌>>=◌, peek, is_at, tail, past_semicolons, loop, next_of}
use Rattle.hm_parse_grammar.specs.Reading.Constructors.{line_at, column_at, is_mark, begin_gcon, begins_gcon, gcon_at}
use Rattle.hm_parse_grammar.specs.Reading.Types.{begins_atype, type_at}
use Rattle.hm_parse_grammar.specs.Reading.Patterns.{begins_apat, apat_step, next_apat, apats_with, all_patterns}
use Rattle.hm_parse_grammar.specs.Reading.Expressions.{begins_aexp, tuple_of_expressions, list_of_expressions, applied, next_item_of, var_at, exp_with, aexp_by, aexp_step, next_aexp, args_from, guarded_in, next_guarded, bodies_with, where_with, rhs_with, alt_with, alts_with, case_with, opd_with, link, lambda_with, let_with, if_with, open_by, begins_open, begins_signature, continues_pattern, begin_binding, begins_binding, binding_of, chain_step, signature_with, clause_with, named_with, binding_with, decl_with, decls_step, all_expressions}
use Rattle.hm_parse_grammar.proofs.Lists.{ends_item}
use Rattle.hm_parse_grammar.proofs.Both.{both_held}
use Rattle.hm_parse_grammar.proofs.Rows.{Steps, loop_stops, loop_takes}
use Rattle.hm_parse_grammar.proofs.Semicolons.{past_go, past_stay}
use Rattle.hm_parse_grammar.proofs.CommaLaws.{next_found, closes_one, closes_row, lists_row, row_stops, row_takes}
use Rattle.hm_parse_grammar.proofs.ItemLaws.{ItemsTo, item_found, loop_past, loop_go, loop_end, loop_last, loop_more}
use Rattle.hm_parse_grammar.proofs.ConstructorLaws.{gcon_begins, gcon_only, literal_only}
use Rattle.hm_parse_grammar.proofs.OnlyTypes.{only_type}
use Rattle.hm_parse_grammar.proofs.OnlyPatterns.{apats_at, pattern_list, patterns_list, apat_begins, pat_begins, only_pat, only_apat, only_apats}
use Rattle.hm_parse_grammar.proofs.ExpressionLaws.{AreExpCommas, AreArgs, AreGuards, AreAlts, AreDeclItems, expression_commas, alt_items, decl_items, var_commas, var_found, exp_found, next_aexp_found, next_guarded_found, alt_found, decl_found, chain_is, decls_is, expressions_agree, count_is}

abbrev pub expression_list : Expressions → List Expression
expression_list no_expressions = []
expression_list (more_expressions x xs) = x ∷ expression_list xs

pub expressions_list : (xs : Expressions) → expressions (expression_list xs) ≡ xs
expressions_list no_expressions = refl
expressions_list (more_expressions x xs) = ap (more_expressions x) (expressions_list xs)

abbrev pub declaration_list : Declarations → List Declaration
declaration_list no_declarations = []
declaration_list (more_declarations x xs) = x ∷ declaration_list xs

pub declarations_list : (xs : Declarations) → declarations (declaration_list xs) ≡ xs
declarations_list no_declarations = refl
declarations_list (more_declarations x xs) = ap (more_declarations x) (declarations_list xs)

abbrev pub alternative_list : Alternatives → List Alternative
alternative_list no_alternatives = []
alternative_list (more_alternatives x xs) = x ∷ alternative_list xs

pub alternatives_list : (xs : Alternatives) → alternatives (alternative_list xs) ≡ xs
alternatives_list no_alternatives = refl
alternatives_list (more_alternatives x xs) = ap (more_alternatives x) (alternatives_list xs)

abbrev pub body_list : Bodies → List (Option Expression × Expression)
body_list no_bodies = []
body_list (plain_body e gs) = (None, e) ∷ body_list gs
body_list (guarded_body g e gs) = (Some g, e) ∷ body_list gs

pub bodies_list : (gs : Bodies) → bodies (body_list gs) ≡ gs
bodies_list no_bodies = refl
bodies_list (plain_body e gs) = ap (plain_body e) (bodies_list gs)
bodies_list (guarded_body g e gs) = ap (guarded_body g e) (bodies_list gs)

-- ---- what may follow

abbrev pub ends_closed : Symbol → Bool
ends_closed Var = false
ends_closed QVar = false
ends_closed Con = false
ends_closed QCon = false
ends_closed Integer = false
ends_closed Character = false
ends_closed Text = false
ends_closed Open = false
ends_closed OpenSquare = false
ends_closed Colon = false
ends_closed _ = true

abbrev pub ends_exp : Symbol → Bool
ends_exp OfType = false
ends_exp s = ends_closed s

closed_ends : (s : Symbol) → ends_exp s ≡ true → ends_closed s ≡ true
closed_ends OfType h = refl
closed_ends _ h = h

no_aexp : (s : Symbol) → ends_closed s ≡ true → begins_aexp s ≡ false
no_aexp Var h = sym h
no_aexp QVar h = sym h
no_aexp Con h = sym h
no_aexp QCon h = sym h
no_aexp Integer h = sym h
no_aexp Character h = sym h
no_aexp Text h = sym h
no_aexp Open h = sym h
no_aexp OpenSquare h = sym h
no_aexp _ h = refl

no_colon : (s : Symbol) → ends_closed s ≡ true → same s Colon ≡ false
no_colon Colon h = sym h
no_colon _ h = refl

no_type : (s : Symbol) → ends_exp s ≡ true → same s OfType ≡ false
no_type OfType h = sym h
no_type _ h = refl

no_atype : (s : Symbol) → ends_exp s ≡ true → begins_atype s ≡ false
no_atype Var h = sym h
no_atype Con h = sym h
no_atype QCon h = sym h
no_atype Open h = sym h
no_atype OpenSquare h = sym h
no_atype _ h = refl

item_ends : (s : Symbol) → ends_item s ≡ true → ends_exp s ≡ true
item_ends Comma h = refl
item_ends Close h = refl
item_ends Semicolon h = refl
item_ends RightBrace h = refl
item_ends _ h = cc

item_where : (s : Symbol) → ends_item s ≡ true → same s Where ≡ false
item_where Where h = sym h
item_where _ h = refl

item_bar : (s : Symbol) → ends_item s ≡ true → same s Bar ≡ false
item_bar Bar h = sym h
item_bar _ h = refl

-- what a mark before a right side has to obey
pub record IsMark (s : Symbol) : Type 0 where
  pub self : same s s ≡ true
  pub bar : same Bar s ≡ false
  pub ends : ends_exp s ≡ true
  pub apat : begins_apat s ≡ false
  pub at : same s At ≡ false
  pub colon : same s Colon ≡ false

equals_mark : IsMark Equals
equals_mark = record { self = refl; bar = refl; ends = refl; apat = refl; at = refl; colon = refl }

arrow_mark : IsMark Arrow
arrow_mark = record { self = refl; bar = refl; ends = refl; apat = refl; at = refl; colon = refl }

-- ---- what an expression begins with

abbrev begins_exp : Symbol → Bool
begins_exp Case = true
begins_exp Backslash = true
begins_exp Let = true
begins_exp If = true
begins_exp s = begins_aexp s

aexp_exp : (s : Symbol) → begins_aexp s ≡ true → begins_exp s ≡ true
aexp_exp Case h = refl
aexp_exp Backslash h = refl
aexp_exp Let h = refl
aexp_exp If h = refl
aexp_exp _ h = h

aexp_no_case : (s : Symbol) → begins_aexp s ≡ true → same s Case ≡ false
aexp_no_case Case h = cc
aexp_no_case _ h = refl

aexp_no_open : (s : Symbol) → begins_aexp s ≡ true → begins_open s ≡ false
aexp_no_open Backslash h = cc
aexp_no_open Let h = cc
aexp_no_open If h = cc
aexp_no_open _ h = refl

exp_no_mark : (s : Symbol) → begins_exp s ≡ true → is_mark s ≡ false
exp_no_mark Close h = sym h
exp_no_mark Comma h = sym h
exp_no_mark Colon h = sym h
exp_no_mark _ h = refl

exp_no_close : (s : Symbol) → begins_exp s ≡ true → same s CloseSquare ≡ false
exp_no_close CloseSquare h = cc
exp_no_close _ h = refl

gcon_first : {n : Identifier} {ts rest : List Terminal} → Gcon n ts rest → begins_aexp (peek ts) ≡ true
gcon_first (gcon_qcon (inl q)) = ap begins_aexp q
gcon_first (gcon_qcon (inr q)) = ap begins_aexp q
gcon_first (gcon_unit o c) = ap begins_aexp o
gcon_first (gcon_nil o c) = ap begins_aexp o
gcon_first (gcon_tuple o d n c) = ap begins_aexp o
gcon_first (gcon_cons o q c) = ap begins_aexp o

literal_first : {l : LiteralTree} {ts rest : List Terminal} → Literal' l ts rest → begins_aexp (peek ts) ≡ true
literal_first (literal_integer q) = ap begins_aexp q
literal_first (literal_character q) = ap begins_aexp q
literal_first (literal_string q) = ap begins_aexp q

pub aexp_begins : {e : Expression} {ts rest : List Terminal} → Aexp e ts rest → begins_aexp (peek ts) ≡ true
aexp_begins (aexp_var (inl q)) = ap begins_aexp q
aexp_begins (aexp_var (inr q)) = ap begins_aexp q
aexp_begins (aexp_con g) = gcon_first g
aexp_begins (aexp_literal l) = literal_first l
aexp_begins (aexp_paren o e c) = ap begins_aexp o
aexp_begins (aexp_tuple o e es c n) = ap begins_aexp o
aexp_begins (aexp_list o e es c) = ap begins_aexp o

opd_begins : {e : Expression} {ts rest : List Terminal} → Opd e ts rest → begins_exp (peek ts) ≡ true
opd_begins (opd_apply {ts = ts} f as_) = aexp_exp (peek ts) (aexp_begins f)
opd_begins (opd_case c e o b as_ r) = ap begins_exp c

opd_no_open : {e : Expression} {ts rest : List Terminal} → Opd e ts rest → begins_open (peek ts) ≡ false
opd_no_open (opd_apply {ts = ts} f as_) = aexp_no_open (peek ts) (aexp_begins f)
opd_no_open (opd_case c e o b as_ r) = ap begins_open c

lam_begins : {e : Expression} {ts rest : List Terminal} → Lam e ts rest → begins_exp (peek ts) ≡ true
lam_begins (lam_fun s p ps a e) = ap begins_exp s
lam_begins (lam_let s ds i e) = ap begins_exp s
lam_begins (lam_if s a t b l c) = ap begins_exp s

closed_begins : {e : Expression} {ts rest : List Terminal} → ClosedExp e ts rest → begins_exp (peek ts) ≡ true
closed_begins (closed_one a) = opd_begins a
closed_begins (closed_cons a s b) = opd_begins a

open_begins : {e : Expression} {ts rest : List Terminal} → OpenExp e ts rest → begins_exp (peek ts) ≡ true
open_begins (open_lam e) = lam_begins e
open_begins (open_cons a s b) = opd_begins a

exp_begins : {e : Expression} {ts rest : List Terminal} → Exp e ts rest → begins_exp (peek ts) ≡ true
exp_begins (exp_open e) = open_begins e
exp_begins (exp_closed e) = closed_begins e
exp_begins (exp_typed e s t) = closed_begins e

opens_none : (k : Terminal) (us : List Terminal) → k.symbol ≡ Open → begins_exp (peek us) ≡ true → begins_gcon (k ∷ us) ≡ false
unfolding begins_gcon
opens_none k us o h = rw o (exp_no_mark (peek us) h)

squares_none : (k : Terminal) (us : List Terminal) → k.symbol ≡ OpenSquare → begins_exp (peek us) ≡ true → begins_gcon (k ∷ us) ≡ false
unfolding begins_gcon
squares_none k us o h = rw o (exp_no_close (peek us) h)

begins_none : (k : Terminal) (us : List Terminal) (s : Symbol) → k.symbol ≡ s → ((second : Symbol) → begin_gcon s second ≡ false) → begins_gcon (k ∷ us) ≡ false
unfolding begins_gcon
begins_none k us s q h = rw q (h (peek us))

-- ---- rows

pub expression_steps : Steps AreExpCommas (next_of (exp_with all_expressions))
expression_steps = record { step = λ ts. record { holds = (next_found expression_commas (length ts) (exp_with all_expressions) (exp_with all_expressions) (exp_found (length ts) all_expressions all_expressions (expressions_agree (length ts))) ts (omega arith)).holds } }

pub arg_steps : Steps AreArgs (next_aexp all_expressions)
arg_steps = record { step = λ ts. record { holds = (next_aexp_found (length ts) all_expressions all_expressions (expressions_agree (length ts)) ts (omega arith)).holds } }

pub guard_steps : (s : Symbol) → Steps (AreGuards s) (next_guarded all_expressions s)
guard_steps s = record { step = λ ts. record { holds = (next_guarded_found (length ts) all_expressions all_expressions (expressions_agree (length ts)) s ts (omega arith)).holds } }

pub alt_steps : Steps (ItemsTo AreAlts) (next_item_of (alt_with all_expressions))
alt_steps = record { step = λ ts. record { holds = (item_found alt_items (suc (length ts)) (alt_with all_expressions) (alt_with all_expressions) (alt_found (suc (length ts)) all_expressions all_expressions (expressions_agree (suc (length ts)))) ts (omega arith)).holds } }

pub decl_steps : Steps (ItemsTo AreDeclItems) (next_item_of (decl_with all_expressions))
decl_steps = record { step = λ ts. record { holds = (item_found decl_items (suc (length ts)) (decl_with all_expressions) (decl_with all_expressions) (λ us h. decl_found (suc (length ts)) all_expressions all_expressions (expressions_agree (suc (length ts))) us (omega arith)) ts (omega arith)).holds } }

pub var_steps : Steps (λ ns ts rest. VarCommas ns ts rest) (next_of var_at)
var_steps = record { step = λ ts. record { holds = (next_found var_commas (length ts) var_at var_at (λ us h. both_held (var_found us)) ts (omega arith)).holds } }

var_is : (k : Terminal) (us : List Terminal) → k.symbol ≡ Var → var_at (k ∷ us) ≡ Some (name_of k, us)
unfolding var_at
var_is k us q = rw (ap (λ z. same z Var) q) refl

only_vars : {ns : List Identifier} {us rest : List Terminal} → VarCommas ns us rest → is_at Comma rest ≡ false → loop (next_of var_at) us ≡ Some (ns, rest)
only_vars (vars_none {ts = us}) h = row_stops var_at var_steps us h
only_vars (vars_more {ns = ns} {k = k} {n = n} {us = us} {rest = rest} q v ds) h =
    row_takes var_at var_steps ns rest us (name_of n) (only_vars ds h) (k ∷ n ∷ us) (ap (λ z. same z Comma) q) (var_is n us v)

-- ---- one step of a reader

chain_opd : (ts : List Terminal) → begins_open (peek ts) ≡ false → all_expressions.chain ts ≡ (opd_with all_expressions ts >>= λ a. link all_expressions a.0 a.1)
unfolding chain_step
chain_opd ts h = chain_is ts ∙ rw h refl

chain_open : (ts : List Terminal) (s : Symbol) (e : Expression) (us : List Terminal) → peek ts ≡ s → begins_open s ≡ true → open_by all_expressions s ts ≡ Some (e, us) → all_expressions.chain ts ≡ Some ((e, true), us)
unfolding chain_step
chain_open ts s e us q h o = chain_is ts ∙ rw q (rw h (rw o refl))

link_none : (e : Expression) (ts : List Terminal) → ends_closed (peek ts) ≡ true → link all_expressions e ts ≡ Some ((e, false), ts)
unfolding link
link_none e ts h = rw (no_colon (peek ts) h) refl

link_more : (a : Expression) (k : Terminal) (us : List Terminal) (b : Expression) (o : Bool) (rest : List Terminal) → k.symbol ≡ Colon → all_expressions.chain us ≡ Some ((b, o), rest) → link all_expressions a (k ∷ us) ≡ Some ((cons k a b, o), rest)
unfolding link
link_more a k us b o rest q e = rw (ap (λ z. same z Colon) q) (rw e refl)

exp_is : (ts : List Terminal) (e : Expression) (b : Bool) (us : List Terminal) → all_expressions.chain ts ≡ Some ((e, b), us) → is_at OfType us ≡ false → exp_with all_expressions ts ≡ Some (e, us)
unfolding exp_with
exp_is ts e true us c h = rw c refl
exp_is ts e false us c h = rw c (rw h refl)

exp_typed_is : (ts : List Terminal) (e : Expression) (k : Terminal) (us : List Terminal) (t : TypeTree) (rest : List Terminal) → all_expressions.chain ts ≡ Some ((e, false), k ∷ us) → k.symbol ≡ OfType → type_at us ≡ Some (t, rest) →
    exp_with all_expressions ts ≡ Some (typed_expression e t, rest)
unfolding exp_with
exp_typed_is ts e k us t rest c q d = rw c (rw (ap (λ z. same z OfType) q) (rw d refl))

abbrev applied_to : Expression → List Expression × List Terminal → Option (Expression × List Terminal)
applied_to f rest = Some (applied f rest.0, rest.1)

abbrev with_arg : Expression → List Expression × List Terminal → Option (List Expression × List Terminal)
with_arg a rest = Some (a ∷ rest.0, rest.1)

through_args : (f a : Expression) (o : Option (List Expression × List Terminal)) → ((o >>= with_arg a) >>= applied_to f) ≡ (o >>= applied_to (application f a))
through_args f a None = refl
through_args f a (Some x) = refl

pub args_take : (f a : Expression) (ts us : List Terminal) → next_aexp all_expressions ts ≡ Some (Some a, us) → args_from all_expressions f ts ≡ args_from all_expressions (application f a) us
unfolding args_from
args_take f a ts us e = rw (loop_takes arg_steps ts us a e) (through_args f a (loop (next_aexp all_expressions) us))

pub args_stop : (f : Expression) (ts : List Terminal) → begins_aexp (peek ts) ≡ false → args_from all_expressions f ts ≡ Some (f, ts)
unfolding args_from next_aexp
args_stop f ts h = rw (loop_stops arg_steps ts ts (rw h refl)) refl

pub next_is : (ts us : List Terminal) (a : Expression) → begins_aexp (peek ts) ≡ true → aexp_step all_expressions ts ≡ Some (a, us) → next_aexp all_expressions ts ≡ Some (Some a, us)
unfolding next_aexp
next_is ts us a b e = rw (b, e) refl

opd_is : (ts us : List Terminal) (f : Expression) → begins_aexp (peek ts) ≡ true → aexp_step all_expressions ts ≡ Some (f, us) → opd_with all_expressions ts ≡ args_from all_expressions f us
unfolding opd_with
opd_is ts us f b e = rw (aexp_no_case (peek ts) b) (rw e refl)

aexp_gcon : (ts us : List Terminal) (n : Identifier) → begins_gcon ts ≡ true → gcon_at ts ≡ Some (n, us) → aexp_step all_expressions ts ≡ Some (constructor_expression n, us)
unfolding aexp_step
aexp_gcon ts us n h e = rw (h, e) refl

aexp_other : (ts : List Terminal) (s : Symbol) → begins_gcon ts ≡ false → peek ts ≡ s → aexp_step all_expressions ts ≡ aexp_by all_expressions s ts
unfolding aexp_step
aexp_other ts s h e = rw h (ap (λ z. aexp_by all_expressions z ts) e)

module _ (s : Symbol) (mark : IsMark s) where
  plain_is : (k : Terminal) (us : List Terminal) (e : Expression) (vs : List Terminal) → k.symbol ≡ s → exp_with all_expressions us ≡ Some (e, vs) → bodies_with all_expressions s (k ∷ us) ≡ Some ((None, e) ∷ [], vs)
  unfolding bodies_with
  plain_is k us e vs q d = rw (ap (λ z. same z s) q ∙ mark.self) (rw d refl)

  guarded_is : (us : List Terminal) (g : Expression) (b : Bool) (m : Terminal) (vs : List Terminal) (e : Expression) (ws : List Terminal) → all_expressions.chain us ≡ Some ((g, b), m ∷ vs) → m.symbol ≡ s →
      exp_with all_expressions vs ≡ Some (e, ws) → guarded_in all_expressions s us ≡ Some ((Some g, e), ws)
  unfolding guarded_in
  guarded_is us g b m vs e ws c q d = rw c (rw (ap (λ z. same z s) q ∙ mark.self) (rw d refl))

  guards_are : (k : Terminal) (us : List Terminal) (b : Option Expression × Expression) (vs : List Terminal) (bs : List (Option Expression × Expression)) (ws : List Terminal) → k.symbol ≡ Bar →
      guarded_in all_expressions s us ≡ Some (b, vs) → loop (next_guarded all_expressions s) vs ≡ Some (bs, ws) → bodies_with all_expressions s (k ∷ us) ≡ Some (b ∷ bs, ws)
  unfolding bodies_with
  guards_are k us b vs bs ws q g l = rw (ap (λ z. same z s) q ∙ mark.bar) (rw (ap (λ z. same z Bar) q) (rw g (rw l refl)))

  guards_take : (k : Terminal) (us : List Terminal) (b : Option Expression × Expression) (vs : List Terminal) (bs : List (Option Expression × Expression)) (ws : List Terminal) → k.symbol ≡ Bar →
      guarded_in all_expressions s us ≡ Some (b, vs) → loop (next_guarded all_expressions s) vs ≡ Some (bs, ws) → loop (next_guarded all_expressions s) (k ∷ us) ≡ Some (b ∷ bs, ws)
  unfolding next_guarded
  guards_take k us b vs bs ws q g l = loop_takes (guard_steps s) (k ∷ us) vs b (rw (ap (λ z. same z Bar) q) (rw g refl)) ∙ rw l refl

  guards_stop : (us : List Terminal) → is_at Bar us ≡ false → loop (next_guarded all_expressions s) us ≡ Some ([], us)
  unfolding next_guarded
  guards_stop us h = loop_stops (guard_steps s) us us (rw h refl)

  rhs_is : (ts us : List Terminal) (bs : List (Option Expression × Expression)) (ds : List Declaration) (rest : List Terminal) → bodies_with all_expressions s ts ≡ Some (bs, us) → where_with all_expressions us ≡ Some (ds, rest) →
      rhs_with all_expressions s ts ≡ Some (right_side (bodies bs) (declarations ds), rest)
  unfolding rhs_with
  rhs_is ts us bs ds rest b w = rw b (rw w refl)

where_stop : (ts : List Terminal) → is_at Where ts ≡ false → where_with all_expressions ts ≡ Some ([], ts)
unfolding where_with
where_stop ts h = rw h refl

where_take : (k : Terminal) (us : List Terminal) (ds : List Declaration) (rest : List Terminal) → k.symbol ≡ Where → all_expressions.decls us ≡ Some (ds, rest) → where_with all_expressions (k ∷ us) ≡ Some (ds, rest)
unfolding where_with
where_take k us ds rest q e = rw (ap (λ z. same z Where) q) e

-- ---- what follows parts

commas_begin : {e : Expression} {es : Expressions} {us rest : List Terminal} → ExpCommas (more_expressions e es) us rest → peek us ≡ Comma
commas_begin (exps_more q e es) = q

commas_follow : {es : Expressions} {us rest : List Terminal} → ExpCommas es us rest → ends_exp (peek rest) ≡ true → ends_exp (peek us) ≡ true
commas_follow exps_none h = h
commas_follow (exps_more q e es) h = ap ends_exp q

guards_follow : {s : Symbol} {gs : Bodies} {us rest : List Terminal} → Guards s gs us rest → ends_exp (peek rest) ≡ true → ends_exp (peek us) ≡ true
guards_follow guards_none h = h
guards_follow (guards_more b g m e gs) h = ap ends_exp b

where_follow : {ds : Declarations} {us rest : List Terminal} → MayWhere ds us rest → ends_item (peek rest) ≡ true → ends_exp (peek us) ≡ true
where_follow (no_where {ts = ts}) h = item_ends (peek ts) h
where_follow (some_where w ds) h = ap ends_exp w

where_bar : {ds : Declarations} {us rest : List Terminal} → MayWhere ds us rest → ends_item (peek rest) ≡ true → is_at Bar us ≡ false
where_bar (no_where {ts = ts}) h = item_bar (peek ts) h
where_bar (some_where w ds) h = ap (λ z. same z Bar) w

-- what begins a right side
pub record BeginsRight (ts : List Terminal) : Type 0 where
  pub apat : begins_apat (peek ts) ≡ false
  pub at : is_at At ts ≡ false
  pub colon : is_at Colon ts ≡ false
  pub signature : begins_signature (peek ts) ≡ false

right_begins : {s : Symbol} {r : RightSide} {ts rest : List Terminal} → Rhs' s r ts rest → IsMark s → begins_signature s ≡ false → BeginsRight ts
right_begins (rhs_plain q e w) mark h = record { apat = ap begins_apat q ∙ mark.apat; at = ap (λ z. same z At) q ∙ mark.at; colon = ap (λ z. same z Colon) q ∙ mark.colon; signature = ap begins_signature q ∙ h }
right_begins (rhs_guards (guards_more b g m e gs) w) mark h = record { apat = ap begins_apat b; at = ap (λ z. same z At) b; colon = ap (λ z. same z Colon) b; signature = ap begins_signature b }

apat_no_signature : (s : Symbol) → begins_apat s ≡ true → begins_signature s ≡ false
apat_no_signature Comma h = cc
apat_no_signature OfType h = cc
apat_no_signature _ h = refl

clause_begins : {ps : Patterns} {r : RightSide} {us vs rest : List Terminal} → Apats ps us vs → Rhs' Equals r vs rest → begins_signature (peek us) ≡ false
clause_begins apats_none r = (right_begins r equals_mark refl).signature
clause_begins (apats_more {ts = us} p ps) r = apat_no_signature (peek us) (apat_begins p)

vars_begin : {ns : List Identifier} {us rest : List Terminal} {m : Terminal} → VarCommas ns us (m ∷ rest) → m.symbol ≡ OfType → begins_signature (peek us) ≡ true
vars_begin vars_none q = ap begins_signature q
vars_begin (vars_more c v ns) q = ap begins_signature c

apat_no_brace : (s : Symbol) → begins_apat s ≡ true → same s RightBrace ≡ false
apat_no_brace RightBrace h = cc
apat_no_brace _ h = refl

apat_no_semicolon : (s : Symbol) → begins_apat s ≡ true → same s Semicolon ≡ false
apat_no_semicolon Semicolon h = cc
apat_no_semicolon _ h = refl

alt_begins : {a : Alternative} {ts rest : List Terminal} → Alt' a ts rest → begins_apat (peek ts) ≡ true
alt_begins (alt' p r) = pat_begins p

pub decl_begins : {d : Declaration} {ts rest : List Terminal} → Decl d ts rest → begins_apat (peek ts) ≡ true
decl_begins (decl_signature v ns o t) = ap begins_apat v
decl_begins (decl_clause v ps r) = ap begins_apat v
decl_begins (decl_pattern p v r) = pat_begins p
decl_begins (decl_variable p r) = pat_begins p

alts_first : {as_ : Alternatives} {ts rest : List Terminal} {m : Terminal} → Alts as_ ts (m ∷ rest) → (a : Alternative) (others : Alternatives) → as_ ≡ more_alternatives a others → is_at RightBrace (past_semicolons ts) ≡ false
alts_first alts_none a others e = cc
alts_first (alts_last {ts = ts} d) a others e = rw (past_stay ts (apat_no_semicolon (peek ts) (alt_begins d))) (apat_no_brace (peek ts) (alt_begins d))
alts_first (alts_empty {k = k} {us = us} q ds) a others e = rw (past_go k us q) (alts_first ds a others e)
alts_first (alts_more {ts = ts} d q ds) a others e = rw (past_stay ts (apat_no_semicolon (peek ts) (alt_begins d))) (apat_no_brace (peek ts) (alt_begins d))

alts_are : (ts : List Terminal) (xs : List Alternative) (rest : List Terminal) → is_at RightBrace (past_semicolons ts) ≡ false → loop (next_item_of (alt_with all_expressions)) ts ≡ Some (xs, rest) → alts_with all_expressions ts ≡ Some (xs, rest)
unfolding alts_with
alts_are ts xs rest h e = rw h (loop_past (alt_with all_expressions) alt_steps ts ∙ e)

case_are : (k : Terminal) (us : List Terminal) (e : Expression) (m o : Terminal) (vs : List Terminal) (xs : List Alternative) (rest : List Terminal) → k.symbol ≡ Case → exp_with all_expressions us ≡ Some (e, m ∷ o ∷ vs) → m.symbol ≡ Of → o.symbol ≡ LeftBrace →
    alts_with all_expressions vs ≡ Some (xs, rest) → opd_with all_expressions (k ∷ us) ≡ Some (case_expression e (alternatives xs), rest)
unfolding opd_with case_with
case_are k us e m o vs xs rest q d f b a = rw (ap (λ z. same z Case) q) (rw d (rw (ap (λ z. same z Of) f) (rw (ap (λ z. same z LeftBrace) b) (rw a refl))))

decls_are : (k : Terminal) (us : List Terminal) (xs : List Declaration) (rest : List Terminal) → k.symbol ≡ LeftBrace → loop (next_item_of (decl_with all_expressions)) us ≡ Some (xs, rest) → all_expressions.decls (k ∷ us) ≡ Some (xs, rest)
unfolding decls_step
decls_are k us xs rest q e = decls_is (k ∷ us) ∙ rw (ap (λ z. same z LeftBrace) q) e

alt_is : (ts us : List Terminal) (p : Pattern) (b : RightSide) (rest : List Terminal) → all_patterns.whole ts ≡ Some (p, us) → rhs_with all_expressions Arrow us ≡ Some (b, rest) → alt_with all_expressions ts ≡ Some (alternative p b, rest)
unfolding alt_with
alt_is ts us p b rest e d = rw e (rw d refl)

named_is : (k : Terminal) (us : List Terminal) → k.symbol ≡ Var → continues_pattern (peek us) ≡ false → decl_with all_expressions (k ∷ us) ≡ named_with all_expressions (k ∷ us)
unfolding decl_with begins_binding
named_is k us v h = rw (v, h) refl

decl_signature_is : (k : Terminal) (us : List Terminal) (ns : List Identifier) (m : Terminal) (vs : List Terminal) (t : TypeTree) (rest : List Terminal) → k.symbol ≡ Var → continues_pattern (peek us) ≡ false → begins_signature (peek us) ≡ true → loop (next_of var_at) us ≡ Some (ns, m ∷ vs) →
    m.symbol ≡ OfType → type_at vs ≡ Some (t, rest) → decl_with all_expressions (k ∷ us) ≡ Some (signature (name_of k ∷ ns) t, rest)
unfolding named_with signature_with
decl_signature_is k us ns m vs t rest v c h l o e = named_is k us v c ∙ rw (var_is k us v) (rw h (rw l (rw (ap (λ z. same z OfType) o) (rw e refl))))

decl_clause_is : (k : Terminal) (us vs : List Terminal) (ps : List Pattern) (b : RightSide) (rest : List Terminal) → k.symbol ≡ Var → continues_pattern (peek us) ≡ false → begins_signature (peek us) ≡ false → loop (next_apat all_patterns) us ≡ Some (ps, vs) →
    rhs_with all_expressions Equals vs ≡ Some (b, rest) → decl_with all_expressions (k ∷ us) ≡ Some (clause (name_of k) (patterns ps) b, rest)
unfolding named_with clause_with apats_with
decl_clause_is k us vs ps b rest v c h l e = named_is k us v c ∙ rw (var_is k us v) (rw h (rw l (rw e refl)))

-- ---- pattern bindings

-- a declaration that begins with this symbol is one, whatever stands behind it
other_binding : (ts : List Terminal) (s : Symbol) → peek ts ≡ s → ((second : Symbol) → begin_binding s second ≡ true) → begins_binding ts ≡ true
unfolding begins_binding
other_binding ts s q h = rw q (h (peek (tail ts)))

variable_binding : (k : Terminal) (us : List Terminal) → k.symbol ≡ Var → continues_pattern (peek us) ≡ true → begins_binding (k ∷ us) ≡ true
unfolding begins_binding
variable_binding k us v h = rw (v, h) refl

gcon_binding : {n : Identifier} {ts rest : List Terminal} → Gcon n ts rest → begins_binding ts ≡ true
gcon_binding {ts = ts} (gcon_qcon (inl q)) = other_binding ts Con q (λ _. refl)
gcon_binding {ts = ts} (gcon_qcon (inr q)) = other_binding ts QCon q (λ _. refl)
gcon_binding {ts = ts} (gcon_unit o c) = other_binding ts Open o (λ _. refl)
gcon_binding {ts = ts} (gcon_nil o c) = other_binding ts OpenSquare o (λ _. refl)
gcon_binding {ts = ts} (gcon_tuple o d n c) = other_binding ts Open o (λ _. refl)
gcon_binding {ts = ts} (gcon_cons o q c) = other_binding ts Open o (λ _. refl)

literal_binding : {l : LiteralTree} {ts rest : List Terminal} → Literal' l ts rest → begins_binding ts ≡ true
literal_binding {ts = ts} (literal_integer q) = other_binding ts Integer q (λ _. refl)
literal_binding {ts = ts} (literal_character q) = other_binding ts Character q (λ _. refl)
literal_binding {ts = ts} (literal_string q) = other_binding ts Text q (λ _. refl)

-- a pattern that is no variable, or behind which the pattern goes on
apat_binding : {p : Pattern} {ts rest : List Terminal} → Apat p ts rest → (is_variable p ≡ false) ⊎ (continues_pattern (peek rest) ≡ true) → begins_binding ts ≡ true
apat_binding (apat_var q) (inl h) = cc
apat_binding (apat_var {k = k} {rest = rest} q) (inr h) = variable_binding k rest q h
apat_binding (apat_bound {k = k} {m = m} {us = us} q a p) h = variable_binding k (m ∷ us) q (ap continues_pattern a)
apat_binding (apat_con g) h = gcon_binding g
apat_binding (apat_literal l) h = literal_binding l
apat_binding {ts = ts} (apat_wild q) h = other_binding ts Wild q (λ _. refl)
apat_binding {ts = ts} (apat_paren o p c) h = other_binding ts Open o (λ _. refl)
apat_binding {ts = ts} (apat_tuple o p ps c n) h = other_binding ts Open o (λ _. refl)
apat_binding {ts = ts} (apat_list o p ps c) h = other_binding ts OpenSquare o (λ _. refl)
apat_binding {ts = ts} (apat_lazy q p) h = other_binding ts Tilde q (λ _. refl)

lpat_binding : {p : Pattern} {ts rest : List Terminal} → Lpat p ts rest → (is_variable p ≡ false) ⊎ (continues_pattern (peek rest) ≡ true) → begins_binding ts ≡ true
lpat_binding (lpat_one p) h = apat_binding p h
lpat_binding (lpat_apply g p ps) h = gcon_binding g

pat_binding : {p : Pattern} {ts rest : List Terminal} → Pat' p ts rest → is_variable p ≡ false → begins_binding ts ≡ true
pat_binding (pat_one p) h = lpat_binding p (inl h)
pat_binding (pat_cons p q r) h = lpat_binding p (inr (ap continues_pattern q))

binding_reads : (ts us : List Terminal) (p : Pattern) (b : RightSide) (rest : List Terminal) → begins_binding ts ≡ true → all_patterns.whole ts ≡ Some (p, us) → rhs_with all_expressions Equals us ≡ Some (b, rest) →
    decl_with all_expressions ts ≡ Some (binding_of (line_at ts) (column_at ts) p b, rest)
unfolding decl_with binding_with
binding_reads ts us p b rest h w r = rw h (rw w (rw r refl))

no_lone : (line column : ℕ) (p : Pattern) (b : RightSide) → is_variable p ≡ false → binding_of line column p b ≡ pattern_binding line column p b
no_lone line column (variable_pattern n) b h = cc
no_lone line column (bound_pattern n p) b h = refl
no_lone line column (constructor_pattern n ps) b h = refl
no_lone line column (literal_pattern l) b h = refl
no_lone line column wildcard_pattern b h = refl
no_lone line column (tuple_pattern ps) b h = refl
no_lone line column (list_pattern ps) b h = refl
no_lone line column (lazy_pattern p) b h = refl

apat_continues : (s : Symbol) → begins_apat s ≡ true → continues_pattern s ≡ false
apat_continues At h = cc
apat_continues Colon h = cc
apat_continues _ h = refl

right_continues : {s : Symbol} {b : RightSide} {ts rest : List Terminal} → Rhs' s b ts rest → continues_pattern s ≡ false → continues_pattern (peek ts) ≡ false
right_continues (rhs_plain q e w) h = ap continues_pattern q ∙ h
right_continues (rhs_guards (guards_more b g m e gs) w) h = ap continues_pattern b

vars_continue : {ns : List Identifier} {us rest : List Terminal} {m : Terminal} → VarCommas ns us (m ∷ rest) → m.symbol ≡ OfType → continues_pattern (peek us) ≡ false
vars_continue vars_none q = ap continues_pattern q
vars_continue (vars_more c v ns) q = ap continues_pattern c

clause_continues : {ps : Patterns} {b : RightSide} {us vs rest : List Terminal} → Apats ps us vs → Rhs' Equals b vs rest → continues_pattern (peek us) ≡ false
clause_continues apats_none b = right_continues b refl
clause_continues (apats_more {ts = us} p ps) b = apat_continues (peek us) (apat_begins p)

clause_reads : {ps : Patterns} {b : RightSide} {us vs rest : List Terminal} → (k : Terminal) → k.symbol ≡ Var → Apats ps us vs → Rhs' Equals b vs rest → rhs_with all_expressions Equals vs ≡ Some (b, rest) →
    decl_with all_expressions (k ∷ us) ≡ Some (clause (name_of k) ps b, rest)
clause_reads {ps = ps} {b = b} {us = us} {vs = vs} {rest = rest} k v ds db r =
    let begins = right_begins db equals_mark refl in
    decl_clause_is k us vs (pattern_list ps) b rest v (clause_continues ds db) (clause_begins ds db) (only_apats ds begins.apat begins.at) r
    ∙ ap (λ z. Some (clause (name_of k) z b, rest)) (patterns_list ps)

pattern_reads : {p : Pattern} {b : RightSide} {ts us rest : List Terminal} → Pat' p ts us → begins_binding ts ≡ true → Rhs' Equals b us rest → rhs_with all_expressions Equals us ≡ Some (b, rest) →
    decl_with all_expressions ts ≡ Some (binding_of (line_at ts) (column_at ts) p b, rest)
pattern_reads {p = p} {b = b} {ts = ts} {us = us} {rest = rest} d h db r =
    let begins = right_begins db equals_mark refl in
    binding_reads ts us p b rest h (only_pat d begins.apat begins.at begins.colon) r

-- a lone variable, read as a clause or as a pattern
variable_reads : {p : Pattern} {n : Identifier} {b : RightSide} {ts us rest : List Terminal} → Pat' p ts us → p ≡ variable_pattern n → Rhs' Equals b us rest → rhs_with all_expressions Equals us ≡ Some (b, rest) →
    decl_with all_expressions ts ≡ Some (clause n no_patterns b, rest)
variable_reads {n = n} {b = b} {rest = rest} (pat_one (lpat_one (apat_var {k = k} q))) e db r =
    let named : name_of k ≡ n = cc in
    clause_reads k q apats_none db r ∙ ap (λ z. Some (clause z no_patterns b, rest)) named
variable_reads {b = b} {rest = rest} (pat_one (lpat_one (apat_paren {k = k} {us = us} o d c))) e db r =
    pattern_reads (pat_one (lpat_one (apat_paren o d c))) (other_binding (k ∷ us) Open o (λ _. refl)) db r ∙ ap (λ z. Some (binding_of k.line k.column z b, rest)) e
variable_reads (pat_one (lpat_one (apat_bound q a p))) e db r = cc
variable_reads (pat_one (lpat_one (apat_con g))) e db r = cc
variable_reads (pat_one (lpat_one (apat_literal l))) e db r = cc
variable_reads (pat_one (lpat_one (apat_wild q))) e db r = cc
variable_reads (pat_one (lpat_one (apat_tuple o p ps c n))) e db r = cc
variable_reads (pat_one (lpat_one (apat_list o p ps c))) e db r = cc
variable_reads (pat_one (lpat_one (apat_lazy q p))) e db r = cc
variable_reads (pat_one (lpat_apply g p ps)) e db r = cc
variable_reads (pat_cons p q s) e db r = cc

lambda_is : (us vs : List Terminal) (p : Pattern) (ps : List Pattern) (m : Terminal) (ws : List Terminal) (e : Expression) (rest : List Terminal) → apat_step all_patterns us ≡ Some (p, vs) → loop (next_apat all_patterns) vs ≡ Some (ps, m ∷ ws) →
    m.symbol ≡ Arrow → exp_with all_expressions ws ≡ Some (e, rest) → lambda_with all_expressions us ≡ Some (lambda (patterns (p ∷ ps)) e, rest)
unfolding lambda_with apats_with
lambda_is us vs p ps m ws e rest a l q d = rw a (rw l (rw (ap (λ z. same z Arrow) q) (rw d refl)))

let_is : (us : List Terminal) (ds : List Declaration) (m : Terminal) (vs : List Terminal) (e : Expression) (rest : List Terminal) → all_expressions.decls us ≡ Some (ds, m ∷ vs) → m.symbol ≡ In → exp_with all_expressions vs ≡ Some (e, rest) →
    let_with all_expressions us ≡ Some (let_expression (declarations ds) e, rest)
unfolding let_with
let_is us ds m vs e rest a q d = rw a (rw (ap (λ z. same z In) q) (rw d refl))

if_is : (us : List Terminal) (a : Expression) (m : Terminal) (vs : List Terminal) (b : Expression) (o : Terminal) (ws : List Terminal) (c : Expression) (rest : List Terminal) → exp_with all_expressions us ≡ Some (a, m ∷ vs) → m.symbol ≡ Then →
    exp_with all_expressions vs ≡ Some (b, o ∷ ws) → o.symbol ≡ Else → exp_with all_expressions ws ≡ Some (c, rest) → if_with all_expressions us ≡ Some (if_expression a b c, rest)
unfolding if_with
if_is us a m vs b o ws c rest x q y l z = rw x (rw (ap (λ w. same w Then) q) (rw y (rw (ap (λ w. same w Else) l) (rw z refl))))

few : (e f : Expression) (es : Expressions) → count_exprs (more_expressions e (more_expressions f es)) ≤ 15 → length (e ∷ f ∷ expression_list es) ≤ 15
few e f es h = rw (← count_is (e ∷ f ∷ expression_list es)) (rw (expressions_list es) h)

literal_is : {l : LiteralTree} {ts rest : List Terminal} → Literal' l ts rest → aexp_step all_expressions ts ≡ Some (literal_expression l, rest)
literal_is (literal_integer {k = k} {rest = rest} q) = aexp_other (k ∷ rest) Integer (begins_none k rest Integer q (λ _. refl)) q ∙ rw (literal_only (literal_integer {k = k} {rest = rest} q)) refl
literal_is (literal_character {k = k} {rest = rest} q) = aexp_other (k ∷ rest) Character (begins_none k rest Character q (λ _. refl)) q ∙ rw (literal_only (literal_character {k = k} {rest = rest} q)) refl
literal_is (literal_string {k = k} {rest = rest} q) = aexp_other (k ∷ rest) Text (begins_none k rest Text q (λ _. refl)) q ∙ rw (literal_only (literal_string {k = k} {rest = rest} q)) refl

mutual
  pub only_exp : {e : Expression} {ts rest : List Terminal} → Exp e ts rest → ends_exp (peek rest) ≡ true → exp_with all_expressions ts ≡ Some (e, rest)
  only_exp (exp_open {e = e} {ts = ts} {rest = rest} d) h = exp_is ts e true rest (only_open d h) (no_type (peek rest) h)
  only_exp (exp_closed {e = e} {ts = ts} {rest = rest} d) h = exp_is ts e false rest (only_closed d (closed_ends (peek rest) h)) (no_type (peek rest) h)
  only_exp (exp_typed {e = e} {t = t} {k = k} {ts = ts} {us = us} {rest = rest} d s dt) h =
      exp_typed_is ts e k us t rest (only_closed d (ap ends_closed s)) s (only_type dt (no_atype (peek rest) h))

  pub only_closed : {e : Expression} {ts rest : List Terminal} → ClosedExp e ts rest → ends_closed (peek rest) ≡ true → all_expressions.chain ts ≡ Some ((e, false), rest)
  only_closed (closed_one {e = e} {ts = ts} {rest = rest} a) h = chain_opd ts (opd_no_open a) ∙ rw (only_opd a (no_aexp (peek rest) h)) (link_none e rest h)
  only_closed (closed_cons {a = a} {b = b} {k = k} {ts = ts} {us = us} {rest = rest} d s db) h =
      chain_opd ts (opd_no_open d) ∙ rw (only_opd d (ap begins_aexp s)) (link_more a k us b false rest s (only_closed db h))

  pub only_open : {e : Expression} {ts rest : List Terminal} → OpenExp e ts rest → ends_exp (peek rest) ≡ true → all_expressions.chain ts ≡ Some ((e, true), rest)
  only_open (open_lam d) h = only_lam d h
  only_open (open_cons {a = a} {b = b} {k = k} {ts = ts} {us = us} {rest = rest} d s db) h =
      chain_opd ts (opd_no_open d) ∙ rw (only_opd d (ap begins_aexp s)) (link_more a k us b true rest s (only_open db h))

  only_lam : {e : Expression} {ts rest : List Terminal} → Lam e ts rest → ends_exp (peek rest) ≡ true → all_expressions.chain ts ≡ Some ((e, true), rest)
  only_lam (lam_fun {p = p} {ps = ps} {e = e} {k = k} {m = m} {us = us} {vs = vs} {ws = ws} {rest = rest} s d ds a de) h =
      chain_open (k ∷ us) Backslash (lambda (more_patterns p ps) e) rest s refl
      (lambda_is us vs p (pattern_list ps) m ws e rest (only_apat d (apats_at ds (ap (λ z. same z At) a))) (only_apats ds (ap begins_apat a) (ap (λ z. same z At) a)) a (only_exp de h)
      ∙ ap (λ z. Some (lambda (more_patterns p z) e, rest)) (patterns_list ps))
  only_lam (lam_let {ds = ds} {e = e} {k = k} {m = m} {us = us} {vs = vs} {rest = rest} s dds i de) h =
      chain_open (k ∷ us) Let (let_expression ds e) rest s refl
      (let_is us (declaration_list ds) m vs e rest (only_decls dds) i (only_exp de h) ∙ ap (λ z. Some (let_expression z e, rest)) (declarations_list ds))
  only_lam (lam_if {a = a} {b = b} {c = c} {k = k} {m = m} {n = n} {us = us} {vs = vs} {ws = ws} {rest = rest} s da t db l dc) h =
      chain_open (k ∷ us) If (if_expression a b c) rest s refl
      (if_is us a m vs b n ws c rest (only_exp da (ap ends_exp t)) t (only_exp db (ap ends_exp l)) l (only_exp dc h))

  pub only_opd : {e : Expression} {ts rest : List Terminal} → Opd e ts rest → begins_aexp (peek rest) ≡ false → opd_with all_expressions ts ≡ Some (e, rest)
  only_opd (opd_apply {f = f} {ts = ts} {us = us} d as_) h = opd_is ts us f (aexp_begins d) (only_aexp d) ∙ only_args as_ h
  only_opd (opd_case {e = e} {a = a} {as_ = as_} {k = k} {m = m} {o = o} {us = us} {vs = vs} {rest = rest} q d f b ds c) h =
      case_are k us e m o vs (a ∷ alternative_list as_) rest q (only_exp d (ap ends_exp f)) f b (alts_are vs (a ∷ alternative_list as_) rest (alts_first ds a as_ refl) (only_alts ds c))
      ∙ ap (λ z. Some (case_expression e (more_alternatives a z), rest)) (alternatives_list as_)

  only_args : {f e : Expression} {ts rest : List Terminal} → Args f e ts rest → begins_aexp (peek rest) ≡ false → args_from all_expressions f ts ≡ Some (e, rest)
  only_args (args_none {f = f} {ts = ts}) h = args_stop f ts h
  only_args (args_more {f = f} {a = a} {ts = ts} {us = us} d as_) h = args_take f a ts us (next_is ts us a (aexp_begins d) (only_aexp d)) ∙ only_args as_ h

  only_guard : {e : Expression} {ts rest : List Terminal} → Guard e ts rest → ends_exp (peek rest) ≡ true → (b : Bool) × (all_expressions.chain ts ≡ Some ((e, b), rest))
  only_guard (guard_open d) h = (true, only_open d h)
  only_guard (guard_closed {rest = rest} d) h = (false, only_closed d (closed_ends (peek rest) h))

  only_guards : {s : Symbol} {gs : Bodies} {us rest : List Terminal} → Guards s gs us rest → IsMark s → is_at Bar rest ≡ false → ends_exp (peek rest) ≡ true → loop (next_guarded all_expressions s) us ≡ Some (body_list gs, rest)
  only_guards (guards_none {s = s} {ts = ts}) mark b h = guards_stop s mark ts b
  only_guards (guards_more {s = s} {g = g} {e = e} {gs = gs} {k = k} {m = m} {us = us} {vs = vs} {ws = ws} {rest = rest} q dg t de dgs) mark b h =
      let first = only_guard dg (ap ends_exp t ∙ mark.ends) in
      guards_take s mark k us (Some g, e) ws (body_list gs) rest q (guarded_is s mark us g first.0 m vs e ws first.1 t (only_exp de (guards_follow dgs h))) (only_guards dgs mark b h)

  only_rhs : {s : Symbol} {r : RightSide} {ts rest : List Terminal} → Rhs' s r ts rest → IsMark s → ends_item (peek rest) ≡ true → rhs_with all_expressions s ts ≡ Some (r, rest)
  only_rhs (rhs_plain {s = s} {e = e} {ds = ds} {k = k} {us = us} {vs = vs} {rest = rest} q d w) mark h =
      rhs_is s mark (k ∷ us) vs ((None, e) ∷ []) (declaration_list ds) rest (plain_is s mark k us e vs q (only_exp d (where_follow w h))) (only_where w h)
      ∙ ap (λ z. Some (right_side (plain_body e no_bodies) z, rest)) (declarations_list ds)
  only_rhs (rhs_guards {s = s} {ds = ds} {us = ws} {rest = rest} (guards_more {g = g} {e = e} {gs = gs} {k = k} {m = m} {us = us} {vs = vs} {ws = xs} q dg t de dgs) w) mark h =
      let first = only_guard dg (ap ends_exp t ∙ mark.ends) in
      rhs_is s mark (k ∷ us) ws ((Some g, e) ∷ body_list gs) (declaration_list ds) rest
      (guards_are s mark k us (Some g, e) xs (body_list gs) ws q (guarded_is s mark us g first.0 m vs e xs first.1 t (only_exp de (guards_follow dgs (where_follow w h)))) (only_guards dgs mark (where_bar w h) (where_follow w h)))
      (only_where w h)
      ∙ (ap (λ z. Some (right_side (guarded_body g e z) (declarations (declaration_list ds)), rest)) (bodies_list gs) ∙ ap (λ z. Some (right_side (guarded_body g e gs) z, rest)) (declarations_list ds))

  only_where : {ds : Declarations} {ts rest : List Terminal} → MayWhere ds ts rest → ends_item (peek rest) ≡ true → where_with all_expressions ts ≡ Some (declaration_list ds, rest)
  only_where (no_where {ts = ts}) h = where_stop ts (item_where (peek ts) h)
  only_where (some_where {ds = ds} {k = k} {us = us} {rest = rest} q d) h = where_take k us (declaration_list ds) rest q (only_decls d)

  only_alt : {a : Alternative} {ts rest : List Terminal} → Alt' a ts rest → ends_item (peek rest) ≡ true → alt_with all_expressions ts ≡ Some (a, rest)
  only_alt (alt' {p = p} {r = r} {ts = ts} {us = us} {rest = rest} d dr) h =
      let begins = right_begins dr arrow_mark refl in
      alt_is ts us p r rest (only_pat d begins.apat begins.at begins.colon) (only_rhs dr arrow_mark h)

  only_alts : {as_ : Alternatives} {ts rest : List Terminal} {m : Terminal} → Alts as_ ts (m ∷ rest) → m.symbol ≡ RightBrace → loop (next_item_of (alt_with all_expressions)) ts ≡ Some (alternative_list as_, rest)
  only_alts {rest = rest} {m = m} alts_none c = loop_end (alt_with all_expressions) alt_steps m rest c
  only_alts {rest = rest} {m = m} (alts_last {a = a} {ts = ts} d) c =
      loop_last (alt_with all_expressions) alt_steps ts a m rest (only_alt d (ap ends_item c)) (apat_no_semicolon (peek ts) (alt_begins d)) (apat_no_brace (peek ts) (alt_begins d)) c
  only_alts (alts_empty {k = k} {us = us} q ds) c = loop_go (alt_with all_expressions) alt_steps k us q ∙ only_alts ds c
  only_alts {rest = rest} (alts_more {a = a} {as_ = as_} {k = k} {ts = ts} {us = us} d q ds) c =
      loop_more (alt_with all_expressions) alt_steps ts a k us (alternative_list as_) rest (only_alt d (ap ends_item q)) (apat_no_semicolon (peek ts) (alt_begins d)) (apat_no_brace (peek ts) (alt_begins d)) q (only_alts ds c)

  pub only_aexp : {e : Expression} {ts rest : List Terminal} → Aexp e ts rest → aexp_step all_expressions ts ≡ Some (e, rest)
  only_aexp (aexp_var {k = k} {rest = rest} (inl q)) = aexp_other (k ∷ rest) Var (begins_none k rest Var q (λ _. refl)) q
  only_aexp (aexp_var {k = k} {rest = rest} (inr q)) = aexp_other (k ∷ rest) QVar (begins_none k rest QVar q (λ _. refl)) q
  only_aexp (aexp_con {n = n} {ts = ts} {rest = rest} g) = aexp_gcon ts rest n (gcon_begins g) (gcon_only g)
  only_aexp (aexp_literal l) = literal_is l
  only_aexp (aexp_paren {e = e} {k = k} {m = m} {us = us} {rest = rest} o d c) =
      aexp_other (k ∷ us) Open (opens_none k us o (exp_begins d)) o ∙ rw (only_exp d (ap ends_exp c)) (closes_one (exp_with all_expressions) tuple_of_expressions e m rest c)
  only_aexp (aexp_tuple {e = e} {f = f} {es = es} {k = k} {m = m} {us = us} {vs = vs} {rest = rest} o d ds c n) =
      aexp_other (k ∷ us) Open (opens_none k us o (exp_begins d)) o ∙ rw (only_exp d (ap ends_exp (commas_begin ds)))
      (closes_row (exp_with all_expressions) tuple_of_expressions e (f ∷ expression_list es) vs m rest (ap (λ z. same z Comma) (commas_begin ds)) (only_commas ds (ap (λ z. same z Comma) c) (ap ends_exp c)) c (few e f es n)
      ∙ ap (λ z. Some (tuple_expression (more_expressions e (more_expressions f z)), rest)) (expressions_list es))
  only_aexp (aexp_list {e = e} {es = es} {k = k} {m = m} {us = us} {vs = vs} {rest = rest} o d ds c) =
      aexp_other (k ∷ us) OpenSquare (squares_none k us o (exp_begins d)) o
      ∙ (lists_row (exp_with all_expressions) list_of_expressions e (expression_list es) us vs m rest (only_exp d (commas_follow ds (ap ends_exp c))) (only_commas ds (ap (λ z. same z Comma) c) (ap ends_exp c)) c
      ∙ ap (λ z. Some (list_expression (more_expressions e z), rest)) (expressions_list es))

  only_commas : {es : Expressions} {us rest : List Terminal} → ExpCommas es us rest → is_at Comma rest ≡ false → ends_exp (peek rest) ≡ true → loop (next_of (exp_with all_expressions)) us ≡ Some (expression_list es, rest)
  only_commas (exps_none {ts = us}) h q = row_stops (exp_with all_expressions) expression_steps us h
  only_commas (exps_more {e = e} {es = es} {k = k} {us = us} {vs = vs} {rest = rest} c d ds) h q =
      row_takes (exp_with all_expressions) expression_steps (expression_list es) rest vs e (only_commas ds h q) (k ∷ us) (ap (λ z. same z Comma) c) (only_exp d (commas_follow ds q))

  pub only_decls : {ds : Declarations} {ts rest : List Terminal} → Decls ds ts rest → all_expressions.decls ts ≡ Some (declaration_list ds, rest)
  only_decls (decls {ds = ds} {k = k} {us = us} {rest = rest} o d c) = decls_are k us (declaration_list ds) rest o (only_items d c)

  only_items : {ds : Declarations} {ts rest : List Terminal} {m : Terminal} → DeclItems ds ts (m ∷ rest) → m.symbol ≡ RightBrace → loop (next_item_of (decl_with all_expressions)) ts ≡ Some (declaration_list ds, rest)
  only_items {rest = rest} {m = m} decls_none c = loop_end (decl_with all_expressions) decl_steps m rest c
  only_items {rest = rest} {m = m} (decls_last {d = d} {ts = ts} dd) c =
      loop_last (decl_with all_expressions) decl_steps ts d m rest (only_decl dd (ap ends_item c)) (apat_no_semicolon (peek ts) (decl_begins dd)) (apat_no_brace (peek ts) (decl_begins dd)) c
  only_items (decls_empty {k = k} {us = us} q ds) c = loop_go (decl_with all_expressions) decl_steps k us q ∙ only_items ds c
  only_items {rest = rest} (decls_more {d = d} {ds = ds} {k = k} {ts = ts} {us = us} dd q dds) c =
      loop_more (decl_with all_expressions) decl_steps ts d k us (declaration_list ds) rest (only_decl dd (ap ends_item q)) (apat_no_semicolon (peek ts) (decl_begins dd)) (apat_no_brace (peek ts) (decl_begins dd)) q (only_items dds c)

  pub only_decl : {d : Declaration} {ts rest : List Terminal} → Decl d ts rest → ends_item (peek rest) ≡ true → decl_with all_expressions ts ≡ Some (d, rest)
  only_decl (decl_signature {ns = ns} {t = t} {k = k} {m = m} {us = us} {vs = vs} {rest = rest} v ds o dt) h =
      decl_signature_is k us ns m vs t rest v (vars_continue ds o) (vars_begin ds o) (only_vars ds (ap (λ z. same z Comma) o)) o (only_type dt (no_atype (peek rest) (item_ends (peek rest) h)))
  only_decl (decl_clause {k = k} v ds dr) h = clause_reads k v ds dr (only_rhs dr equals_mark h)
  only_decl (decl_pattern {p = p} {r = r} {k = k} {rest = rest} d v dr) h =
      pattern_reads d (pat_binding d v) dr (only_rhs dr equals_mark h) ∙ ap (λ z. Some (z, rest)) (no_lone k.line k.column p r v)
  only_decl (decl_variable d dr) h = variable_reads d refl dr (only_rhs dr equals_mark h)
