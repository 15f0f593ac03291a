-- What tokens spell, they spell before more tokens too. So lists of tokens that spell modules, one behind the other, spell all of these.
use Rattle.std.proofs.Common.{◌≡◌, ℕ, List, [], ◌∷◌, ◌++◌, Bool, Option, sym, ◌∙◌}
use Rattle.std.proofs.lemmas.List.{map-append, take-append-drop}
use Rattle.hm_lex.specs.declared.token.Token.{Token}
use Rattle.hm_syntax.specs.Names.{Identifier, LiteralTree}
use Rattle.hm_syntax.specs.Trees.{TypeTree, TypeTrees, DataConstructor, DataConstructors, Declaration, Pattern, Patterns, Expression, Expressions, Declarations, RightSide, Bodies, Alternative, Alternatives}
use Rattle.hm_syntax.specs.declared.ast.Export.{Export}
use Rattle.hm_syntax.specs.declared.ast.SubItems.{SubItems}
use Rattle.hm_syntax.specs.declared.ast.Import.{Import}
use Rattle.hm_syntax.specs.declared.ast.ImportList.{ImportList}
use Rattle.hm_syntax.specs.declared.ast.ImportItem.{ImportItem}
use Rattle.hm_syntax.specs.declared.ast.Module.{Module}
use Rattle.hm_parse_grammar.specs.declared.symbol.Symbol.{Symbol}
use Rattle.hm_parse_grammar.specs.declared.symbol.Symbol.TheVariants.{Module as ModuleWord, Arrow}
use Rattle.hm_parse_grammar.specs.Tokens.{Terminal, terminal_of, terminals}
use Rattle.hm_parse_grammar.specs.Grammar.Marks.{Spelling, NoArrow, Commas, commas_none, commas_more, Row, row_none, row_some, MayComma, no_comma, one_comma, Listed, listed, Items, items_none, items_last, items_empty, items_more}
use Rattle.hm_parse_grammar.specs.Grammar.Headers.{ConName, con_name, MaySubs, no_subs, subs_all, subs_some, Export', export_var, export_con, export_whole, MayExports, no_exports, some_exports, Item', item_var, item_con, MayQualified, not_qualified, qualified, MayAlias, no_alias, alias, MayList, every, only, hiding, Import', import}
use Rattle.hm_parse_grammar.specs.Grammar.Types.{Type', type_one, type_arrow, Btype, btype_one, btype_apply, Atype, atype_con, atype_var, atype_unit, atype_paren, atype_tuple, atype_list, Atypes, atypes_none, atypes_more, TypeCommas, types_none, types_more, Constr', constr', Bars, bars_none, bars_more, Tyvars, tyvars_none, tyvars_more, Data', data', Newtype', newtype', Synonym', synonym'}
use Rattle.hm_parse_grammar.specs.Grammar.Patterns.{CommaMarks, marks_none, marks_more, Gcon, gcon_qcon, gcon_unit, gcon_nil, gcon_tuple, gcon_cons, Literal', literal_integer, literal_character, literal_string, Pat', pat_one, pat_cons, Lpat, lpat_one, lpat_apply, Apat, apat_var, apat_bound, apat_con, apat_literal, apat_wild, apat_paren, apat_tuple, apat_list, apat_lazy, Apats, apats_none, apats_more, PatCommas, pats_none, pats_more}
use Rattle.hm_parse_grammar.specs.Grammar.Expressions.{VarCommas, vars_none, vars_more, Exp, exp_open, exp_closed, exp_typed, ClosedExp, closed_one, closed_cons, OpenExp, open_lam, open_cons, Lam, lam_fun, lam_let, lam_if, Opd, opd_apply, opd_case, Args, args_none, args_more, Guard, guard_open, guard_closed, Guards, guards_none, guards_more, Rhs', rhs_plain, rhs_guards, MayWhere, no_where, some_where, Alt', alt', Alts, alts_none, alts_last, alts_empty, alts_more, Aexp, aexp_var, aexp_con, aexp_literal, aexp_paren, aexp_tuple, aexp_list, ExpCommas, exps_none, exps_more, Decls, decls, DeclItems, decls_none, decls_last, decls_empty, decls_more, Decl, decl_signature, decl_clause, decl_pattern, decl_variable, Topdecl, topdecl_data, topdecl_newtype, topdecl_synonym, topdecl_decl}
use Rattle.hm_parse_grammar.specs.Grammar.Modules.{Body, body_decls, body_import, body_empty, body_more, Module', «module», Source, source_none, source_more, Spells}

-- what may stand behind whatever is spelled
record MayFollow (more : List Terminal) : Type 0 where
  no_arrow : NoArrow more

no_arrow : (rest more : List Terminal) → NoArrow rest → NoArrow more → NoArrow (rest ++ more)
no_arrow [] more a h = h
no_arrow (k ∷ ts) more a h = a

-- ---- rows and lists of what is spelled so

module _ {A : Type 0} {X : Spelling A} (more : List Terminal) (each : (x : A) (ts rest : List Terminal) → X x ts rest → X x (ts ++ more) (rest ++ more)) where
  commas_before : {xs : List A} {ts rest : List Terminal} → Commas X xs ts rest → Commas X xs (ts ++ more) (rest ++ more)
  commas_before commas_none = commas_none
  commas_before (commas_more a b c) = commas_more a (each _ _ _ b) (commas_before c)

  row_before : {xs : List A} {ts rest : List Terminal} → Row X xs ts rest → Row X xs (ts ++ more) (rest ++ more)
  row_before row_none = row_none
  row_before (row_some a b) = row_some (each _ _ _ a) (commas_before b)

  comma_before : {ts rest : List Terminal} → MayComma ts rest → MayComma (ts ++ more) (rest ++ more)
  comma_before no_comma = no_comma
  comma_before (one_comma a) = one_comma a

  listed_before : {xs : List A} {ts rest : List Terminal} → Listed X xs ts rest → Listed X xs (ts ++ more) (rest ++ more)
  listed_before (listed a b c d) = listed a (row_before b) (comma_before c) d

  items_before : {xs : List A} {ts rest : List Terminal} → Items X xs ts rest → Items X xs (ts ++ more) (rest ++ more)
  items_before items_none = items_none
  items_before (items_last a) = items_last (each _ _ _ a)
  items_before (items_empty a b) = items_empty a (items_before b)
  items_before (items_more a b c) = items_more (each _ _ _ a) b (items_before c)

-- ---- headers

con_before : {a : Identifier} {ts rest more : List Terminal} → MayFollow more → ConName a ts rest → ConName a (ts ++ more) (rest ++ more)
con_before h (con_name a) = con_name a

subs_before : {a : SubItems} {ts rest more : List Terminal} → MayFollow more → MaySubs a ts rest → MaySubs a (ts ++ more) (rest ++ more)
subs_before h no_subs = no_subs
subs_before h (subs_all a b c) = subs_all a b c
subs_before {more = m} h (subs_some a b c) = subs_some a (row_before m (λ x ts rest d. con_before h d) b) c

export_before : {a : Export} {ts rest more : List Terminal} → MayFollow more → Export' a ts rest → Export' a (ts ++ more) (rest ++ more)
export_before h (export_var a) = export_var a
export_before h (export_con a b) = export_con a (subs_before h b)
export_before h (export_whole a b) = export_whole a b

exports_before : {a : Option (List Export)} {ts rest more : List Terminal} → MayFollow more → MayExports a ts rest → MayExports a (ts ++ more) (rest ++ more)
exports_before h no_exports = no_exports
exports_before {more = m} h (some_exports a) = some_exports (listed_before m (λ x ts rest d. export_before h d) a)

item_before : {a : ImportItem} {ts rest more : List Terminal} → MayFollow more → Item' a ts rest → Item' a (ts ++ more) (rest ++ more)
item_before h (item_var a) = item_var a
item_before h (item_con a b) = item_con a (subs_before h b)

qualified_before : {a : Bool} {ts rest more : List Terminal} → MayFollow more → MayQualified a ts rest → MayQualified a (ts ++ more) (rest ++ more)
qualified_before h not_qualified = not_qualified
qualified_before h (qualified a) = qualified a

alias_before : {a : Option Identifier} {ts rest more : List Terminal} → MayFollow more → MayAlias a ts rest → MayAlias a (ts ++ more) (rest ++ more)
alias_before h no_alias = no_alias
alias_before h (alias a b) = alias a b

list_before : {a : ImportList} {ts rest more : List Terminal} → MayFollow more → MayList a ts rest → MayList a (ts ++ more) (rest ++ more)
list_before h every = every
list_before {more = m} h (only a) = only (listed_before m (λ x ts rest d. item_before h d) a)
list_before {more = m} h (hiding a b) = hiding a (listed_before m (λ x ts rest d. item_before h d) b)

import_before : {a : Import} {ts rest more : List Terminal} → MayFollow more → Import' a ts rest → Import' a (ts ++ more) (rest ++ more)
import_before h (import a b c d e) = import a (qualified_before h b) c (alias_before h d) (list_before h e)

-- ---- types

mutual
  type_before : {a : TypeTree} {ts rest more : List Terminal} → MayFollow more → Type' a ts rest → Type' a (ts ++ more) (rest ++ more)
  type_before {rest = rest} {more = m} h (type_one a b) = type_one (btype_before h a) (no_arrow rest m b h.no_arrow)
  type_before h (type_arrow a b c) = type_arrow (btype_before h a) b (type_before h c)

  btype_before : {a : TypeTree} {ts rest more : List Terminal} → MayFollow more → Btype a ts rest → Btype a (ts ++ more) (rest ++ more)
  btype_before h (btype_one a) = btype_one (atype_before h a)
  btype_before h (btype_apply a b c) = btype_apply a (atype_before h b) (atypes_before h c)

  atype_before : {a : TypeTree} {ts rest more : List Terminal} → MayFollow more → Atype a ts rest → Atype a (ts ++ more) (rest ++ more)
  atype_before h (atype_con a) = atype_con a
  atype_before h (atype_var a) = atype_var a
  atype_before h (atype_unit a b) = atype_unit a b
  atype_before h (atype_paren a b c) = atype_paren a (type_before h b) c
  atype_before h (atype_tuple a b c d e) = atype_tuple a (type_before h b) (type_commas_before h c) d e
  atype_before h (atype_list a b c) = atype_list a (type_before h b) c

  atypes_before : {a : TypeTrees} {ts rest more : List Terminal} → MayFollow more → Atypes a ts rest → Atypes a (ts ++ more) (rest ++ more)
  atypes_before h atypes_none = atypes_none
  atypes_before h (atypes_more a b) = atypes_more (atype_before h a) (atypes_before h b)

  type_commas_before : {a : TypeTrees} {ts rest more : List Terminal} → MayFollow more → TypeCommas a ts rest → TypeCommas a (ts ++ more) (rest ++ more)
  type_commas_before h types_none = types_none
  type_commas_before h (types_more a b c) = types_more a (type_before h b) (type_commas_before h c)

constructor_before : {a : DataConstructor} {ts rest more : List Terminal} → MayFollow more → Constr' a ts rest → Constr' a (ts ++ more) (rest ++ more)
constructor_before h (constr' a b) = constr' a (atypes_before h b)

bars_before : {a : DataConstructors} {ts rest more : List Terminal} → MayFollow more → Bars a ts rest → Bars a (ts ++ more) (rest ++ more)
bars_before h bars_none = bars_none
bars_before h (bars_more a b c) = bars_more a (constructor_before h b) (bars_before h c)

tyvars_before : {a : List Identifier} {ts rest more : List Terminal} → MayFollow more → Tyvars a ts rest → Tyvars a (ts ++ more) (rest ++ more)
tyvars_before h tyvars_none = tyvars_none
tyvars_before h (tyvars_more a b) = tyvars_more a (tyvars_before h b)

data_declaration_before : {a : Declaration} {ts rest more : List Terminal} → MayFollow more → Data' a ts rest → Data' a (ts ++ more) (rest ++ more)
data_declaration_before h (data' a b c d e f) = data' a b (tyvars_before h c) d (constructor_before h e) (bars_before h f)

newtype_declaration_before : {a : Declaration} {ts rest more : List Terminal} → MayFollow more → Newtype' a ts rest → Newtype' a (ts ++ more) (rest ++ more)
newtype_declaration_before h (newtype' a b c d e f) = newtype' a b (tyvars_before h c) d e (atype_before h f)

synonym_before : {a : Declaration} {ts rest more : List Terminal} → MayFollow more → Synonym' a ts rest → Synonym' a (ts ++ more) (rest ++ more)
synonym_before h (synonym' a b c d e) = synonym' a b (tyvars_before h c) d (type_before h e)

-- ---- constructors and patterns

marks_before : {a : ℕ} {ts rest more : List Terminal} → MayFollow more → CommaMarks a ts rest → CommaMarks a (ts ++ more) (rest ++ more)
marks_before h marks_none = marks_none
marks_before h (marks_more a b) = marks_more a (marks_before h b)

gcon_before : {a : Identifier} {ts rest more : List Terminal} → MayFollow more → Gcon a ts rest → Gcon a (ts ++ more) (rest ++ more)
gcon_before h (gcon_qcon a) = gcon_qcon a
gcon_before h (gcon_unit a b) = gcon_unit a b
gcon_before h (gcon_nil a b) = gcon_nil a b
gcon_before h (gcon_tuple a b c d) = gcon_tuple a (marks_before h b) c d
gcon_before h (gcon_cons a b c) = gcon_cons a b c

literal_before : {a : LiteralTree} {ts rest more : List Terminal} → MayFollow more → Literal' a ts rest → Literal' a (ts ++ more) (rest ++ more)
literal_before h (literal_integer a) = literal_integer a
literal_before h (literal_character a) = literal_character a
literal_before h (literal_string a) = literal_string a

mutual
  pat_before : {a : Pattern} {ts rest more : List Terminal} → MayFollow more → Pat' a ts rest → Pat' a (ts ++ more) (rest ++ more)
  pat_before h (pat_one a) = pat_one (lpat_before h a)
  pat_before h (pat_cons a b c) = pat_cons (lpat_before h a) b (pat_before h c)

  lpat_before : {a : Pattern} {ts rest more : List Terminal} → MayFollow more → Lpat a ts rest → Lpat a (ts ++ more) (rest ++ more)
  lpat_before h (lpat_one a) = lpat_one (apat_before h a)
  lpat_before h (lpat_apply a b c) = lpat_apply (gcon_before h a) (apat_before h b) (apats_before h c)

  apat_before : {a : Pattern} {ts rest more : List Terminal} → MayFollow more → Apat a ts rest → Apat a (ts ++ more) (rest ++ more)
  apat_before h (apat_var a) = apat_var a
  apat_before h (apat_bound a b c) = apat_bound a b (apat_before h c)
  apat_before h (apat_con a) = apat_con (gcon_before h a)
  apat_before h (apat_literal a) = apat_literal (literal_before h a)
  apat_before h (apat_wild a) = apat_wild a
  apat_before h (apat_paren a b c) = apat_paren a (pat_before h b) c
  apat_before h (apat_tuple a b c d e) = apat_tuple a (pat_before h b) (pat_commas_before h c) d e
  apat_before h (apat_list a b c d) = apat_list a (pat_before h b) (pat_commas_before h c) d
  apat_before h (apat_lazy a b) = apat_lazy a (apat_before h b)

  apats_before : {a : Patterns} {ts rest more : List Terminal} → MayFollow more → Apats a ts rest → Apats a (ts ++ more) (rest ++ more)
  apats_before h apats_none = apats_none
  apats_before h (apats_more a b) = apats_more (apat_before h a) (apats_before h b)

  pat_commas_before : {a : Patterns} {ts rest more : List Terminal} → MayFollow more → PatCommas a ts rest → PatCommas a (ts ++ more) (rest ++ more)
  pat_commas_before h pats_none = pats_none
  pat_commas_before h (pats_more a b c) = pats_more a (pat_before h b) (pat_commas_before h c)

-- ---- expressions and declarations

vars_before : {a : List Identifier} {ts rest more : List Terminal} → MayFollow more → VarCommas a ts rest → VarCommas a (ts ++ more) (rest ++ more)
vars_before h vars_none = vars_none
vars_before h (vars_more a b c) = vars_more a b (vars_before h c)

mutual
  exp_before : {a : Expression} {ts rest more : List Terminal} → MayFollow more → Exp a ts rest → Exp a (ts ++ more) (rest ++ more)
  exp_before h (exp_open a) = exp_open (open_exp_before h a)
  exp_before h (exp_closed a) = exp_closed (closed_before h a)
  exp_before h (exp_typed a b c) = exp_typed (closed_before h a) b (type_before h c)

  closed_before : {a : Expression} {ts rest more : List Terminal} → MayFollow more → ClosedExp a ts rest → ClosedExp a (ts ++ more) (rest ++ more)
  closed_before h (closed_one a) = closed_one (opd_before h a)
  closed_before h (closed_cons a b c) = closed_cons (opd_before h a) b (closed_before h c)

  open_exp_before : {a : Expression} {ts rest more : List Terminal} → MayFollow more → OpenExp a ts rest → OpenExp a (ts ++ more) (rest ++ more)
  open_exp_before h (open_lam a) = open_lam (lam_before h a)
  open_exp_before h (open_cons a b c) = open_cons (opd_before h a) b (open_exp_before h c)

  lam_before : {a : Expression} {ts rest more : List Terminal} → MayFollow more → Lam a ts rest → Lam a (ts ++ more) (rest ++ more)
  lam_before h (lam_fun a b c d e) = lam_fun a (apat_before h b) (apats_before h c) d (exp_before h e)
  lam_before h (lam_let a b c d) = lam_let a (decls_before h b) c (exp_before h d)
  lam_before h (lam_if a b c d e f) = lam_if a (exp_before h b) c (exp_before h d) e (exp_before h f)

  opd_before : {a : Expression} {ts rest more : List Terminal} → MayFollow more → Opd a ts rest → Opd a (ts ++ more) (rest ++ more)
  opd_before h (opd_apply a b) = opd_apply (aexp_before h a) (args_before h b)
  opd_before h (opd_case a b c d e f) = opd_case a (exp_before h b) c d (alts_before h e) f

  args_before : {a : Expression} {b : Expression} {ts rest more : List Terminal} → MayFollow more → Args a b ts rest → Args a b (ts ++ more) (rest ++ more)
  args_before h args_none = args_none
  args_before h (args_more a b) = args_more (aexp_before h a) (args_before h b)

  guard_before : {a : Expression} {ts rest more : List Terminal} → MayFollow more → Guard a ts rest → Guard a (ts ++ more) (rest ++ more)
  guard_before h (guard_open a) = guard_open (open_exp_before h a)
  guard_before h (guard_closed a) = guard_closed (closed_before h a)

  guards_before : {a : Symbol} {b : Bodies} {ts rest more : List Terminal} → MayFollow more → Guards a b ts rest → Guards a b (ts ++ more) (rest ++ more)
  guards_before h guards_none = guards_none
  guards_before h (guards_more a b c d e) = guards_more a (guard_before h b) c (exp_before h d) (guards_before h e)

  rhs_before : {a : Symbol} {b : RightSide} {ts rest more : List Terminal} → MayFollow more → Rhs' a b ts rest → Rhs' a b (ts ++ more) (rest ++ more)
  rhs_before h (rhs_plain a b c) = rhs_plain a (exp_before h b) (where_part_before h c)
  rhs_before h (rhs_guards a b) = rhs_guards (guards_before h a) (where_part_before h b)

  where_part_before : {a : Declarations} {ts rest more : List Terminal} → MayFollow more → MayWhere a ts rest → MayWhere a (ts ++ more) (rest ++ more)
  where_part_before h no_where = no_where
  where_part_before h (some_where a b) = some_where a (decls_before h b)

  alt_before : {a : Alternative} {ts rest more : List Terminal} → MayFollow more → Alt' a ts rest → Alt' a (ts ++ more) (rest ++ more)
  alt_before h (alt' a b) = alt' (pat_before h a) (rhs_before h b)

  alts_before : {a : Alternatives} {ts rest more : List Terminal} → MayFollow more → Alts a ts rest → Alts a (ts ++ more) (rest ++ more)
  alts_before h alts_none = alts_none
  alts_before h (alts_last a) = alts_last (alt_before h a)
  alts_before h (alts_empty a b) = alts_empty a (alts_before h b)
  alts_before h (alts_more a b c) = alts_more (alt_before h a) b (alts_before h c)

  aexp_before : {a : Expression} {ts rest more : List Terminal} → MayFollow more → Aexp a ts rest → Aexp a (ts ++ more) (rest ++ more)
  aexp_before h (aexp_var a) = aexp_var a
  aexp_before h (aexp_con a) = aexp_con (gcon_before h a)
  aexp_before h (aexp_literal a) = aexp_literal (literal_before h a)
  aexp_before h (aexp_paren a b c) = aexp_paren a (exp_before h b) c
  aexp_before h (aexp_tuple a b c d e) = aexp_tuple a (exp_before h b) (exp_commas_before h c) d e
  aexp_before h (aexp_list a b c d) = aexp_list a (exp_before h b) (exp_commas_before h c) d

  exp_commas_before : {a : Expressions} {ts rest more : List Terminal} → MayFollow more → ExpCommas a ts rest → ExpCommas a (ts ++ more) (rest ++ more)
  exp_commas_before h exps_none = exps_none
  exp_commas_before h (exps_more a b c) = exps_more a (exp_before h b) (exp_commas_before h c)

  decls_before : {a : Declarations} {ts rest more : List Terminal} → MayFollow more → Decls a ts rest → Decls a (ts ++ more) (rest ++ more)
  decls_before h (decls a b c) = decls a (decl_items_before h b) c

  decl_items_before : {a : Declarations} {ts rest more : List Terminal} → MayFollow more → DeclItems a ts rest → DeclItems a (ts ++ more) (rest ++ more)
  decl_items_before h decls_none = decls_none
  decl_items_before h (decls_last a) = decls_last (decl_before h a)
  decl_items_before h (decls_empty a b) = decls_empty a (decl_items_before h b)
  decl_items_before h (decls_more a b c) = decls_more (decl_before h a) b (decl_items_before h c)

  decl_before : {a : Declaration} {ts rest more : List Terminal} → MayFollow more → Decl a ts rest → Decl a (ts ++ more) (rest ++ more)
  decl_before h (decl_signature a b c d) = decl_signature a (vars_before h b) c (type_before h d)
  decl_before h (decl_clause a b c) = decl_clause a (apats_before h b) (rhs_before h c)
  decl_before h (decl_pattern a b c) = decl_pattern (pat_before h a) b (rhs_before h c)
  decl_before h (decl_variable a b) = decl_variable (pat_before h a) (rhs_before h b)

topdecl_before : {a : Declaration} {ts rest more : List Terminal} → MayFollow more → Topdecl a ts rest → Topdecl a (ts ++ more) (rest ++ more)
topdecl_before h (topdecl_data a) = topdecl_data (data_declaration_before h a)
topdecl_before h (topdecl_newtype a) = topdecl_newtype (newtype_declaration_before h a)
topdecl_before h (topdecl_synonym a) = topdecl_synonym (synonym_before h a)
topdecl_before h (topdecl_decl a) = topdecl_decl (decl_before h a)

-- ---- modules

body_before : {a : List Import} {b : List Declaration} {ts rest more : List Terminal} → MayFollow more → Body a b ts rest → Body a b (ts ++ more) (rest ++ more)
body_before {more = m} h (body_decls a) = body_decls (items_before m (λ x ts rest d. topdecl_before h d) a)
body_before h (body_import a) = body_import (import_before h a)
body_before h (body_empty a b) = body_empty a (body_before h b)
body_before h (body_more a b c) = body_more (import_before h a) b (body_before h c)

module_before : {a : Module} {ts rest more : List Terminal} → MayFollow more → Module' a ts rest → Module' a (ts ++ more) (rest ++ more)
module_before h («module» a b c d e f g) = «module» a b (exports_before h c) d e (body_before h f) g

-- no arrow stands before modules
modules_follow : {ms : List Module} {ts : List Terminal} → Source ms ts → MayFollow ts
modules_follow source_none = record { no_arrow = tt }
modules_follow (source_more («module» a b c d e f g) t) = record { no_arrow = λ i. let clash : ModuleWord ≡ Arrow = sym a ∙ i in cc }

-- one list of modules behind the other
pub sources_join : {ms ns : List Module} {ts us : List Terminal} → Source ms ts → Source ns us → Source (ms ++ ns) (ts ++ us)
sources_join source_none e = e
sources_join (source_more d t) e = source_more (module_before (modules_follow e) d) (sources_join t e)
