-- The names that are written in a module, in the order of its text (Report 1.4: the kinds of names).
use Rattle.std.specs.Prelude.{Bool, true, false, cond, List, [], ◌∷◌, ◌++◌, map, Option, None, Some}
use Rattle.hm_syntax.specs.Names.{Identifier}
use Rattle.hm_syntax.specs.Trees.{TypeTree, variable_type, constructor_type, function_type, tuple_type, list_type, unit_type, TypeTrees, no_types, more_types, DataConstructor, data_constructor, DataConstructors, no_constructors, more_constructors, Pattern, variable_pattern, bound_pattern, constructor_pattern, literal_pattern, wildcard_pattern, tuple_pattern, list_pattern, lazy_pattern, Patterns, no_patterns, more_patterns, Expression, variable_expression, constructor_expression, literal_expression, application, lambda, let_expression, if_expression, case_expression, tuple_expression, list_expression, typed_expression, Expressions, no_expressions, more_expressions, Declaration, data_declaration, newtype_declaration, synonym_declaration, signature, clause, pattern_binding, Declarations, no_declarations, more_declarations, RightSide, right_side, Bodies, no_bodies, plain_body, guarded_body, alternative, Alternatives, no_alternatives, more_alternatives}
use Rattle.hm_syntax.specs.Lists.{declarations}
use Rattle.hm_syntax.specs.declared.ast.Module.{Module}
use Rattle.hm_syntax.specs.declared.ast.Export.{Export}
use Rattle.hm_syntax.specs.declared.ast.Export.TheVariants as export
use Rattle.hm_syntax.specs.declared.ast.Import.{Import}
use Rattle.hm_syntax.specs.declared.ast.ImportItem.{ImportItem}
use Rattle.hm_syntax.specs.declared.ast.ImportItem.TheVariants as item
use Rattle.hm_syntax.specs.declared.ast.ImportList.{ImportList}
use Rattle.hm_syntax.specs.declared.ast.ImportList.TheVariants as list
use Rattle.hm_syntax.specs.declared.ast.SubItems.{SubItems}
use Rattle.hm_syntax.specs.declared.ast.SubItems.TheVariants as subs
use Rattle.hm_names.specs.Found.{is_special}
use Rattle.hm_uses.specs.declared.name_kind.NameKind.{NameKind}
use Rattle.hm_uses.specs.declared.name_kind.NameKind.TheVariants.{Variable, Constructor, TypeVariable, TypeConstructor, ModuleName}

-- a name that is written, its kind, and whether it is bound or declared there
pub record Mention : Type 0 where
  pub name : Identifier
  pub kind : NameKind
  pub binds : Bool

abbrev pub mention : NameKind → Bool → Identifier → List Mention
mention k b n = record { name = n; kind = k; binds = b } ∷ []

abbrev pub mentions : NameKind → Bool → List Identifier → List Mention
mentions k b ns = map (λ n. record { name = n; kind = k; binds = b }) ns

-- the special constructors (), [], (:) and those of tuples are syntax, and no names
abbrev pub constructor_mention : Identifier → List Mention
constructor_mention n = cond (is_special n) [] (mention Constructor false n)

abbrev mutual
  pub type_mentions : TypeTree → List Mention
  type_mentions (variable_type n) = mention TypeVariable false n
  type_mentions (constructor_type n ts) = mention TypeConstructor false n ++ types_mentions ts
  type_mentions (function_type a b) = type_mentions a ++ type_mentions b
  type_mentions (tuple_type ts) = types_mentions ts
  type_mentions (list_type t) = type_mentions t
  type_mentions unit_type = []

  pub types_mentions : TypeTrees → List Mention
  types_mentions no_types = []
  types_mentions (more_types t ts) = type_mentions t ++ types_mentions ts

abbrev pub declared_constructor_mentions : DataConstructor → List Mention
declared_constructor_mentions (data_constructor n ts) = mention Constructor true n ++ types_mentions ts

abbrev pub declared_constructors_mentions : DataConstructors → List Mention
declared_constructors_mentions no_constructors = []
declared_constructors_mentions (more_constructors c cs) = declared_constructor_mentions c ++ declared_constructors_mentions cs

abbrev mutual
  pub pattern_mentions : Pattern → List Mention
  pattern_mentions (variable_pattern n) = mention Variable true n
  pattern_mentions (bound_pattern n p) = mention Variable true n ++ pattern_mentions p
  pattern_mentions (constructor_pattern n ps) = constructor_mention n ++ patterns_mentions ps
  pattern_mentions (literal_pattern l) = []
  pattern_mentions wildcard_pattern = []
  pattern_mentions (tuple_pattern ps) = patterns_mentions ps
  pattern_mentions (list_pattern ps) = patterns_mentions ps
  pattern_mentions (lazy_pattern p) = pattern_mentions p

  pub patterns_mentions : Patterns → List Mention
  patterns_mentions no_patterns = []
  patterns_mentions (more_patterns p ps) = pattern_mentions p ++ patterns_mentions ps

abbrev mutual
  pub expression_mentions : Expression → List Mention
  expression_mentions (variable_expression n) = mention Variable false n
  expression_mentions (constructor_expression n) = constructor_mention n
  expression_mentions (literal_expression l) = []
  expression_mentions (application f e) = expression_mentions f ++ expression_mentions e
  expression_mentions (lambda ps e) = patterns_mentions ps ++ expression_mentions e
  expression_mentions (let_expression ds e) = declarations_mentions ds ++ expression_mentions e
  expression_mentions (if_expression a b c) = expression_mentions a ++ (expression_mentions b ++ expression_mentions c)
  expression_mentions (case_expression e bs) = expression_mentions e ++ alternatives_mentions bs
  expression_mentions (tuple_expression es) = expressions_mentions es
  expression_mentions (list_expression es) = expressions_mentions es
  expression_mentions (typed_expression e t) = expression_mentions e ++ type_mentions t

  pub expressions_mentions : Expressions → List Mention
  expressions_mentions no_expressions = []
  expressions_mentions (more_expressions e es) = expression_mentions e ++ expressions_mentions es

  pub alternatives_mentions : Alternatives → List Mention
  alternatives_mentions no_alternatives = []
  alternatives_mentions (more_alternatives (alternative p r) bs) = (pattern_mentions p ++ right_side_mentions r) ++ alternatives_mentions bs

  pub right_side_mentions : RightSide → List Mention
  right_side_mentions (right_side gs ds) = bodies_mentions gs ++ declarations_mentions ds

  pub bodies_mentions : Bodies → List Mention
  bodies_mentions no_bodies = []
  bodies_mentions (plain_body e gs) = expression_mentions e ++ bodies_mentions gs
  bodies_mentions (guarded_body g e gs) = (expression_mentions g ++ expression_mentions e) ++ bodies_mentions gs

  pub declarations_mentions : Declarations → List Mention
  declarations_mentions no_declarations = []
  declarations_mentions (more_declarations d ds) = declaration_mentions d ++ declarations_mentions ds

  pub declaration_mentions : Declaration → List Mention
  declaration_mentions (data_declaration n ps cs) = mention TypeConstructor true n ++ (mentions TypeVariable true ps ++ declared_constructors_mentions cs)
  declaration_mentions (newtype_declaration n ps c) = mention TypeConstructor true n ++ (mentions TypeVariable true ps ++ declared_constructor_mentions c)
  declaration_mentions (synonym_declaration n ps t) = mention TypeConstructor true n ++ (mentions TypeVariable true ps ++ type_mentions t)
  declaration_mentions (signature ns t) = mentions Variable false ns ++ type_mentions t
  declaration_mentions (clause n ps r) = mention Variable true n ++ (patterns_mentions ps ++ right_side_mentions r)
  declaration_mentions (pattern_binding line column p r) = pattern_mentions p ++ right_side_mentions r

-- The header

abbrev pub sub_mentions : SubItems → List Mention
sub_mentions subs.None = []
sub_mentions subs.All = []
sub_mentions (subs.Some cs) = mentions Constructor false cs

abbrev pub export_mentions : Export → List Mention
export_mentions (export.Var n) = mention Variable false n
export_mentions (export.Con n s) = mention TypeConstructor false n ++ sub_mentions s
export_mentions (export.Whole n) = mention ModuleName false n

abbrev pub exports_mentions : List Export → List Mention
exports_mentions [] = []
exports_mentions (i ∷ is) = export_mentions i ++ exports_mentions is

abbrev pub export_list_mentions : Option (List Export) → List Mention
export_list_mentions None = []
export_list_mentions (Some is) = exports_mentions is

abbrev pub item_mentions : ImportItem → List Mention
item_mentions (item.Var n) = mention Variable false n
item_mentions (item.Con n s) = mention TypeConstructor false n ++ sub_mentions s

abbrev pub items_mentions : List ImportItem → List Mention
items_mentions [] = []
items_mentions (i ∷ is) = item_mentions i ++ items_mentions is

-- after `hiding`, a name without a list is that of a type and of a constructor: it is mentioned as both
abbrev pub hidden_mentions : ImportItem → List Mention
hidden_mentions (item.Var n) = mention Variable false n
hidden_mentions (item.Con n subs.None) = mention TypeConstructor false n ++ mention Constructor false n
hidden_mentions (item.Con n subs.All) = mention TypeConstructor false n
hidden_mentions (item.Con n (subs.Some cs)) = mention TypeConstructor false n ++ mentions Constructor false cs

abbrev pub all_hidden_mentions : List ImportItem → List Mention
all_hidden_mentions [] = []
all_hidden_mentions (i ∷ is) = hidden_mentions i ++ all_hidden_mentions is

abbrev pub list_mentions : ImportList → List Mention
list_mentions list.Every = []
list_mentions (list.Only is) = items_mentions is
list_mentions (list.Hiding is) = all_hidden_mentions is

abbrev pub alias_mentions : Option Identifier → List Mention
alias_mentions None = []
alias_mentions (Some n) = mention ModuleName true n

abbrev pub import_mentions : Import → List Mention
import_mentions i = mention ModuleName false i.name ++ (alias_mentions i.alias ++ list_mentions i.list)

abbrev pub imports_mentions : List Import → List Mention
imports_mentions [] = []
imports_mentions (i ∷ is) = import_mentions i ++ imports_mentions is

-- all names of a module
abbrev pub names_of : Module → List Mention
names_of m = mention ModuleName true m.header.name ++ (export_list_mentions m.header.exports ++ (imports_mentions m.header.imports ++ declarations_mentions (declarations m.decls)))
