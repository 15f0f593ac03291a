-- The variables and constructors of a core, and what they mean there.
use Rattle.std.specs.Prelude.{◌≡◌, ℕ, Bool, true, false, not, List, [], None, Some, Contains, filter}
use Rattle.hm_syntax.specs.Names.{Identifier}
use Rattle.hm_syntax.specs.Trees.{TypeTree, Pattern, variable_pattern, bound_pattern, constructor_pattern, Patterns, variable_expression, constructor_expression, Declaration, signature, clause, RightSide}
use Rattle.hm_syntax.specs.Lists.{declarations}
use Rattle.hm_syntax.specs.declared.ast.Module.{Module}
use Rattle.hm_names.specs.Entities.{named}
use Rattle.hm_names.specs.ModuleCores.{ModuleCore}
use Rattle.hm_uses.specs.declared.name_kind.NameKind.{NameKind}
use Rattle.hm_uses.specs.declared.name_kind.NameKind.TheVariants.{Variable, Constructor, TypeVariable, TypeConstructor, ModuleName}
use Rattle.hm_uses.specs.Mentions.{Mention, declarations_mentions}
use Rattle.hm_uses.specs.Scopes.{Around, Home, at_top, local_to, In, a_pattern, an_expression, a_declaration}
use Rattle.hm_uses.specs.Uses.{IsFirst, Sense, local_variable}
use Rattle.hm_uses.specs.Uses as uses

-- a variable, or a constructor where it is used: the names that the expressions, the patterns, the clauses and the signatures of a module have
abbrev pub is_value_of : NameKind → Bool → Bool
is_value_of Variable binds = true
is_value_of Constructor binds = not binds
is_value_of TypeVariable binds = false
is_value_of TypeConstructor binds = false
is_value_of ModuleName binds = false

abbrev pub is_value : Mention → Bool
is_value u = is_value_of u.kind u.binds

-- those of declarations, in the order of the text
abbrev pub values_of : List Declaration → List Mention
values_of ds = filter is_value (declarations_mentions (declarations ds))

-- the trees of a core, as a module
abbrev pub core_module : Module → ModuleCore → Module
core_module m c = record { header = m.header; decls = c.decls }

-- what a name of a core means: a qualified one is an entity, and a bare one is the local variable that is bound innermost around it
pub data MeansThere (xs : Around) (n : Identifier) : Sense → Type 0 where
  an_entity : {q : List ℕ} → n.qualifier ≡ Some q → MeansThere xs n (uses.an_entity (named q n.text))
  a_local : {b : Identifier} → n.qualifier ≡ None → IsFirst n.text b xs → MeansThere xs n (local_variable b.line b.column)

-- the local variables of the list or the patterns that bind or sign a name
abbrev pub locals_of : Home → Around
locals_of at_top = []
locals_of (local_to bs) = bs

-- a variable or a constructor is written in the trees of a core, binding or not, and means this there
pub data InCore (p : Module) (n : Identifier) : NameKind → Bool → Sense → Type 0 where
  variable : {xs : Around} {t : Sense} → In p xs (an_expression (variable_expression n)) → MeansThere xs n t → InCore p n Variable false t
  constructor : {xs : Around} {t : Sense} → In p xs (an_expression (constructor_expression n)) → MeansThere [] n t → InCore p n Constructor false t
  bound_variable : {xs : Around} {h : Home} {t : Sense} → In p xs (a_pattern h (variable_pattern n)) → MeansThere (locals_of h) n t → InCore p n Variable true t
  as_variable : {xs : Around} {h : Home} {q : Pattern} {t : Sense} → In p xs (a_pattern h (bound_pattern n q)) → MeansThere (locals_of h) n t → InCore p n Variable true t
  matched_constructor : {xs : Around} {h : Home} {ps : Patterns} {t : Sense} → In p xs (a_pattern h (constructor_pattern n ps)) → MeansThere [] n t → InCore p n Constructor false t
  signed : {xs : Around} {h : Home} {ns : List Identifier} {ty : TypeTree} {t : Sense} → In p xs (a_declaration h (signature ns ty)) → Contains ns n → MeansThere (locals_of h) n t → InCore p n Variable false t
  defined : {xs : Around} {h : Home} {ps : Patterns} {r : RightSide} {t : Sense} → In p xs (a_declaration h (clause n ps r)) → MeansThere (locals_of h) n t → InCore p n Variable true t
