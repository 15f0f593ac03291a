-- What is bound around each part of a module (Report 3.3, 3.12, 3.13, 4.2, 4.4.1, 4.4.3).
use Rattle.std.specs.Prelude.{ℕ, List, [], ◌++◌}
use Rattle.hm_syntax.specs.Names.{Identifier}
use Rattle.hm_syntax.specs.Trees.{TypeTree, constructor_type, function_type, tuple_type, list_type, TypeTrees, more_types, DataConstructor, data_constructor, DataConstructors, more_constructors, Pattern, bound_pattern, constructor_pattern, tuple_pattern, list_pattern, lazy_pattern, Patterns, more_patterns, Expression, application, lambda, let_expression, if_expression, case_expression, tuple_expression, list_expression, typed_expression, Expressions, more_expressions, Declaration, data_declaration, newtype_declaration, synonym_declaration, signature, clause, pattern_binding, Declarations, more_declarations, RightSide, right_side, Bodies, plain_body, guarded_body, alternative, Alternatives, more_alternatives}
use Rattle.hm_syntax.specs.Lists.{declarations}
use Rattle.hm_syntax.specs.declared.ast.Module.{Module}
use Rattle.hm_names.specs.Variables.{pattern_variables, patterns_variables, type_variables, bound_names}

-- binders of local variables, the innermost first; of one group the first in the text first
abbrev pub Around : Type 0
Around = List Identifier

-- what the variables of a declaration list or of patterns are: entities at the top of the module, or else local variables, which these binders bind
pub data Home : Type 0 where
  at_top : Home
  local_to : List Identifier → Home

-- the parts of a module. A type stands with the binders of its type variables
pub data Part : Type 0 where
  a_type : List Identifier → TypeTree → Part
  some_types : List Identifier → TypeTrees → Part
  a_constructor : List Identifier → DataConstructor → Part
  some_constructors : List Identifier → DataConstructors → Part
  a_pattern : Home → Pattern → Part
  some_patterns : Home → Patterns → Part
  an_expression : Expression → Part
  some_expressions : Expressions → Part
  some_alternatives : Alternatives → Part
  a_right_side : RightSide → Part
  some_bodies : Bodies → Part
  a_declaration : Home → Declaration → Part
  some_declarations : Home → Declarations → Part

-- In m xs p: p is a part of the module m, and the binders xs are around it
pub data In (m : Module) : Around → Part → Type 0 where
  -- the module is a declaration list, and no local variable is around it (4.4.3, 5.1)
  top : In m [] (some_declarations at_top (declarations m.decls))
  first_declaration : {xs : Around} {h : Home} {d : Declaration} {ds : Declarations} → In m xs (some_declarations h (more_declarations d ds)) → In m xs (a_declaration h d)
  later_declarations : {xs : Around} {h : Home} {d : Declaration} {ds : Declarations} → In m xs (some_declarations h (more_declarations d ds)) → In m xs (some_declarations h ds)
  -- the parameters of a type's declaration are bound in its constructors or its right side (4.2)
  data_constructors : {xs : Around} {h : Home} {n : Identifier} {ps : List Identifier} {cs : DataConstructors} → In m xs (a_declaration h (data_declaration n ps cs)) → In m xs (some_constructors ps cs)
  newtype_constructor : {xs : Around} {h : Home} {n : Identifier} {ps : List Identifier} {c : DataConstructor} → In m xs (a_declaration h (newtype_declaration n ps c)) → In m xs (a_constructor ps c)
  synonym_type : {xs : Around} {h : Home} {n : Identifier} {ps : List Identifier} {t : TypeTree} → In m xs (a_declaration h (synonym_declaration n ps t)) → In m xs (a_type ps t)
  first_constructor : {xs : Around} {vs : List Identifier} {c : DataConstructor} {cs : DataConstructors} → In m xs (some_constructors vs (more_constructors c cs)) → In m xs (a_constructor vs c)
  later_constructors : {xs : Around} {vs : List Identifier} {c : DataConstructor} {cs : DataConstructors} → In m xs (some_constructors vs (more_constructors c cs)) → In m xs (some_constructors vs cs)
  arguments : {xs : Around} {vs : List Identifier} {n : Identifier} {ts : TypeTrees} → In m xs (a_constructor vs (data_constructor n ts)) → In m xs (some_types vs ts)
  -- a type signature binds its own type variables, each at its first place (4.4.1)
  signature_type : {xs : Around} {h : Home} {ns : List Identifier} {t : TypeTree} → In m xs (a_declaration h (signature ns t)) → In m xs (a_type (type_variables t) t)
  annotation : {xs : Around} {e : Expression} {t : TypeTree} → In m xs (an_expression (typed_expression e t)) → In m xs (a_type (type_variables t) t)
  -- the variables of a clause's patterns are around its right side; the patterns bind them (4.4.3.1)
  clause_patterns : {xs : Around} {h : Home} {n : Identifier} {ps : Patterns} {r : RightSide} → In m xs (a_declaration h (clause n ps r)) → In m xs (some_patterns (local_to (patterns_variables ps)) ps)
  clause_side : {xs : Around} {h : Home} {n : Identifier} {ps : Patterns} {r : RightSide} → In m xs (a_declaration h (clause n ps r)) → In m (patterns_variables ps ++ xs) (a_right_side r)
  -- the variables of a pattern binding are those of its list (4.4.3.2)
  matched_pattern : {xs : Around} {h : Home} {l c : ℕ} {p : Pattern} {r : RightSide} → In m xs (a_declaration h (pattern_binding l c p r)) → In m xs (a_pattern h p)
  matched_side : {xs : Around} {h : Home} {l c : ℕ} {p : Pattern} {r : RightSide} → In m xs (a_declaration h (pattern_binding l c p r)) → In m xs (a_right_side r)
  -- where: its list scopes over all guards and right sides, and over itself (3.13, 4.4.3)
  guarded : {xs : Around} {gs : Bodies} {ds : Declarations} → In m xs (a_right_side (right_side gs ds)) → In m (bound_names ds ++ xs) (some_bodies gs)
  where_list : {xs : Around} {gs : Bodies} {ds : Declarations} → In m xs (a_right_side (right_side gs ds)) → In m (bound_names ds ++ xs) (some_declarations (local_to (bound_names ds)) ds)
  plain : {xs : Around} {e : Expression} {gs : Bodies} → In m xs (some_bodies (plain_body e gs)) → In m xs (an_expression e)
  after_plain : {xs : Around} {e : Expression} {gs : Bodies} → In m xs (some_bodies (plain_body e gs)) → In m xs (some_bodies gs)
  guard : {xs : Around} {g e : Expression} {gs : Bodies} → In m xs (some_bodies (guarded_body g e gs)) → In m xs (an_expression g)
  after_guard : {xs : Around} {g e : Expression} {gs : Bodies} → In m xs (some_bodies (guarded_body g e gs)) → In m xs (an_expression e)
  other_bodies : {xs : Around} {g e : Expression} {gs : Bodies} → In m xs (some_bodies (guarded_body g e gs)) → In m xs (some_bodies gs)
  -- the variables of a lambda's patterns are around its body (3.3)
  lambda_patterns : {xs : Around} {ps : Patterns} {e : Expression} → In m xs (an_expression (lambda ps e)) → In m xs (some_patterns (local_to (patterns_variables ps)) ps)
  lambda_body : {xs : Around} {ps : Patterns} {e : Expression} → In m xs (an_expression (lambda ps e)) → In m (patterns_variables ps ++ xs) (an_expression e)
  -- let: its list scopes over its body, and over itself (3.12)
  let_list : {xs : Around} {ds : Declarations} {e : Expression} → In m xs (an_expression (let_expression ds e)) → In m (bound_names ds ++ xs) (some_declarations (local_to (bound_names ds)) ds)
  let_body : {xs : Around} {ds : Declarations} {e : Expression} → In m xs (an_expression (let_expression ds e)) → In m (bound_names ds ++ xs) (an_expression e)
  -- the variables of an alternative's pattern are around its right side (3.13)
  scrutinee : {xs : Around} {e : Expression} {bs : Alternatives} → In m xs (an_expression (case_expression e bs)) → In m xs (an_expression e)
  alternatives : {xs : Around} {e : Expression} {bs : Alternatives} → In m xs (an_expression (case_expression e bs)) → In m xs (some_alternatives bs)
  alternative_pattern : {xs : Around} {p : Pattern} {r : RightSide} {bs : Alternatives} → In m xs (some_alternatives (more_alternatives (alternative p r) bs)) → In m xs (a_pattern (local_to (pattern_variables p)) p)
  alternative_side : {xs : Around} {p : Pattern} {r : RightSide} {bs : Alternatives} → In m xs (some_alternatives (more_alternatives (alternative p r) bs)) → In m (pattern_variables p ++ xs) (a_right_side r)
  later_alternatives : {xs : Around} {p : Pattern} {r : RightSide} {bs : Alternatives} → In m xs (some_alternatives (more_alternatives (alternative p r) bs)) → In m xs (some_alternatives bs)
  -- all other parts have around them what the whole has
  function : {xs : Around} {f e : Expression} → In m xs (an_expression (application f e)) → In m xs (an_expression f)
  argument : {xs : Around} {f e : Expression} → In m xs (an_expression (application f e)) → In m xs (an_expression e)
  condition : {xs : Around} {a b c : Expression} → In m xs (an_expression (if_expression a b c)) → In m xs (an_expression a)
  consequent : {xs : Around} {a b c : Expression} → In m xs (an_expression (if_expression a b c)) → In m xs (an_expression b)
  otherwise : {xs : Around} {a b c : Expression} → In m xs (an_expression (if_expression a b c)) → In m xs (an_expression c)
  components : {xs : Around} {es : Expressions} → In m xs (an_expression (tuple_expression es)) → In m xs (some_expressions es)
  elements : {xs : Around} {es : Expressions} → In m xs (an_expression (list_expression es)) → In m xs (some_expressions es)
  typed : {xs : Around} {e : Expression} {t : TypeTree} → In m xs (an_expression (typed_expression e t)) → In m xs (an_expression e)
  first_expression : {xs : Around} {e : Expression} {es : Expressions} → In m xs (some_expressions (more_expressions e es)) → In m xs (an_expression e)
  later_expressions : {xs : Around} {e : Expression} {es : Expressions} → In m xs (some_expressions (more_expressions e es)) → In m xs (some_expressions es)
  bound : {xs : Around} {h : Home} {n : Identifier} {p : Pattern} → In m xs (a_pattern h (bound_pattern n p)) → In m xs (a_pattern h p)
  constructor_arguments : {xs : Around} {h : Home} {n : Identifier} {ps : Patterns} → In m xs (a_pattern h (constructor_pattern n ps)) → In m xs (some_patterns h ps)
  tuple_components : {xs : Around} {h : Home} {ps : Patterns} → In m xs (a_pattern h (tuple_pattern ps)) → In m xs (some_patterns h ps)
  list_elements : {xs : Around} {h : Home} {ps : Patterns} → In m xs (a_pattern h (list_pattern ps)) → In m xs (some_patterns h ps)
  lazily : {xs : Around} {h : Home} {p : Pattern} → In m xs (a_pattern h (lazy_pattern p)) → In m xs (a_pattern h p)
  first_pattern : {xs : Around} {h : Home} {p : Pattern} {ps : Patterns} → In m xs (some_patterns h (more_patterns p ps)) → In m xs (a_pattern h p)
  later_patterns : {xs : Around} {h : Home} {p : Pattern} {ps : Patterns} → In m xs (some_patterns h (more_patterns p ps)) → In m xs (some_patterns h ps)
  type_arguments : {xs : Around} {vs : List Identifier} {n : Identifier} {ts : TypeTrees} → In m xs (a_type vs (constructor_type n ts)) → In m xs (some_types vs ts)
  domain : {xs : Around} {vs : List Identifier} {a b : TypeTree} → In m xs (a_type vs (function_type a b)) → In m xs (a_type vs a)
  range : {xs : Around} {vs : List Identifier} {a b : TypeTree} → In m xs (a_type vs (function_type a b)) → In m xs (a_type vs b)
  tuple_types : {xs : Around} {vs : List Identifier} {ts : TypeTrees} → In m xs (a_type vs (tuple_type ts)) → In m xs (some_types vs ts)
  element_type : {xs : Around} {vs : List Identifier} {t : TypeTree} → In m xs (a_type vs (list_type t)) → In m xs (a_type vs t)
  first_type : {xs : Around} {vs : List Identifier} {t : TypeTree} {ts : TypeTrees} → In m xs (some_types vs (more_types t ts)) → In m xs (a_type vs t)
  later_types : {xs : Around} {vs : List Identifier} {t : TypeTree} {ts : TypeTrees} → In m xs (some_types vs (more_types t ts)) → In m xs (some_types vs ts)
