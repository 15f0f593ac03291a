-- The types of a core (Report 4.2.2): each type constructor is the entity that it means in the module, and a synonym is its right side.
use Rattle.std.specs.Prelude.{◌≡◌, ℕ, List, Option, None, Some}
use Rattle.std.specs.List.{AllZip}
use Rattle.hm_types.specs.declared.Entity.{Entity}
use Rattle.hm_types.specs.Interfaces.{Exports as Interface}
use Rattle.hm_types.specs.Synonyms.{TypeSynonym}
use Rattle.hm_syntax.specs.Names.{Identifier}
use Rattle.hm_syntax.specs.Trees.{TypeTree, variable_type, constructor_type, function_type, tuple_type, list_type, unit_type, TypeTrees, no_types, more_types, DataConstructor, data_constructor, DataConstructors, no_constructors, more_constructors, Pattern, Patterns, RightSide, Declaration, data_declaration, newtype_declaration, synonym_declaration, signature, clause, pattern_binding}
use Rattle.hm_syntax.specs.declared.ast.Module.{Module}
use Rattle.hm_names.specs.declared.namespace.Namespace.TheVariants.{Types}
use Rattle.hm_names.specs.Described.{TypeDescription, TypeMeaning, algebraic, declared_synonym, imported_synonym, type_meant}
use Rattle.hm_names.specs.Expansion.{as_entity, expanded}
use Rattle.hm_names.specs.Types.{synonym_of}
use Rattle.hm_uses.specs.Uses.{ByScope, an_entity}

-- the synonyms among entities, with their right sides
abbrev pub Synonyms : Type 0
Synonyms = Entity → Option TypeSynonym

-- the type that a core has in place of a written one. In place of a synonym it has the right side with the types of the arguments
mutual
  pub data IsTypeThere (m : Module) (fs : List Interface) (s : Synonyms) : TypeTree → TypeTree → Type 0 where
    a_variable : {n : Identifier} → IsTypeThere m fs s (variable_type n) (variable_type n)
    a_constructor : {n : Identifier} {ts us : TypeTrees} {e : Entity} {u : TypeTree} → ByScope m fs Types n (an_entity e) → AreTypesThere m fs s ts us → u ≡ expanded (s e) (as_entity n e) us → IsTypeThere m fs s (constructor_type n ts) u
    a_function : {t v u w : TypeTree} → IsTypeThere m fs s t u → IsTypeThere m fs s v w → IsTypeThere m fs s (function_type t v) (function_type u w)
    a_tuple : {ts us : TypeTrees} → AreTypesThere m fs s ts us → IsTypeThere m fs s (tuple_type ts) (tuple_type us)
    a_list : {t u : TypeTree} → IsTypeThere m fs s t u → IsTypeThere m fs s (list_type t) (list_type u)
    the_unit : IsTypeThere m fs s unit_type unit_type

  pub data AreTypesThere (m : Module) (fs : List Interface) (s : Synonyms) : TypeTrees → TypeTrees → Type 0 where
    none : AreTypesThere m fs s no_types no_types
    more : {t u : TypeTree} {ts us : TypeTrees} → IsTypeThere m fs s t u → AreTypesThere m fs s ts us → AreTypesThere m fs s (more_types t ts) (more_types u us)

-- what an entity is as a synonym: nothing, the right side of its declaration as it is in the core, or that of an interface
pub data IsSynonymThere (m : Module) (fs : List Interface) (s : Synonyms) : TypeMeaning → Option TypeSynonym → Type 0 where
  no_synonym : {k : ℕ} → IsSynonymThere m fs s (algebraic k) None
  declared : {ps : List Identifier} {t u : TypeTree} {o : Option TypeSynonym} → IsTypeThere m fs s t u → o ≡ Some (synonym_of ps u) → IsSynonymThere m fs s (declared_synonym ps t) o
  imported : {y : TypeSynonym} → IsSynonymThere m fs s (imported_synonym y) (Some y)

abbrev pub AreSynonymsOf : Module → List Interface → Synonyms → Type 0
AreSynonymsOf m fs s = (e : Entity) (d : TypeDescription) → type_meant m.header.name.text m.decls fs e ≡ Some d → IsSynonymThere m fs s d.meaning (s e)

-- k is at the place of n
abbrev pub IsAt : Identifier → Identifier → Type 0
IsAt n k = (k.line ≡ n.line) × (k.column ≡ n.column)

-- a constructor with the types of its arguments
pub data IsConstructorThere (m : Module) (fs : List Interface) (s : Synonyms) : DataConstructor → DataConstructor → Type 0 where
  with_types : {n k : Identifier} {ts us : TypeTrees} → IsAt n k → AreTypesThere m fs s ts us → IsConstructorThere m fs s (data_constructor n ts) (data_constructor k us)

pub data AreConstructorsThere (m : Module) (fs : List Interface) (s : Synonyms) : DataConstructors → DataConstructors → Type 0 where
  none : AreConstructorsThere m fs s no_constructors no_constructors
  more : {b d : DataConstructor} {bs ds : DataConstructors} → IsConstructorThere m fs s b d → AreConstructorsThere m fs s bs ds → AreConstructorsThere m fs s (more_constructors b bs) (more_constructors d ds)

-- a declaration with its types. A synonym that isn't exported has no right side. Clauses and pattern bindings have no types of their own
pub data HasItsTypes (m : Module) (fs : List Interface) (s : Synonyms) : Declaration → Declaration → Type 0 where
  a_data_type : {n k : Identifier} {ps : List Identifier} {bs ds : DataConstructors} → IsAt n k → AreConstructorsThere m fs s bs ds → HasItsTypes m fs s (data_declaration n ps bs) (data_declaration k ps ds)
  a_newtype : {n k : Identifier} {ps : List Identifier} {b d : DataConstructor} → IsAt n k → IsConstructorThere m fs s b d → HasItsTypes m fs s (newtype_declaration n ps b) (newtype_declaration k ps d)
  a_synonym : {n k : Identifier} {ps : List Identifier} {t u : TypeTree} → IsAt n k → IsTypeThere m fs s t u → HasItsTypes m fs s (synonym_declaration n ps t) (synonym_declaration k ps u)
  a_hidden_synonym : {n k : Identifier} {ps : List Identifier} {t : TypeTree} → IsAt n k → HasItsTypes m fs s (synonym_declaration n ps t) (synonym_declaration k ps unit_type)
  a_signature : {ns ks : List Identifier} {t u : TypeTree} → AllZip IsAt ns ks → IsTypeThere m fs s t u → HasItsTypes m fs s (signature ns t) (signature ks u)
  a_clause : {n k : Identifier} {ps qs : Patterns} {g h : RightSide} → HasItsTypes m fs s (clause n ps g) (clause k qs h)
  a_pattern_binding : {line column : ℕ} {p q : Pattern} {g h : RightSide} → HasItsTypes m fs s (pattern_binding line column p g) (pattern_binding line column q h)
