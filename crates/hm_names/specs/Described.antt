-- Descriptions of type constructors and constructors. If an entity has several descriptions, the first counts: the module's own definition comes
-- first, then Prelude's interface, then the other interfaces in order.
use Rattle.std.specs.Prelude.{ℕ, cond, List, [], ◌∷◌, ◌++◌, map, length, Option, None, Some}
use Rattle.hm_types.specs.declared.Entity.{Entity}
use Rattle.hm_types.specs.Interfaces.{Exports as Interface}
use Rattle.hm_types.specs.Synonyms.{TypeSynonym}
use Rattle.hm_syntax.specs.Names.{Identifier}
use Rattle.hm_syntax.specs.Trees.{TypeTree, DataConstructor, data_constructor, Declaration, data_declaration, newtype_declaration, synonym_declaration, signature, clause, pattern_binding}
use Rattle.hm_names.specs.Texts.{same_entity}
use Rattle.hm_names.specs.Variables.{type_count}
use Rattle.hm_names.specs.Entities.{constructor_list, named}

-- the first element of a list whose entity is e
abbrev pub first_of : {X : Type 0} → (X → Entity) → Entity → List X → Option X
first_of of e [] = None
first_of of e (x ∷ xs) = cond (same_entity e (of x)) (Some x) (first_of of e xs)

-- types (Report 4.2.1 to 4.2.3): a data type or newtype with its number of parameters; a declared synonym with its parameters and its right side;
-- or a synonym of an interface
pub data TypeMeaning : Type 0 where
  algebraic : ℕ → TypeMeaning
  declared_synonym : List Identifier → TypeTree → TypeMeaning
  imported_synonym : TypeSynonym → TypeMeaning

-- its number of arguments
abbrev pub arity : TypeMeaning → ℕ
arity (algebraic k) = k
arity (declared_synonym ps t) = length ps
arity (imported_synonym s) = s.parameters

pub record TypeDescription : Type 0 where
  pub entity : Entity
  pub meaning : TypeMeaning

-- the types that the module of that name declares
abbrev pub declared_types : List ℕ → List Declaration → List TypeDescription
declared_types m [] = []
declared_types m (data_declaration n ps cs ∷ ds) = record { entity = named m n.text; meaning = algebraic (length ps) } ∷ declared_types m ds
declared_types m (newtype_declaration n ps c ∷ ds) = record { entity = named m n.text; meaning = algebraic (length ps) } ∷ declared_types m ds
declared_types m (synonym_declaration n ps t ∷ ds) = record { entity = named m n.text; meaning = declared_synonym ps t } ∷ declared_types m ds
declared_types m (signature ns t ∷ ds) = declared_types m ds
declared_types m (clause n ps r ∷ ds) = declared_types m ds
declared_types m (pattern_binding line column p r ∷ ds) = declared_types m ds

abbrev pub imported_types : List Interface → List TypeDescription
imported_types [] = []
imported_types (f ∷ fs) =
    map (λ r. record { entity = r.entity; meaning = algebraic r.arity }) f.types
    ++ (map (λ r. record { entity = r.entity; meaning = imported_synonym r.synonym }) f.synonyms ++ imported_types fs)

-- the description of the type constructor e
abbrev pub type_meant : List ℕ → List Declaration → List Interface → Entity → Option TypeDescription
type_meant m ds fs e = first_of (λ d. d.entity) e (declared_types m ds ++ imported_types fs)

-- constructors (Report 4.2.1, 4.2.3): the type constructor, and the number of arguments
pub record ConstructorDescription : Type 0 where
  pub entity : Entity
  pub owner : Entity
  pub arguments : ℕ

abbrev pub described : List ℕ → Identifier → DataConstructor → ConstructorDescription
described m t (data_constructor n ts) = record { entity = named m n.text; owner = named m t.text; arguments = type_count ts }

abbrev pub declared_constructors : List ℕ → List Declaration → List ConstructorDescription
declared_constructors m [] = []
declared_constructors m (data_declaration n ps cs ∷ ds) = map (described m n) (constructor_list cs) ++ declared_constructors m ds
declared_constructors m (newtype_declaration n ps c ∷ ds) = described m n c ∷ declared_constructors m ds
declared_constructors m (synonym_declaration n ps t ∷ ds) = declared_constructors m ds
declared_constructors m (signature ns t ∷ ds) = declared_constructors m ds
declared_constructors m (clause n ps r ∷ ds) = declared_constructors m ds
declared_constructors m (pattern_binding line column p r ∷ ds) = declared_constructors m ds

abbrev pub imported_constructors : List Interface → List ConstructorDescription
imported_constructors [] = []
imported_constructors (f ∷ fs) = map (λ r. record { entity = r.entity; owner = r.owner; arguments = r.arguments }) f.constructors ++ imported_constructors fs

-- the description of the constructor e
abbrev pub constructor_meant : List ℕ → List Declaration → List Interface → Entity → Option ConstructorDescription
constructor_meant m ds fs e = first_of (λ d. d.entity) e (declared_constructors m ds ++ imported_constructors fs)
