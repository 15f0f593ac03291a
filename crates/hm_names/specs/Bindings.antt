-- The scope as a list of bindings.
use Rattle.std.specs.Prelude.{◌≡◌, ℕ, List, [], ◌∷◌, Option, Some, None, Contains, ◌↔◌, ◌⊎◌, Bool, true, false, cond, ◌&&◌}
use Rattle.hm_types.specs.declared.Entity.{Entity}
use Rattle.hm_types.specs.Interfaces.{Exports as Interface}
use Rattle.hm_syntax.specs.Names.{Identifier}
use Rattle.hm_syntax.specs.declared.ast.Module.{Module}
use Rattle.hm_names.specs.declared.namespace.Namespace.{Namespace}
use Rattle.hm_syntax.specs.Trees.{Declaration}
use Rattle.hm_syntax.specs.declared.ast.Import.{Import}
use Rattle.hm_names.specs.Entities.{Declares, DeclaredBy, named, own}
use Rattle.hm_names.specs.declared.namespace.Namespace.TheVariants.{Types, Constructors, Values}
use Rattle.hm_names.specs.Texts.{same_text, same_entity}
use Rattle.hm_names.specs.Scope.{InScope, Brings, known_as}

-- a namespace, a qualifier or none, a text, and an entity
pub record Pair : Type 0 where
  pub space : Namespace
  pub qualifier : Option (List ℕ)
  pub text : List ℕ
  pub entity : Entity

-- the list has exactly the pairs of the scope
abbrev pub IsScopeOf : Module → List Interface → List Pair → Type 0
IsScopeOf m fs pairs = (p : Pair) → Contains pairs p ↔ InScope m fs p.space p.qualifier p.text p.entity

-- two of the pairs have the name of p, and different entities
pub record IsSeveral (pairs : List Pair) (p : Pair) : Type 0 where
  pub one : Pair
  pub other : Pair
  pub has_one : Contains pairs one
  pub has_other : Contains pairs other
  pub one_name : (one.space ≡ p.space) × (one.qualifier ≡ p.qualifier) × (one.text ≡ p.text)
  pub other_name : (other.space ≡ p.space) × (other.qualifier ≡ p.qualifier) × (other.text ≡ p.text)
  pub differ : ¬ (one.entity ≡ other.entity)

-- the new list has the elements of the old one, those for which Q holds, and no others
abbrev pub Adds : {Y : Type 0} → List Y → List Y → (Y → Type 0) → Type 0
Adds {Y} old new Q = (p : Y) → Contains new p ↔ (Contains old p ⊎ Q p)

-- the pair has this entity under this name: bare, unless `qualified` holds, or with its qualifier
pub record IsPairOf (qualified : Bool) (under : List ℕ) (s : Namespace) (x : List ℕ) (e : Entity) (p : Pair) : Type 0 where
  pub space_is : p.space ≡ s
  pub qualifier_is : ((p.qualifier ≡ None) × (qualified ≡ false)) ⊎ (p.qualifier ≡ Some under)
  pub text_is : p.text ≡ x
  pub entity_is : p.entity ≡ e

-- the pair has an entity that the declaration declares in the module m
pub record IsDeclaredPair (m : List ℕ) (d : Declaration) (p : Pair) : Type 0 where
  pub declared : DeclaredBy p.text d p.space
  pub pair : IsPairOf false m p.space p.text (named m p.text) p

-- the pair has an entity that the module declares
pub record IsOwnPair (m : Module) (p : Pair) : Type 0 where
  pub declared : Declares m p.text p.space
  pub pair : IsPairOf false m.header.name.text p.space p.text (own m p.text) p

-- the pair has an entity that the import i of f's module brings in
pub record IsBroughtPair (f : Interface) (i : Import) (p : Pair) : Type 0 where
  pub brought : Brings f i p.space p.text p.entity
  pub pair : IsPairOf i.qualified (known_as i) p.space p.text p.entity p

-- the meaning of a name: no entity, two or more, or one
pub data MeaningOf : Type 0 where
  unbound : MeaningOf
  ambiguous : MeaningOf
  entity : Entity → MeaningOf

abbrev pub same_qualifier : Option (List ℕ) → Option (List ℕ) → Bool
same_qualifier None None = true
same_qualifier None (Some y) = false
same_qualifier (Some x) None = false
same_qualifier (Some x) (Some y) = same_text x y

abbrev pub same_space : Namespace → Namespace → Bool
same_space Types Types = true
same_space Types Constructors = false
same_space Types Values = false
same_space Constructors Types = false
same_space Constructors Constructors = true
same_space Constructors Values = false
same_space Values Types = false
same_space Values Constructors = false
same_space Values Values = true

abbrev pub is_for : Namespace → Identifier → Pair → Bool
is_for s n p = same_space s p.space && (same_qualifier n.qualifier p.qualifier && same_text n.text p.text)

abbrev pub joined : MeaningOf → Entity → MeaningOf
joined unbound e = entity e
joined ambiguous e = ambiguous
joined (entity d) e = cond (same_entity d e) (entity d) ambiguous

-- the meaning of a name among these pairs
abbrev pub meaning_of : List Pair → Namespace → Identifier → MeaningOf
meaning_of [] s n = unbound
meaning_of (p ∷ ps) s n = cond (is_for s n p) (joined (meaning_of ps s n) p.entity) (meaning_of ps s n)

unfoldable pub meaning_in : List Pair → Namespace → Identifier → MeaningOf
meaning_in ps s n = meaning_of ps s n
