-- Wrong numbers of arguments and patterns, and recursive synonyms (Report 3.17.1, 4.1.2, 4.2.2, 4.4.3.1).
use Rattle.std.specs.Prelude.{◌≡◌, ℕ, List, None, Some, Contains}
use Rattle.hm_types.specs.declared.Entity.{Entity}
use Rattle.hm_types.specs.Interfaces.{Exports as Interface}
use Rattle.hm_syntax.specs.Names.{Identifier}
use Rattle.hm_syntax.specs.Trees.{TypeTree, TypeTrees, constructor_type, Patterns, constructor_pattern, Declarations, synonym_declaration}
use Rattle.hm_syntax.specs.declared.ast.Module.{Module}
use Rattle.hm_names.specs.declared.namespace.Namespace.TheVariants.{Types, Constructors}
use Rattle.hm_names.specs.declared.faults.Kind.{Kind}
use Rattle.hm_names.specs.declared.faults.Kind.TheVariants.{Arity, ClauseLength, Recursive}
use Rattle.hm_names.specs.Variables.{pattern_count, type_count, constructors_in}
use Rattle.hm_names.specs.Entities.{own}
use Rattle.hm_names.specs.Special.{Special, IsSpecial, special_of, special_arity}
use Rattle.hm_names.specs.Scope.{Means}
use Rattle.hm_names.specs.Described.{TypeDescription, arity, type_meant, ConstructorDescription, constructor_meant}
use Rattle.hm_names.specs.Walk.{Node, at_pattern, at_type, at_list}
use Rattle.hm_names.specs.Faults.Lists.{other_lengths}

-- a type constructor, or a constructor in a pattern, has a wrong number of arguments; a clause has another number of patterns than the first of its
-- binding
pub data ArityFault (m : Module) (fs : List Interface) : Node → Kind → Identifier → Type 0 where
  a_type : {n : Identifier} {ts : TypeTrees} {e : Entity} {d : TypeDescription} →
      Means m fs Types n e → type_meant m.header.name.text m.decls fs e ≡ Some d → ¬ (type_count ts ≡ arity d.meaning) → ArityFault m fs (at_type (constructor_type n ts)) Arity n
  a_pattern : {n : Identifier} {ps : Patterns} {e : Entity} {d : ConstructorDescription} →
      ¬ (IsSpecial n) → Means m fs Constructors n e → constructor_meant m.header.name.text m.decls fs e ≡ Some d → ¬ (pattern_count ps ≡ d.arguments) → ArityFault m fs (at_pattern (constructor_pattern n ps)) Arity n
  a_special : {n : Identifier} {ps : Patterns} {s : Special} → special_of n ≡ Some s → ¬ (pattern_count ps ≡ special_arity s) → ArityFault m fs (at_pattern (constructor_pattern n ps)) Arity n
  another_length : {ds : Declarations} {n : Identifier} → Contains (other_lengths None ds) n → ArityFault m fs (at_list ds) ClauseLength n

-- the module declares the synonym x, and its right side has the type constructor y of the module
pub data RefersTo (m : Module) (fs : List Interface) (x y : List ℕ) : Type 0 where
  refers : {n k : Identifier} {ps : List Identifier} {t : TypeTree} →
      Contains m.decls (synonym_declaration n ps t) → n.text ≡ x → Contains (constructors_in t) k → Means m fs Types k (own m y) → RefersTo m fs x y

-- x reaches y by one or more right sides of synonyms
pub data Reaches (m : Module) (fs : List Interface) : List ℕ → List ℕ → Type 0 where
  directly : {x y : List ℕ} → RefersTo m fs x y → Reaches m fs x y
  through : {x y z : List ℕ} → RefersTo m fs x y → Reaches m fs y z → Reaches m fs x z

-- a synonym that reaches itself
pub data SynonymFault (m : Module) (fs : List Interface) : Kind → Identifier → Type 0 where
  recursive : {n : Identifier} {ps : List Identifier} {t : TypeTree} → Contains m.decls (synonym_declaration n ps t) → Reaches m fs n.text n.text → SynonymFault m fs Recursive n
