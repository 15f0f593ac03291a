-- Numbers of arguments and of patterns (Report, sections 3.17.1, 4.1.2 and 4.4.3.1).
use Rattle.std.specs.Prelude.{◌≡◌, ℕ, cond, List, [], ◌∷◌, Some, None, Contains}
use Rattle.hm_types.specs.declared.Entity.{Entity}
use Rattle.hm_types.specs.Interfaces.{Exports as Interface}
use Rattle.hm_syntax.specs.Names.{Identifier}
use Rattle.hm_syntax.specs.Trees.{TypeTrees, constructor_type, Patterns, constructor_pattern, Declarations, no_declarations, more_declarations, data_declaration, newtype_declaration, synonym_declaration, signature, clause, pattern_binding}
use Rattle.hm_syntax.specs.declared.ast.Module.{Module}
use Rattle.hm_names.specs.Described.{TypeDescription, arity, type_meant, ConstructorDescription, constructor_meant}
use Rattle.hm_names.specs.Faults.Lists.{OpenBinding, goes_on, opened}
use Rattle.hm_names.specs.Scope.{Means}
use Rattle.hm_names.specs.Special.{Special, special_of, special_arity}
use Rattle.hm_names.specs.Variables.{pattern_count, type_count}
use Rattle.hm_names.specs.Walk.{Node, Somewhere, at_expression, at_pattern, at_type, at_head, at_parameters, at_list}
use Rattle.hm_names.specs.declared.faults.Fault.{Fault}
use Rattle.hm_names.specs.declared.namespace.Namespace.TheVariants.{Types, Constructors}
use Rattle.hm_messages_details.specs.Firsts.{IsAt}

-- the type constructor takes so many arguments
pub record TypeTakes (m : Module) (fs : List Interface) (n : Identifier) (takes : ℕ) : Type 0 where
  pub entity : Entity
  pub means : Means m fs Types n entity
  pub description : TypeDescription
  pub meant : type_meant m.header.name.text m.decls fs entity ≡ Some description
  pub takes_is : takes ≡ arity description.meaning

-- the constructor takes so many arguments
pub data ConstructorTakes (m : Module) (fs : List Interface) (n : Identifier) (takes : ℕ) : Type 0 where
  a_special : {s : Special} → special_of n ≡ Some s → takes ≡ special_arity s → ConstructorTakes m fs n takes
  in_scope : {e : Entity} {d : ConstructorDescription} →
      Means m fs Constructors n e → constructor_meant m.header.name.text m.decls fs e ≡ Some d → takes ≡ d.arguments → ConstructorTakes m fs n takes

-- the fault is at a type constructor, or at a constructor in a pattern, that has `here` arguments and takes `takes`
pub data HasArguments (m : Module) (fs : List Interface) (f : Fault) (here takes : ℕ) : Node → Type 0 where
  of_type : {n : Identifier} {ts : TypeTrees} → IsAt f n → here ≡ type_count ts → TypeTakes m fs n takes → HasArguments m fs f here takes (at_type (constructor_type n ts))
  of_constructor : {n : Identifier} {ps : Patterns} → IsAt f n → here ≡ pattern_count ps → ConstructorTakes m fs n takes → HasArguments m fs f here takes (at_pattern (constructor_pattern n ps))

-- it is so somewhere in the module, and the numbers differ
abbrev pub AreArguments : Module → List Interface → Fault → ℕ → ℕ → Type 0
AreArguments m fs f here takes = Somewhere m (λ xs k. HasArguments m fs f here takes k) × ¬ (here ≡ takes)

-- a clause that continues a binding, its number of patterns, and that of the binding's first clause
pub record LaterClause : Type 0 where
  pub name : Identifier
  pub here : ℕ
  pub first : ℕ

abbrev pub first_length : OpenBinding → ℕ
first_length None = 0
first_length (Some b) = b.1

-- the clauses of a list that continue a binding, after an open one
abbrev pub later_clauses : OpenBinding → Declarations → List LaterClause
later_clauses b no_declarations = []
later_clauses b (more_declarations (data_declaration n ps cs) ds) = later_clauses None ds
later_clauses b (more_declarations (newtype_declaration n ps c) ds) = later_clauses None ds
later_clauses b (more_declarations (synonym_declaration n ps t) ds) = later_clauses None ds
later_clauses b (more_declarations (signature ns t) ds) = later_clauses None ds
later_clauses b (more_declarations (clause n ps r) ds) =
    cond (goes_on b n ps) (record { name = n; here = pattern_count ps; first = first_length b } ∷ later_clauses b ds) (later_clauses (opened n ps) ds)
later_clauses b (more_declarations (pattern_binding line column p r) ds) = later_clauses None ds

-- the fault is at a clause of this list that has `here` patterns, and the first clause of its binding has `first`
pub record HasLengths (f : Fault) (here first : ℕ) (ds : Declarations) : Type 0 where
  pub later : LaterClause
  pub among : Contains (later_clauses None ds) later
  pub at_name : IsAt f later.name
  pub here_is : here ≡ later.here
  pub first_is : first ≡ later.first

abbrev pub HasLengthsAt : Fault → ℕ → ℕ → Node → Type 0
HasLengthsAt f here first (at_list ds) = HasLengths f here first ds
HasLengthsAt f here first (at_expression e) = ⊥
HasLengthsAt f here first (at_pattern p) = ⊥
HasLengthsAt f here first (at_type t) = ⊥
HasLengthsAt f here first (at_head ps) = ⊥
HasLengthsAt f here first (at_parameters ps vs) = ⊥

-- it is so somewhere in the module, and the numbers differ
abbrev pub AreLengths : Module → Fault → ℕ → ℕ → Type 0
AreLengths m f here first = Somewhere m (λ xs k. HasLengthsAt f here first k) × ¬ (here ≡ first)
