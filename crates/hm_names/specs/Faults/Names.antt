-- Faults of names in use, and of patterns (Report 3.17, 4.2.1, 5.5).
use Rattle.std.specs.Prelude.{◌≡◌, List, None, Contains}
use Rattle.hm_types.specs.Interfaces.{Exports as Interface}
use Rattle.hm_syntax.specs.Names.{Identifier}
use Rattle.hm_syntax.specs.Trees.{TypeTrees, constructor_type, Patterns, constructor_pattern, variable_expression, constructor_expression}
use Rattle.hm_syntax.specs.declared.ast.Module.{Module}
use Rattle.hm_names.specs.declared.namespace.Namespace.{Namespace}
use Rattle.hm_names.specs.declared.namespace.Namespace.TheVariants.{Types, Constructors, Values}
use Rattle.hm_names.specs.declared.faults.Kind.{Kind}
use Rattle.hm_names.specs.declared.faults.Kind.TheVariants.{Unbound, Ambiguous, NonLinear}
use Rattle.hm_names.specs.Variables.{texts, patterns_variables}
use Rattle.hm_names.specs.Special.{IsSpecial}
use Rattle.hm_names.specs.Scope.{IsUnbound, IsAmbiguous}
use Rattle.hm_names.specs.Walk.{Locals, Node, at_expression, at_pattern, at_type, at_head, at_parameters}
use Rattle.hm_names.specs.Faults.Lists.{Repeats}

-- a bare name of a local variable
abbrev pub IsLocal : Locals → Identifier → Type 0
IsLocal xs n = (n.qualifier ≡ None) × Contains xs n.text

-- the node has a name that is looked up in the scope
pub data Uses (xs : Locals) : Node → Namespace → Identifier → Type 0 where
  a_variable : {n : Identifier} → ¬ (IsLocal xs n) → Uses xs (at_expression (variable_expression n)) Values n
  a_constructor : {n : Identifier} → ¬ (IsSpecial n) → Uses xs (at_expression (constructor_expression n)) Constructors n
  a_pattern : {n : Identifier} {ps : Patterns} → ¬ (IsSpecial n) → Uses xs (at_pattern (constructor_pattern n ps)) Constructors n
  a_type_constructor : {n : Identifier} {ts : TypeTrees} → Uses xs (at_type (constructor_type n ts)) Types n

-- unbound and ambiguous names; a type variable that isn't a parameter of its declaration; a second occurrence of a variable in the patterns of one
-- clause, lambda or alternative
pub data NameFault (m : Module) (fs : List Interface) (xs : Locals) : Node → Kind → Identifier → Type 0 where
  unbound : {k : Node} {s : Namespace} {n : Identifier} → Uses xs k s n → IsUnbound m fs s n → NameFault m fs xs k Unbound n
  ambiguous : {k : Node} {s : Namespace} {n : Identifier} → Uses xs k s n → IsAmbiguous m fs s n → NameFault m fs xs k Ambiguous n
  no_parameter : {n : Identifier} {ps vs : List Identifier} → Contains vs n → ¬ (Contains (texts ps) n.text) → NameFault m fs xs (at_parameters ps vs) Unbound n
  non_linear : {ps : Patterns} {n : Identifier} → Repeats (patterns_variables ps) n → NameFault m fs xs (at_head ps) NonLinear n
