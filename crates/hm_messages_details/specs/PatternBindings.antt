-- A variable that has a signature and is bound by a pattern, which hmc doesn't read (Report, sections 4.4.1 and 4.4.3.2).
use Rattle.std.specs.Prelude.{◌≡◌, ℕ, List, Contains, ◌⊎◌}
use Rattle.hm_syntax.specs.Names.{Identifier}
use Rattle.hm_syntax.specs.Trees.{Declaration, data_declaration, newtype_declaration, synonym_declaration, signature, clause, pattern_binding, Declarations, no_declarations, more_declarations}
use Rattle.hm_syntax.specs.declared.ast.Module.{Module}
use Rattle.hm_names.specs.Faults.Lists.{signed_names}
use Rattle.hm_names.specs.Variables.{pattern_variables}
use Rattle.hm_names.specs.Walk.{Node, Somewhere, at_expression, at_pattern, at_type, at_head, at_parameters, at_list}
use Rattle.hm_names.specs.declared.faults.Fault.{Fault}
use Rattle.hm_messages_details.specs.Firsts.{IsAt}

-- the declaration binds a pattern with a variable of this name
abbrev pub IsPatternOf : List ℕ → Declaration → Type 0
IsPatternOf x (pattern_binding line column p r) = (n : Identifier) × Contains (pattern_variables p) n × (n.text ≡ x)
IsPatternOf x (data_declaration n ps cs) = ⊥
IsPatternOf x (newtype_declaration n ps c) = ⊥
IsPatternOf x (synonym_declaration n ps t) = ⊥
IsPatternOf x (signature ns t) = ⊥
IsPatternOf x (clause n ps r) = ⊥

-- a declaration of the list does so
abbrev pub HasPatternOf : List ℕ → Declarations → Type 0
HasPatternOf x no_declarations = ⊥
HasPatternOf x (more_declarations d ds) = IsPatternOf x d ⊎ HasPatternOf x ds

-- the fault is at a signature of this list, in which a pattern has a variable with the name of the fault
pub record IsPatternBound (ds : Declarations) (f : Fault) : Type 0 where
  pub signed : Identifier
  pub among : Contains (signed_names ds) signed
  pub at_signed : IsAt f signed
  pub bound : HasPatternOf f.name ds

abbrev pub IsPatternBoundAt : Node → Fault → Type 0
IsPatternBoundAt (at_list ds) f = IsPatternBound ds f
IsPatternBoundAt (at_expression e) f = ⊥
IsPatternBoundAt (at_pattern p) f = ⊥
IsPatternBoundAt (at_type t) f = ⊥
IsPatternBoundAt (at_head ps) f = ⊥
IsPatternBoundAt (at_parameters ps vs) f = ⊥

-- it is so somewhere in the module
abbrev pub HasPatternBound : Module → Fault → Type 0
HasPatternBound m f = Somewhere m (λ xs k. IsPatternBoundAt k f)
