-- The first of two names that are the same in a row of names (Report, sections 3.17.1, 4.2, 4.4.1 and 4.4.3).
use Rattle.std.specs.Prelude.{◌≡◌, ℕ, cond, List, [], ◌∷◌, Option, Some, None, Contains, ◌⊎◌}
use Rattle.hm_lex.specs.declared.token.Place.{Place}
use Rattle.hm_syntax.specs.Names.{Identifier}
use Rattle.hm_syntax.specs.declared.ast.Module.{Module}
use Rattle.hm_names.specs.Faults.Lists.{binding_names, constructor_names, signed_names, type_names}
use Rattle.hm_names.specs.Faults.Phases.{written}
use Rattle.hm_names.specs.Texts.{same_text}
use Rattle.hm_names.specs.Variables.{patterns_variables}
use Rattle.hm_names.specs.Walk.{Node, Somewhere, at_expression, at_pattern, at_type, at_head, at_parameters, at_list}
use Rattle.hm_names.specs.declared.faults.Fault.{Fault}

abbrev pub place_of : Identifier → Place
place_of n = record { line = n.line; column = n.column }

-- the fault is at this name
pub record IsAt (f : Fault) (n : Identifier) : Type 0 where
  pub place_is : f.place ≡ place_of n
  pub name_is : f.name ≡ written n

-- the first of these names with this text
abbrev pub first_named : List ℕ → List Identifier → Option Identifier
first_named x [] = None
first_named x (n ∷ ns) = cond (same_text n.text x) (Some n) (first_named x ns)

-- the fault is at one of these names, and the first of them with its text is at another place, which is p
pub record IsFirstAt (ns : List Identifier) (f : Fault) (p : Place) : Type 0 where
  pub second : Identifier
  pub among : Contains ns second
  pub at_second : IsAt f second
  pub first : Identifier
  pub is_first : first_named f.name ns ≡ Some first
  pub place_is : p ≡ place_of first
  pub apart : ¬ (p ≡ f.place)

-- the names of a node of which each may occur once: the types, constructors, variables and signatures of a declaration list; the parameters of a
-- type; the variables of patterns. The fault is at one of them, and the first with its text is at p
abbrev pub IsFirstOf : Node → Fault → Place → Type 0
IsFirstOf (at_list ds) f p =
    IsFirstAt (type_names ds) f p ⊎ (IsFirstAt (constructor_names ds) f p ⊎ (IsFirstAt (binding_names None ds) f p ⊎ IsFirstAt (signed_names ds) f p))
IsFirstOf (at_parameters ps vs) f p = IsFirstAt ps f p
IsFirstOf (at_head ps) f p = IsFirstAt (patterns_variables ps) f p
IsFirstOf (at_expression e) f p = ⊥
IsFirstOf (at_pattern q) f p = ⊥
IsFirstOf (at_type t) f p = ⊥

-- it is so somewhere in the module
abbrev pub IsFirst : Module → Fault → Place → Type 0
IsFirst m f p = Somewhere m (λ xs k. IsFirstOf k f p)
