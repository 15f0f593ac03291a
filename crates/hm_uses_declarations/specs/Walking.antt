-- The state of the walk, and the uses of parts that the code goes through one by one. No public clause names these.
use Rattle.std.specs.Prelude.{ℕ, List, [], ◌∷◌, ◌++◌, Option, None, Some}
use Rattle.hm_syntax.specs.Names.{Identifier}
use Rattle.hm_syntax.specs.Trees.{Expression, Alternative, alternative}
use Rattle.hm_names.specs.Variables.{pattern_variables}
use Rattle.hm_uses.specs.Scopes.{Around, Home, at_top, local_to}
use Rattle.hm_uses.specs.Uses.{UseOf}
use Rattle.hm_uses.specs.Found.{Known, pattern_uses, expression_uses, right_side_uses}

-- what is known of the module, the lists of binders around, the innermost one first, and the uses so far
pub record Walking : Type 0 where
  pub known : Known
  pub groups : List (List Identifier)
  pub found : List UseOf

abbrev pub all_of : List (List Identifier) → Around
all_of [] = []
all_of (g ∷ gs) = g ++ all_of gs

abbrev pub innermost : List (List Identifier) → List Identifier
innermost [] = []
innermost (g ∷ gs) = g

abbrev pub outer_of : List (List Identifier) → List (List Identifier)
outer_of [] = []
outer_of (g ∷ gs) = gs

-- the home of declarations and patterns whose variables are those of the innermost list
abbrev pub home_of : List (List Identifier) → Home
home_of [] = at_top
home_of (g ∷ gs) = local_to g

-- the state with these uses added
abbrev pub adding : List UseOf → Walking → Walking
adding us w = record w { found = w.found ++ us }

-- the state inside the scope of these binders
abbrev pub entering : List Identifier → Walking → Walking
entering g w = record w { groups = g ∷ w.groups }

-- the state outside of the innermost list of binders
abbrev pub leaving : Walking → Walking
leaving w = record w { groups = outer_of w.groups }

unfoldable pub alternative_uses : Known → Around → Alternative → List UseOf
alternative_uses k xs (alternative p r) = pattern_uses k (local_to (pattern_variables p)) p ++ right_side_uses k (pattern_variables p ++ xs) r

-- the uses in the expressions of a right side, each with its guard, if it has one
abbrev pub guard_uses : Known → Around → Option Expression → List UseOf
guard_uses k xs None = []
guard_uses k xs (Some g) = expression_uses k xs g

abbrev pub part_uses : Known → Around → Option Expression × Expression → List UseOf
part_uses k xs p = guard_uses k xs p.0 ++ expression_uses k xs p.1

abbrev pub parts_uses : Known → Around → List (Option Expression × Expression) → List UseOf
parts_uses k xs [] = []
parts_uses k xs (p ∷ ps) = part_uses k xs p ++ parts_uses k xs ps
