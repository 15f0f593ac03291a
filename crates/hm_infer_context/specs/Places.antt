-- Tables of the places of names. No public clause names these.
use Rattle.std.specs.Prelude.{◌≡◌, ℕ, ◌+◌, ◌<◌, ◌≤◌, cond, List, [], ◌∷◌, length, reverse, take, drop, Option, None, Some}
use Rattle.std.specs.List.{slice_get}
use Rattle.hm_names_keys.specs.Keys.{Table, number_of, same_variable, variable_of_key}
use Rattle.hm_names_keys.specs.Variables.{Variable, identifier}
use Rattle.hm_typing.specs.Names.{IsOneOf}
use Rattle.hm_infer_context.specs.declared.environment.Binding.{Binding}
use Rattle.hm_infer_context.specs.declared.variables.Variable.{Variable as KeptVariable}
use Rattle.hm_infer_context.specs.Environments.{IsSchemeOf, assumed_names}
use Rattle.hm_infer_context.specs.Kept.{assumed_of, entries_of, variables_of}
use Rattle.hm_infer_context.specs.Patterns.{names_of}

-- the list has the innermost binding first. The table has the place of the innermost binding of each name, and each binding has the place of the one that it hides
abbrev pub IsTable : List Binding → (Variable → Option ℕ) → Type 0
IsTable [] place = (x : Variable) → place x ≡ None
IsTable (b ∷ bs) place = (place (variable_of_key b.name) ≡ Some (length bs)) × IsTable bs (λ x. cond (same_variable (variable_of_key b.name) x) b.hidden (place x))

-- the same for a list that has the outermost binding first
abbrev pub IsPlaced : List Binding → Table → Type 0
IsPlaced items table = IsTable (reverse items) (number_of table)

-- the first n bindings have their places in the table. The others are searched
pub record ArePlaced (items : List Binding) (n : ℕ) (table : Table) : Type 0 where
  pub within : n ≤ length items
  pub first : IsPlaced (take n items) table

-- p is the place of the last binding of this name
pub record IsLastPlace (items : List Binding) (x : Variable) (p : ℕ) : Type 0 where
  pub binding : Binding
  pub at : slice_get items p ≡ Some binding
  pub named : variable_of_key binding.name ≡ x
  pub last : ¬ (IsOneOf (identifier x) (assumed_names (entries_of (drop (p + 1) items))))

-- at p is the innermost assumption about this name
pub record IsInnermost (items : List Binding) (x : Variable) (p : ℕ) : Type 0 where
  pub within : p < length items
  pub scheme : (d : Binding) → slice_get items p ≡ Some d → IsSchemeOf (identifier x) (assumed_of d).scheme (entries_of items)

-- the number of variables of patterns that need no place in the table
abbrev pub few : ℕ
few = 8

-- a variable with this name is at this place
abbrev pub IsPlaceOf : List KeptVariable → Variable → ℕ → Type 0
IsPlaceOf items x p = (v : KeptVariable) × ((slice_get items p ≡ Some v) × (variable_of_key v.name ≡ x))

-- the table has a place of each variable after the first few
pub record AreNoted (items : List KeptVariable) (table : Table) : Type 0 where
  pub some : (x : Variable) (p : ℕ) → number_of table x ≡ Some p → IsPlaceOf items x p
  pub none : (x : Variable) → number_of table x ≡ None → ¬ (IsOneOf (identifier x) (names_of (variables_of (drop few items))))
