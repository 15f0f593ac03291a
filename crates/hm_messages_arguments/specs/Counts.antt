-- How many arguments a name has in a source, and how many in a changed one (Report 3.3).
use Rattle.std.specs.Prelude.{◌≡◌, ◌+◌, ℕ, List, Contains, flat_map}
use Rattle.hm_lex.specs.Places.{IsBefore}
use Rattle.hm_lex.specs.declared.token.Place.{Place}
use Rattle.hm_names.specs.Faults.Phases.{written}
use Rattle.hm_run_sources.specs.SourceModules.{HasModules}
use Rattle.hm_syntax.specs.Names.{Identifier}
use Rattle.hm_syntax.specs.declared.ast.Module.{Module}
use Rattle.hm_messages_changes.specs.Holes.{without}
use Rattle.hm_messages_changes.specs.Insertions.{with_insertion}
use Rattle.hm_messages_changes.specs.declared.data.SourceRange.{SourceRange}
use Rattle.hm_messages_changes.specs.declared.insertions.Insertion.TheVariants.{Argument}
use Rattle.hm_messages_arguments.specs.Applied.{module_applied}

abbrev pub place_of : Identifier → Place
place_of x = record { line = x.line; column = x.column }

-- at this place of the source, an expression has the name, which is applied to so many arguments
pub record HasArguments (source : List ℕ) (place : Place) (function : List ℕ) (count : ℕ) : Type 0 where
  pub modules : List Module
  pub read : HasModules source modules
  pub name : Identifier
  pub applied : Contains (flat_map module_applied modules) (record { name = name; arguments = count })
  pub placed : place ≡ place_of name
  pub named : function ≡ written name

-- a name before the part has one argument fewer without the part
pub record HasOneFewer (source : List ℕ) (argument : SourceRange) (function : List ℕ) (here then : ℕ) : Type 0 where
  pub place : Place
  pub before : IsBefore place argument.start
  pub counted : HasArguments source place function here
  pub left : HasArguments (without source argument.from argument.to) place function then
  pub fewer : here ≡ then + 1

-- the second place is one column to the right of the first
abbrev pub IsRightOf : Place → Place → Type 0
IsRightOf p q = (q.line ≡ p.line) × (q.column ≡ p.column + 1)

-- the name at the beginning of the part has one argument more with the hole after the part, and brackets around both
pub record HasOneMore (source : List ℕ) (front : SourceRange) (function : List ℕ) (here then : ℕ) : Type 0 where
  pub place : Place
  pub right_of : IsRightOf front.start place
  pub counted : HasArguments source front.start function here
  pub changed : HasArguments (with_insertion source Argument front) place function then
  pub more : then ≡ here + 1
