-- The expansion of type synonyms (Report 4.2.2): the right side with the arguments in place of the parameters.
use Rattle.std.specs.Prelude.{ℕ, zero, suc, Option, None, Some}
use Rattle.hm_types.specs.declared.Entity.{Entity}
use Rattle.hm_types.specs.declared.Head.{Head}
use Rattle.hm_types.specs.declared.Head.TheVariants as head
use Rattle.hm_types.specs.Types.{Var, App, done, more}
use Rattle.hm_types.specs.Monotypes.{Mono, Monos, var, rigid}
use Rattle.hm_types.specs.Synonyms.{TypeSynonym}
use Rattle.hm_syntax.specs.Names.{Identifier}
use Rattle.hm_syntax.specs.Trees.{TypeTree, constructor_type, function_type, tuple_type, list_type, unit_type, TypeTrees, no_types, more_types}

-- the name of an entity, at the place of another name
abbrev pub as_entity : Identifier → Entity → Identifier
as_entity n e = record { qualifier = Some e.«module»; text = e.name; line = n.line; column = n.column }

-- argument number i. A synonym has an argument for each parameter
abbrev pub argument : ℕ → TypeTrees → TypeTree
argument i no_types = unit_type
argument zero (more_types t ts) = t
argument (suc i) (more_types t ts) = argument i ts

abbrev pub function_of : TypeTrees → TypeTree
function_of (more_types a (more_types b ts)) = function_type a b
function_of ts = unit_type

abbrev pub list_of : TypeTrees → TypeTree
list_of (more_types t ts) = list_type t
list_of no_types = unit_type

-- a type constructor with its arguments, with names at the place of n. Functions have two arguments, lists one
abbrev pub applied_at : Identifier → Head → TypeTrees → TypeTree
applied_at n (head.Named e) ts = constructor_type (as_entity n e) ts
applied_at n head.Arrow ts = function_of ts
applied_at n head.List ts = list_of ts
applied_at n head.Unit ts = unit_type
applied_at n (head.Tuple k) ts = tuple_type ts

-- the type b with the arguments ts in place of its variables. It has no rigid variables
abbrev mutual
  pub filled_at : Identifier → TypeTrees → Mono → TypeTree
  filled_at n ts (Var (var i)) = argument i ts
  filled_at n ts (Var (rigid i)) = unit_type
  filled_at n ts (App h us) = applied_at n h (all_filled_at n ts us)

  pub all_filled_at : Identifier → TypeTrees → Monos → TypeTrees
  all_filled_at n ts done = no_types
  all_filled_at n ts (more u us) = more_types (filled_at n ts u) (all_filled_at n ts us)

-- the type constructor n, perhaps a synonym, with the arguments ts
abbrev pub expanded : Option TypeSynonym → Identifier → TypeTrees → TypeTree
expanded None n ts = constructor_type n ts
expanded (Some s) n ts = filled_at n ts s.body
