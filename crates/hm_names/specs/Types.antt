-- Written types as types over numbered variables (Report 4.1.2, 4.2.1, 4.4.1). In them, each type constructor is an entity: its qualifier and text.
use Rattle.std.specs.Prelude.{ℕ, zero, suc, cond, List, [], ◌∷◌, length, Option, None, Some}
use Rattle.hm_types.specs.declared.Entity.{Entity}
use Rattle.hm_types.specs.declared.Head.TheVariants as head
use Rattle.hm_types.specs.Types.{Args, Var, App, done, more, put}
use Rattle.hm_types.specs.Monotypes.{Mono, var}
use Rattle.hm_types.specs.Synonyms.{TypeSynonym}
use Rattle.hm_types.specs.Schemes.{TypeScheme, canonical_of}
use Rattle.hm_typing.specs.Schemes.{Monotype, arrow}
use Rattle.hm_typing.specs.Patterns.{list}
use Rattle.hm_syntax.specs.Names.{Identifier}
use Rattle.hm_syntax.specs.Trees.{TypeTree, variable_type, constructor_type, function_type, tuple_type, list_type, unit_type, TypeTrees, no_types, more_types}
use Rattle.hm_names.specs.Texts.{same_text}
use Rattle.hm_names.specs.Variables.{texts, type_variables, type_count}
use Rattle.hm_names.specs.Special.{Special, UnitValue, Nil, Cons, Tuple}

-- the entity of a qualified name
abbrev pub entity_in : Option (List ℕ) → List ℕ → Entity
entity_in None x = record { «module» = []; name = x }
entity_in (Some q) x = record { «module» = q; name = x }

abbrev pub entity_of : Identifier → Entity
entity_of n = entity_in n.qualifier n.text

-- the first place of a text in a list
abbrev pub place : List ℕ → List (List ℕ) → ℕ
place x [] = 0
place x (y ∷ ys) = cond (same_text x y) 0 (suc (place x ys))

-- a type whose variables are numbered by their places in a list
abbrev mutual
  pub type_in : List (List ℕ) → TypeTree → Monotype
  type_in vs (variable_type n) = Var (place n.text vs)
  type_in vs (constructor_type n ts) = App (head.Named (entity_of n)) (types_in vs ts)
  type_in vs (function_type a b) = arrow (type_in vs a) (type_in vs b)
  type_in vs (tuple_type ts) = App (head.Tuple (type_count ts)) (types_in vs ts)
  type_in vs (list_type t) = list (type_in vs t)
  type_in vs unit_type = App head.Unit done

  pub types_in : List (List ℕ) → TypeTrees → Args ℕ
  types_in vs no_types = done
  types_in vs (more_types t ts) = more (type_in vs t) (types_in vs ts)

-- the type of a signature or of e :: t. The number of a variable is the place of its first occurrence among all occurrences of variables
abbrev pub declared_type : TypeTree → Monotype
declared_type t = type_in (texts (type_variables t)) t

-- a type as the code has it: its variables aren't rigid
abbrev pub program_of : Monotype → Mono
program_of t = put (λ v. Var (var v)) t

-- the scheme of a declared type: all its variables are quantified, and numbered in order of first occurrence
abbrev pub declared_scheme : Monotype → TypeScheme
declared_scheme t = canonical_of (program_of t)

-- a synonym with these parameters, numbered in order, and this right side (Report 4.2.2)
abbrev pub synonym_of : List Identifier → TypeTree → TypeSynonym
synonym_of ps t = record { parameters = length ps; body = program_of (type_in (texts ps) t) }

-- The type of a constructor, from its arguments to the type with its parameters (Report 4.2.1)

abbrev pub arguments_to : List (List ℕ) → TypeTrees → Monotype → Monotype
arguments_to vs no_types u = u
arguments_to vs (more_types t ts) u = arrow (type_in vs t) (arguments_to vs ts u)

abbrev pub parameters_from : ℕ → List Identifier → Args ℕ
parameters_from i [] = done
parameters_from i (p ∷ ps) = more (Var i) (parameters_from (suc i) ps)

-- the type of a constructor of the type e with the parameters ps
abbrev pub constructor_type_in : Entity → List Identifier → TypeTrees → Monotype
constructor_type_in e ps ts = arguments_to (texts ps) ts (App (head.Named e) (parameters_from 0 ps))

-- The types of the special constructors (Report 6.1.3 to 6.1.5)

abbrev pub variables_from : ℕ → ℕ → Args ℕ
variables_from i zero = done
variables_from i (suc n) = more (Var i) (variables_from (suc i) n)

abbrev pub functions_from : ℕ → ℕ → Monotype → Monotype
functions_from i zero u = u
functions_from i (suc n) u = arrow (Var i) (functions_from (suc i) n u)

abbrev pub special_type : Special → Monotype
special_type UnitValue = App head.Unit done
special_type Nil = list (Var 0)
special_type Cons = arrow (Var 0) (arrow (list (Var 0)) (list (Var 0)))
special_type (Tuple n) = functions_from 0 n (App (head.Tuple n) (variables_from 0 n))
