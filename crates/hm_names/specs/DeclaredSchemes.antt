-- Types of constructors, as the code makes them. No public clause names these.
use Rattle.std.specs.Prelude.{ℕ, zero, suc, List, [], ◌∷◌}
use Rattle.hm_types.specs.declared.Entity.{Entity}
use Rattle.hm_types.specs.declared.Head.TheVariants as head
use Rattle.hm_types.specs.Schemes.{TypeScheme}
use Rattle.hm_types.specs.Types.{Var, App, done, more}
use Rattle.hm_types.specs.Monotypes.{Mono, var}
use Rattle.hm_syntax.specs.Names.{Identifier}
use Rattle.hm_syntax.specs.Trees.{DataConstructor, data_constructor}
use Rattle.hm_names.specs.Entities.{named}
use Rattle.hm_names.specs.Types.{declared_scheme, constructor_type_in}
use Rattle.hm_names.specs.Variables.{type_count}

-- curried functions with these arguments
abbrev pub functions_to : List Mono → Mono → Mono
functions_to [] u = u
functions_to (t ∷ ts) u = App head.Arrow (more t (more (functions_to ts u) done))

-- n variables, from number i on
abbrev pub numbered : ℕ → ℕ → List Mono
numbered i zero = []
numbered i (suc n) = Var (var i) ∷ numbered (suc i) n

-- a constructor, with its type constructor, its number of arguments and its scheme
pub record ConstructorFact : Type 0 where
  pub entity : Entity
  pub owner : Entity
  pub arguments : ℕ
  pub scheme : TypeScheme

abbrev pub fact_in : List ℕ → Identifier → List Identifier → DataConstructor → ConstructorFact
fact_in m t ps (data_constructor n ts) = record { entity = named m n.text; owner = named m t.text; arguments = type_count ts; scheme = declared_scheme (constructor_type_in (named m t.text) ps ts) }
