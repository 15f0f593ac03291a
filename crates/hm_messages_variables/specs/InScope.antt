-- What it means that a type is among the pairs of a module's scope (Report 5.5.1).
use Rattle.std.specs.Prelude.{ℕ, List, None, IsTrue, ◌↔◌}
use Rattle.hm_types.specs.declared.Entity.{Entity}
use Rattle.hm_types.specs.Interfaces.{Exports as Interface}
use Rattle.hm_syntax.specs.declared.ast.Module.{Module}
use Rattle.hm_names.specs.declared.namespace.Namespace.TheVariants.{Types}
use Rattle.hm_names.specs.Bindings.{IsScopeOf, Pair}
use Rattle.hm_names.specs.Scope.{InScope}
use Rattle.hm_messages_variables.specs.LikeTypes.{has_type}

-- a type is in scope under this name, without a qualifier
abbrev pub IsTypeInScope : Module → List Interface → List ℕ → Type 0
IsTypeInScope m fs x = (e : Entity) × InScope m fs Types None x e

-- the table of a scope has exactly the types in scope
abbrev pub TypesInScope : Type 0
TypesInScope = (m : Module) (fs : List Interface) (scope : List Pair) → IsScopeOf m fs scope → (x : List ℕ) → IsTrue (has_type x scope) ↔ IsTypeInScope m fs x
