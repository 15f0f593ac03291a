-- The laws of the crate, as statements.
use Rattle.std.specs.Prelude.{List, false, Contains}
use Rattle.hm_types.specs.Interfaces.{Exports as Interface}
use Rattle.hm_syntax.specs.Names.{Identifier}
use Rattle.hm_syntax.specs.Trees.{TypeTree, signature}
use Rattle.hm_syntax.specs.declared.ast.Module.{Module}
use Rattle.hm_names.specs.declared.faults.Kind.TheVariants.{Unbound, Ambiguous}
use Rattle.hm_names.specs.Faults.Phases.{FaultAt, Naming}
use Rattle.hm_uses.specs.declared.name_kind.NameKind.{NameKind}
use Rattle.hm_uses.specs.Scopes.{Around, Home, In, a_declaration}
use Rattle.hm_uses.specs.Uses.{InDeclarations, Sense, ambiguous, unbound}

-- the name is used in the declarations of the module, and means this
abbrev pub IsUsedAs : Module → List Interface → Identifier → Sense → Type 0
IsUsedAs m fs n t = (k : NameKind) × InDeclarations m fs n k false t

-- the name is in a signature, where it names a variable of its list. Without one, the list has a fault of its own
pub data IsSigned (m : Module) (n : Identifier) : Type 0 where
  in_signature : {xs : Around} {h : Home} {ns : List Identifier} {ty : TypeTree} → In m xs (a_declaration h (signature ns ty)) → Contains ns n → IsSigned m n

-- an unbound or ambiguous name is a use that says so
pub record FaultsAreUses (m : Module) (fs : List Interface) (n : Identifier) : Type 0 where
  pub of_unbound : FaultAt m fs Naming Unbound n → IsUsedAs m fs n unbound
  pub of_ambiguous : FaultAt m fs Naming Ambiguous n → IsUsedAs m fs n ambiguous

abbrev pub NameFaultsAreUses : Type 0
NameFaultsAreUses = (m : Module) (fs : List Interface) (n : Identifier) → FaultsAreUses m fs n

-- and a use that says so is such a fault
pub record UsesAreFaults (m : Module) (fs : List Interface) (n : Identifier) : Type 0 where
  pub unbound_one : IsUsedAs m fs n unbound → FaultAt m fs Naming Unbound n
  pub ambiguous_one : IsUsedAs m fs n ambiguous → FaultAt m fs Naming Ambiguous n

abbrev pub UsesAreNameFaults : Type 0
UsesAreNameFaults = (m : Module) (fs : List Interface) (n : Identifier) → ¬ (IsSigned m n) → UsesAreFaults m fs n
