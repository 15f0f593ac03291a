-- The laws of the crate, as statements.
use Rattle.std.specs.Prelude.{◌≡◌, ℕ, List, [], All, ◌⊎◌, ◌↔◌, map, Contains, Bool, false}
use Rattle.hm_types.specs.Interfaces.{Exports as Interface}
use Rattle.hm_syntax.specs.Lists.{declarations}
use Rattle.hm_syntax.specs.declared.ast.Module.{Module}
use Rattle.hm_uses.specs.Mentions.{declarations_mentions}
use Rattle.hm_uses.specs.Scopes.{Around, at_top}
use Rattle.hm_syntax.specs.Names.{Identifier}
use Rattle.hm_uses.specs.declared.name_kind.NameKind.{NameKind}
use Rattle.hm_types.specs.declared.Entity.{Entity}
use Rattle.hm_names.specs.declared.faults.Kind.TheVariants.{Unbound, Ambiguous, NotImported}
use Rattle.hm_names.specs.declared.namespace.Namespace.TheVariants.{Types, Constructors, Values}
use Rattle.hm_names.specs.Expansion.{as_entity}
use Rattle.hm_names.specs.Faults.Phases.{FaultAt, Exporting}
use Rattle.hm_names.specs.Resolved.{Resolver, IsResolver}
use Rattle.hm_names.specs.Special.{IsSpecial}
use Rattle.hm_names.specs.Variables.{texts}
use Rattle.hm_uses.specs.declared.name_kind.NameKind.TheVariants.{Variable, Constructor, TypeConstructor, ModuleName}
use Rattle.hm_uses.specs.Uses.{InHeader, OfVariable, ByScope, an_entity, local_variable, ambiguous, unbound, IsUse, Sense, InDeclarations}
use Rattle.hm_uses.specs.Found.{Known, Knows, declarations_uses}

-- what the walk finds in the declarations of a module are exactly the names there, in order
abbrev pub FindsNames : Type 0
FindsNames = (k : Known) (m : Module) → map (λ u. u.mention) (declarations_uses k [] at_top (declarations m.decls)) ≡ declarations_mentions (declarations m.decls)

-- and each means there what the walk says
abbrev pub FindsMeanings : Type 0
FindsMeanings = (m : Module) (fs : List Interface) (k : Known) → Knows m fs k → All (IsUse m fs) (declarations_uses k [] at_top (declarations m.decls))

-- each name of the declarations is found with its sense, so it has no other one
abbrev pub FindsAll : Type 0
FindsAll = (m : Module) (fs : List Interface) (k : Known) → Knows m fs k → (n : Identifier) (s : NameKind) (b : Bool) (t : Sense) → InDeclarations m fs n s b t →
    Contains (declarations_uses k [] at_top (declarations m.decls)) (record { mention = record { name = n; kind = s; binds = b }; sense = t })

-- the walk can know what it has to know of a module
abbrev pub HasKnown : Type 0
HasKnown = (m : Module) (fs : List Interface) → (k : Known) × Knows m fs k

-- Faults and resolvers

-- an unbound or ambiguous name of an export list is a use that says so, and so is a module that isn't imported, and only that
abbrev pub ExportFaultsAreUses : Type 0
ExportFaultsAreUses = (m : Module) (fs : List Interface) (n : Identifier) →
    (FaultAt m fs Exporting Ambiguous n → InHeader m fs n Variable false ambiguous ⊎ InHeader m fs n TypeConstructor false ambiguous)
    × ((FaultAt m fs Exporting Unbound n → InHeader m fs n Variable false unbound ⊎ (InHeader m fs n TypeConstructor false unbound ⊎ InHeader m fs n Constructor false unbound))
    × (FaultAt m fs Exporting NotImported n ↔ InHeader m fs n ModuleName false unbound))

-- a resolver of the module puts in place of a name the entity of its use, and leaves a local variable as it is
pub record AgreesAt (m : Module) (fs : List Interface) (r : Resolver) (xs : Around) (n : Identifier) : Type 0 where
  pub variable : (e : Entity) → OfVariable m fs xs n (an_entity e) → r.name Values (texts xs) n ≡ as_entity n e
  pub local : (line column : ℕ) → OfVariable m fs xs n (local_variable line column) → r.name Values (texts xs) n ≡ n
  pub constructor : (e : Entity) → ¬ (IsSpecial n) → ByScope m fs Constructors n (an_entity e) → r.name Constructors (texts xs) n ≡ as_entity n e
  pub type : (e : Entity) → ByScope m fs Types n (an_entity e) → r.name Types (texts xs) n ≡ as_entity n e

abbrev pub ResolversAgree : Type 0
ResolversAgree = (m : Module) (fs : List Interface) (r : Resolver) → IsResolver m fs r → (xs : Around) (n : Identifier) → AgreesAt m fs r xs n
