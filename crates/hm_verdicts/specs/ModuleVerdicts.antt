-- The verdict of one module for the interfaces of its imports (Report 5; principal: Damas and Milner 1982, section 5).
use Rattle.std.specs.Prelude.{◌≡◌, ℕ, List, Option, Some, ◌⊎◌}
use Rattle.hm_types.specs.declared.Entity.{Entity}
use Rattle.hm_types.specs.Interfaces.{Exports as Interface, IsInterface}
use Rattle.hm_types.specs.Schemes.{TypeScheme, HasNoRigid, canonical_of}
use Rattle.hm_typing.specs.BindingLists.{HasPrincipalSchemes}
use Rattle.hm_typing.specs.Names.{Identifier, global}
use Rattle.hm_typing.specs.Programs.{scheme_of}
use Rattle.hm_typing.specs.Schemes.{Scheme, IsAtMostAsGeneral}
use Rattle.hm_syntax.specs.declared.ast.Module.{Module}
use Rattle.hm_names.specs.declared.faults.Fault.{Fault}
use Rattle.hm_names.specs.Faults.Phases.{AreFaults}
use Rattle.hm_names.specs.ModuleCores.{ModuleCore}
use Rattle.hm_names.specs.Cores.{IsCore, IsTop, IsInterfaceOf, assumptions, syntax_of}
use Rattle.hm_names.specs.Untyped.{AreUntyped}

-- the variables are numbered in order of first occurrence, and none is rigid
pub record IsCanonical (s : TypeScheme) : Type 0 where
  pub not_rigid : HasNoRigid s.body
  pub numbered : s ≡ canonical_of s.body

-- both schemes have the same instances
abbrev pub AreEquallyGeneral : Scheme → Scheme → Type 0
AreEquallyGeneral s t = IsAtMostAsGeneral s t × IsAtMostAsGeneral t s

-- the given schemes of a core's variables are canonical, and as general as the principal ones. They need not type the list: the types of a unit
-- share their variables, so not every one of them can be numbered in its own order of first occurrence
pub record ArePrincipal (c : ModuleCore) (given : List ℕ → Option TypeScheme) : Type 0 where
  pub schemes : Identifier → Scheme
  pub principal : HasPrincipalSchemes (assumptions c) (syntax_of c) schemes
  pub each : (e : Entity) → IsTop c e → (s : TypeScheme) × ((given e.name ≡ Some s) × IsCanonical s × AreEquallyGeneral (schemes (global e)) (scheme_of s))

-- the module is well-formed, and f has its exports with canonical principal schemes
pub record IsGoodFor (m : Module) (fs : List Interface) (f : Interface) : Type 0 where
  pub core : ModuleCore
  pub is_core : IsCore m fs core
  pub given : List ℕ → Option TypeScheme
  pub principal : ArePrincipal core given
  pub interface : IsInterfaceOf core given f
  pub ordered : IsInterface f

-- the faults of the first phase that has any, or those of the units without a type
abbrev pub IsFaultyFor : Module → List Interface → List Fault → Type 0
IsFaultyFor m fs found = AreFaults m fs found ⊎ ((c : ModuleCore) × (IsCore m fs c × AreUntyped c found))

pub data Verdict : Type 0 where
  Good : Interface → Verdict
  Faulty : List Fault → Verdict

-- the verdict of a module for these interfaces: Prelude's first, then those of its imports
abbrev pub IsVerdict : Module → List Interface → Verdict → Type 0
IsVerdict m fs (Good f) = IsGoodFor m fs f
IsVerdict m fs (Faulty found) = IsFaultyFor m fs found
