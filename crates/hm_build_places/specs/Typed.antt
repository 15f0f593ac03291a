-- The type of a declared name: as the interface of its module has it, or by a variable of its module.
use Rattle.std.specs.Prelude.{◌≡◌, ℕ, List, Contains}
use Rattle.hm_names.specs.Scope.{prelude_name}
use Rattle.hm_types.specs.declared.Entity.{Entity}
use Rattle.hm_types.specs.declared.entries.ConstructorEntry.{ConstructorEntry}
use Rattle.hm_types.specs.declared.entries.ValueEntry.{ValueEntry}
use Rattle.hm_types.specs.Interfaces.{Exports as Interface}
use Rattle.hm_types.specs.Schemes.{TypeScheme}
use Rattle.hm_types.specs.StandardPrelude.{prelude_interface}
use Rattle.hm_types_display.specs.Texts.{scheme_text_of}
use Rattle.hm_uses.specs.Uses.{Sense, local_variable, type_variable, an_entity, a_module, a_prefix, unbound, ambiguous}
use Rattle.hm_uses.specs.declared.name_kind.NameKind.{NameKind}
use Rattle.hm_uses.specs.declared.name_kind.NameKind.TheVariants.{Variable, Constructor, TypeVariable, TypeConstructor, ModuleName}
use Rattle.hm_verdicts.specs.Verdicts.{Published}
use Rattle.hm_build_place_texts.specs.Facts.{InModule, no_declared, not_exported, of_bad_module, principal}
use Rattle.hm_build_places.specs.Known.{HasNoNumber, IsNumberOf, Known}
use Rattle.hm_build_places.specs.TypesAt.{IsOwnType}

-- the interface of the module with this name: that of Prelude, or of a good module of the set
pub data IsInterfaceOf (k : Known) (x : List ℕ) (f : Interface) : Type 0 where
  of_prelude : x ≡ prelude_name → f ≡ prelude_interface → IsInterfaceOf k x f
  of_module : {i : ℕ} → IsNumberOf k x i → k.status i ≡ Published f → IsInterfaceOf k x f

-- no good module of the set has this name
pub data HasNoInterface (k : Known) (x : List ℕ) : Type 0 where
  no_module : HasNoNumber k x → HasNoInterface k x
  not_good : {i : ℕ} → IsNumberOf k x i → ((f : Interface) → ¬ (k.status i ≡ Published f)) → HasNoInterface k x

-- the interface has this scheme for the entity
pub data HasScheme (f : Interface) (e : Entity) (s : TypeScheme) : NameKind → Type 0 where
  of_variable : {v : ValueEntry} → Contains f.values v → v.entity ≡ e → s ≡ v.scheme → HasScheme f e s Variable
  of_constructor : {c : ConstructorEntry} → Contains f.constructors c → c.entity ≡ e → s ≡ c.scheme → HasScheme f e s Constructor

-- the type of an entity: the interface's scheme, or one that is found in the source of its module
pub data IsTypeOf (k : Known) (kind : NameKind) (e : Entity) (t : InModule) : Type 0 where
  shown : {f : Interface} {s : TypeScheme} → IsInterfaceOf k e.«module» f → HasScheme f e s kind → t ≡ principal (scheme_text_of s) → IsTypeOf k kind e t
  hidden : {f : Interface} → IsInterfaceOf k e.«module» f → ((s : TypeScheme) → ¬ (HasScheme f e s kind)) → IsOwnType k e (not_exported e.«module») t → IsTypeOf k kind e t
  unaccepted : HasNoInterface k e.«module» → IsOwnType k e (of_bad_module e.«module») t → IsTypeOf k kind e t

-- variables and constructors have types
abbrev pub IsEntityType : Known → NameKind → Entity → InModule → Type 0
IsEntityType k Variable e t = IsTypeOf k Variable e t
IsEntityType k Constructor e t = IsTypeOf k Constructor e t
IsEntityType k TypeVariable e t = t ≡ no_declared
IsEntityType k TypeConstructor e t = t ≡ no_declared
IsEntityType k ModuleName e t = t ≡ no_declared

-- and of those only the ones that a module declares
abbrev pub IsDeclaredType : Known → NameKind → Sense → InModule → Type 0
IsDeclaredType k kind (an_entity e) t = IsEntityType k kind e t
IsDeclaredType k kind (local_variable l c) t = t ≡ no_declared
IsDeclaredType k kind (type_variable l c) t = t ≡ no_declared
IsDeclaredType k kind (a_module x) t = t ≡ no_declared
IsDeclaredType k kind (a_prefix x) t = t ≡ no_declared
IsDeclaredType k kind unbound t = t ≡ no_declared
IsDeclaredType k kind ambiguous t = t ≡ no_declared
