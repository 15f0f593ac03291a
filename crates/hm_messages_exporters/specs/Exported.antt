-- What an interface exports under a name, and how an import lists it (Report 5.2, 5.3.1).
use Rattle.std.specs.Prelude.{ℕ, List, [], ◌++◌, codes}
use Rattle.hm_types.specs.declared.Entity.{Entity}
use Rattle.hm_types.specs.Interfaces.{Exports as Interface}
use Rattle.hm_names.specs.Entities.{Belongs, Exports}
use Rattle.hm_names.specs.declared.namespace.Namespace.{Namespace}
use Rattle.hm_names.specs.declared.namespace.Namespace.TheVariants.{Types, Constructors, Values}

-- the interface exports an entity under this name
abbrev pub IsExported : Interface → Namespace → List ℕ → Type 0
IsExported f s x = (e : Entity) × Exports f x e s

-- the list of an import that imports the name x, as text: a variable or a type alone, or a constructor with its type. No list imports everything
pub data IsItem (f : Interface) (x : List ℕ) : Namespace → List ℕ → Type 0 where
  a_variable : IsItem f x Values (codes " (" ++ x ++ codes ")")
  a_type : IsItem f x Types (codes " (" ++ x ++ codes ")")
  a_constructor : {t : List ℕ} → Belongs f t x → IsItem f x Constructors (codes " (" ++ t ++ codes "(" ++ x ++ codes "))")
  everything : {s : Namespace} → IsItem f x s []
