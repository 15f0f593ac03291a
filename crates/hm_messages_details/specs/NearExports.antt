-- A near name among the exports of an imported module (Report, sections 5.2 and 5.3.1).
use Rattle.std.specs.Prelude.{◌≡◌, ℕ, ⊤, List, Option, None, Some, Contains}
use Rattle.hm_types.specs.Interfaces.{Exports as Interface}
use Rattle.hm_types.specs.declared.entries.SynonymEntry.{SynonymEntry}
use Rattle.hm_types.specs.declared.entries.TypeEntry.{TypeEntry}
use Rattle.hm_types.specs.declared.entries.ValueEntry.{ValueEntry}
use Rattle.hm_names.specs.Entities.{Belongs}
use Rattle.hm_names.specs.declared.faults.Fault.{Fault}
use Rattle.hm_messages_details.specs.Nearness.{AreNear}

-- an import list can have this name of the interface alone: of a type, a synonym or a variable. After a type it can have a constructor of this type
pub data CanBeListed (i : Interface) (y : List ℕ) : Option (List ℕ) → Type 0 where
  a_type : {r : TypeEntry} → Contains i.types r → r.name ≡ y → CanBeListed i y None
  a_synonym : {r : SynonymEntry} → Contains i.synonyms r → r.name ≡ y → CanBeListed i y None
  a_value : {r : ValueEntry} → Contains i.values r → r.name ≡ y → CanBeListed i y None
  a_constructor : {t : List ℕ} → Belongs i t y → CanBeListed i y (Some t)

-- the name can be listed in place of this text, and is near to it
pub record IsNearIn (i : Interface) (text : List ℕ) (owner : Option (List ℕ)) (y : List ℕ) : Type 0 where
  pub listable : CanBeListed i y owner
  pub near : AreNear text y

-- the interface of the module x has such a name for that of the fault
pub record IsNearExport (fs : List Interface) (f : Fault) (x : List ℕ) (owner : Option (List ℕ)) (y : List ℕ) : Type 0 where
  pub interface : Interface
  pub among : Contains fs interface
  pub named : interface.name ≡ x
  pub near_in : IsNearIn interface f.name owner y

-- the same of the name that is said, if one is said
abbrev pub IsNearExportOf : List Interface → Fault → List ℕ → Option (List ℕ) → Option (List ℕ) → Type 0
IsNearExportOf fs f x owner None = ⊤
IsNearExportOf fs f x owner (Some y) = IsNearExport fs f x owner y
