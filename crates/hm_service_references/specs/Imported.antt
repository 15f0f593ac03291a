-- The interfaces of the imports of modules.
use Rattle.std.specs.Prelude.{◌≡◌, ℕ, ◌<◌, List, Option, None, Some, length, map, option_map, slice_index_or}
use Rattle.std.specs.Arc.{arc_value}
use Rattle.hm_build_places.specs.Known.{HasNoUses, Known}
use Rattle.hm_names.specs.Imports.{AreImportsOf}
use Rattle.hm_service_references.specs.declared.imported.Imported.{Imported}
use Rattle.hm_types.specs.Interfaces.{Exports as Interface}
use Rattle.hm_verdicts.specs.Sets.{imports_of, module_at}
use Rattle.hm_verdicts.specs.Verdicts.{ArePublished}

-- the interfaces of the imports of module number i, which are published, or none if they aren't all
abbrev pub IsImported : Known → ℕ → Option (List Interface) → Type 0
IsImported k i None = HasNoUses k i
IsImported k i (Some fs) = ArePublished k.status (imports_of k.set i) fs × AreImportsOf (module_at k.set i) fs

abbrev pub interfaces_in : Imported → Option (List Interface)
interfaces_in x = option_map (λ v. map arc_value v.items) x.interfaces

-- those of n modules
pub record AreAllImported (k : Known) (n : ℕ) (all : List Imported) : Type 0 where
  pub size : length all ≡ n
  pub each : (i : ℕ) (d : Imported) → i < length all → IsImported k i (interfaces_in (slice_index_or all i d))
