-- The modules of a set that have a name (Report 5.1, 5.2, 5.3).
use Rattle.std.specs.Prelude.{◌≡◌, ℕ, ◌<◌, List, Contains, length}
use Rattle.hm_lex.specs.declared.token.Place.{Place}
use Rattle.hm_types.specs.Interfaces.{Exports as Interface}
use Rattle.hm_names.specs.declared.namespace.Namespace.{Namespace}
use Rattle.hm_verdicts.specs.Sets.{ModuleSet, imports_of, module_at}
use Rattle.hm_verdicts.specs.Verdicts.{Status, Published}
use Rattle.hm_messages_exporters.specs.Declarations.{IsDeclaredAt}
use Rattle.hm_messages_exporters.specs.Exported.{IsExported}
use Rattle.hm_build_exporters.specs.declared.exporters.Exporter.{Exporter}

-- module number i imports module number k, which is good, declares the name x at this place, and doesn't export it
pub record IsPrivate (p : ModuleSet) (status : ℕ → Status) (i : ℕ) (s : Namespace) (x : List ℕ) (k : ℕ) (place : Place) : Type 0 where
  pub imported : Contains (imports_of p i) k
  pub interface : Interface
  pub published : status k ≡ Published interface
  pub not_exported : ¬ (IsExported interface s x)
  pub declared : IsDeclaredAt (module_at p k) s x place

-- module number k is good, with this interface, which exports the name x, and module number i doesn't import it
pub record IsImportable (p : ModuleSet) (status : ℕ → Status) (i : ℕ) (s : Namespace) (x : List ℕ) (k : ℕ) (interface : Interface) : Type 0 where
  pub within : k < length p.modules
  pub foreign : ¬ (Contains (imports_of p i) k)
  pub published : status k ≡ Published interface
  pub exported : IsExported interface s x

abbrev pub IsExporter : ModuleSet → (ℕ → Status) → ℕ → Namespace → List ℕ → Exporter → Type 0
IsExporter p status i s x e = IsImportable p status i s x e.number e.interface.now
