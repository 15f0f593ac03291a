-- The exported names that an import selects. No public clause names these.
use Rattle.std.specs.Prelude.{◌≡◌, ℕ, List, Bool, Contains, ◌↔◌}
use Rattle.hm_types.specs.declared.Entity.{Entity}
use Rattle.hm_types.specs.Interfaces.{Exports as Interface}
use Rattle.hm_syntax.specs.declared.ast.Import.{Import}
use Rattle.hm_syntax.specs.declared.ast.ImportItem.{ImportItem}
use Rattle.hm_syntax.specs.declared.ast.ImportList.{ImportList}
use Rattle.hm_syntax.specs.declared.ast.ImportList.TheVariants as list
use Rattle.hm_syntax.specs.declared.ast.Module.{Module}
use Rattle.hm_names.specs.declared.namespace.Namespace.{Namespace}
use Rattle.hm_scope_imports.specs.declared.selections.ListUse.{ListUse}
use Rattle.hm_scope_imports.specs.declared.selections.ListUse.TheVariants as list_use
use Rattle.hm_scope_imports.specs.declared.selections.Selection.{Selection}
use Rattle.hm_scope_imports.specs.declared.selections.Selection.TheVariants.{Every, Only, Hiding}
use Rattle.hm_names.specs.Bindings.{Pair, IsPairOf, IsBroughtPair}
use Rattle.hm_names.specs.Entities.{Exports}
use Rattle.hm_scope_imports.specs.Gathered.{bare}
use Rattle.hm_scope_tables.specs.NameSets.{FullName}
use Rattle.hm_names.specs.Scope.{Lists, Hides, Imports}

-- the item names x, or hides it
abbrev pub ListsOrHides : ListUse → Interface → List ℕ → ImportItem → Namespace → Type 0
ListsOrHides list_use.Hides f x j s = Hides f x j s
ListsOrHides list_use.Selects f x j s = Lists f x j s

-- the set has exactly the names that items of the list name, or hide
abbrev pub IsListed : ListUse → Interface → List ImportItem → List FullName → Type 0
IsListed u f is names = (s : Namespace) (x : List ℕ) → Contains names (bare s x) ↔ ((j : ImportItem) × (Contains is j × ListsOrHides u f x j s))

-- the import list selects the name, if it is exported
pub data IsSelected (f : Interface) (s : Namespace) (x : List ℕ) : ImportList → Type 0 where
  every : IsSelected f s x list.Every
  only : {is : List ImportItem} {j : ImportItem} → Contains is j → Lists f x j s → IsSelected f s x (list.Only is)
  hiding : {is : List ImportItem} → ((j : ImportItem) → Contains is j → ¬ Hides f x j s) → IsSelected f s x (list.Hiding is)

-- the selection has the name
abbrev pub Selects : Selection → Namespace → List ℕ → Type 0
Selects Every s x = Unit {0}
Selects (Only names) s x = Contains names (bare s x)
Selects (Hiding names) s x = ¬ Contains names (bare s x)

-- the selection has the names that the import list selects from f's exports
abbrev pub IsSelectionOf : Interface → ImportList → Selection → Type 0
IsSelectionOf f l σ = (s : Namespace) (x : List ℕ) → Selects σ s x ↔ IsSelected f s x l

-- the pair has an entity that f exports under a name of the selection
pub record IsSelectedPair (f : Interface) (σ : Selection) (qualified : Bool) (under : List ℕ) (p : Pair) : Type 0 where
  pub exported : Exports f p.text p.entity p.space
  pub selected : Selects σ p.space p.text
  pub pair : IsPairOf qualified under p.space p.text p.entity p

-- the pair has an entity that f exports under this name of the selection
pub record IsSelectedAs (f : Interface) (σ : Selection) (qualified : Bool) (under : List ℕ) (s : Namespace) (x : List ℕ) (p : Pair) : Type 0 where
  pub exported : Exports f x p.entity s
  pub selected : Selects σ s x
  pub pair : IsPairOf qualified under s x p.entity p

-- the pair has the entity of an entry with this name, and the selection has the name
abbrev pub IsNamedPair : {E : Type 0} → (E → List ℕ) → (E → Entity) → List E → Selection → Bool → List ℕ → Namespace → List ℕ → Pair → Type 0
IsNamedPair {E} name entity entries σ qualified under s x p = (r : E) × (Contains entries r × ((name r ≡ x) × (Selects σ s (name r) × IsPairOf qualified under s (name r) (entity r) p)))

-- the import brings in the pair from the interface of its module, which is one of these
pub record IsBroughtFrom (fs : List Interface) (i : Import) (p : Pair) : Type 0 where
  pub interface : Interface
  pub stands : Contains fs interface
  pub same_name : interface.name ≡ i.name.text
  pub brought : IsBroughtPair interface i p

-- an import of the module brings in the pair
pub record IsImportedPair (m : Module) (fs : List Interface) (p : Pair) : Type 0 where
  pub import_of : Import
  pub imports : Imports m import_of
  pub brought : IsBroughtFrom fs import_of p
