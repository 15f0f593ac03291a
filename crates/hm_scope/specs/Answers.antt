-- The results of one phase, and of all phases. No public clause names these.
use Rattle.std.specs.Prelude.{◌≡◌, ◌↔◌, List, map, Contains}
use Rattle.hm_types.specs.Interfaces.{Exports as Interface}
use Rattle.hm_syntax.specs.declared.ast.Module.{Module}
use Rattle.hm_names.specs.declared.faults.Fault.{Fault}
use Rattle.hm_types.specs.declared.Entity.{Entity}
use Rattle.hm_types.specs.Interfaces.{AreOrdered}
use Rattle.hm_syntax.specs.Trees.{Declaration}
use Rattle.hm_names.specs.declared.cores.Exported.{Exported}
use Rattle.hm_names.specs.declared.namespace.Namespace.{Namespace}
use Rattle.hm_names.specs.declared.namespace.Namespace.TheVariants.{Types, Constructors, Values}
use Rattle.hm_scope.specs.declared.scoping.Answer.{Answer}
use Rattle.hm_scope.specs.declared.scoping.Answer.TheVariants.{Resolved, Faulty}
use Rattle.hm_scope.specs.declared.scoping.ExportedRows.{ExportedRows}
use Rattle.hm_scope.specs.declared.scoping.Trees.{Trees}
use Rattle.hm_names.specs.Exports.{IsExported}
use Rattle.hm_names.specs.Bindings.{Pair}
use Rattle.hm_scope_exports.specs.ExportedRows.{HaveOneEntity, IsBound}
use Rattle.hm_scope.specs.PhaseAnswers.{AreExact}
use Rattle.hm_scope.specs.declared.phases.TreeFaults.{TreeFaults}
use Rattle.hm_names.specs.Cores.{kept}
use Rattle.hm_names.specs.Resolved.{Resolver, IsResolver, resolved}
use Rattle.hm_names.specs.NodeFaults.{NodeFault}
use Rattle.hm_names.specs.Walk.{Somewhere}
use Rattle.hm_names.specs.Faults.Phases.{Importing, Declaring, Naming, Counting, HasFault, IsWellFormed, AreFaults}

-- the list has the types that the module exports
abbrev pub HasExportedTypes : Module → List Interface → List Exported → Type 0
HasExportedTypes m fs es = (x : List Rattle.std.specs.Prelude.ℕ) (e : Entity) → Contains es (record { name = x; entity = e }) ↔ IsExported m fs Types x e

-- the declarations are those of the module's core
pub record AreResolvedTrees (m : Module) (fs : List Interface) (ds : List Declaration) : Type 0 where
  pub resolver : Resolver
  pub resolves : IsResolver m fs resolver
  pub trees : (es : List Exported) → HasExportedTypes m fs es → ds ≡ map (kept es) (resolved m resolver)

-- the faults in the module's trees
abbrev pub AreNoted : Module → List Interface → List Fault → Type 0
AreNoted m fs found = (f : Fault) → Contains found f ↔ Somewhere m (NodeFault m fs f)

-- the result of a walk over the module: the faults in its trees, or the resolved trees if there are none
pub record AreWalked (m : Module) (fs : List Interface) (ds : List Declaration) (found : List Fault) : Type 0 where
  pub faults : AreNoted m fs found
  pub are_resolved : IsWellFormed m fs → AreResolvedTrees m fs ds

-- the faults in the module's trees, by phase
pub record AreTreeFaults (m : Module) (fs : List Interface) (found : TreeFaults) : Type 0 where
  pub lists : AreExact m fs Declaring found.lists.items
  pub names : AreExact m fs Naming found.names.items
  pub numbers : AreExact m fs Counting found.numbers.items

-- the faults in the module's trees, by phase, and the resolved trees if there are none
pub record AreTrees (m : Module) (fs : List Interface) (trees : Trees) : Type 0 where
  pub lists : AreExact m fs Declaring trees.lists.items
  pub names : AreExact m fs Naming trees.names.items
  pub numbers : AreExact m fs Counting trees.numbers.items
  pub are_resolved : IsWellFormed m fs → AreResolvedTrees m fs trees.decls.items

-- a well-formed module with its resolved trees and its exports
pub record IsResolvedModule (m : Module) (fs : List Interface) (ds : List Declaration) (given : List Pair) : Type 0 where
  pub well_formed : IsWellFormed m fs
  pub are_resolved : AreResolvedTrees m fs ds
  pub one_entity : HaveOneEntity given
  pub exact : (s : Namespace) (x : List Rattle.std.specs.Prelude.ℕ) (e : Entity) → IsBound given s x e ↔ IsExported m fs s x e

-- the result of the phases after imports
abbrev pub IsAnswer : Module → List Interface → Answer → Type 0
IsAnswer m fs (Resolved ds given) = IsResolvedModule m fs ds.items given.items
IsAnswer m fs (Faulty found) = AreFaults m fs found

abbrev pub IsAnswerBehind : Module → List Interface → Answer → Type 0
IsAnswerBehind m fs answer = ((f : Fault) → ¬ (HasFault m fs Importing f)) → IsAnswer m fs answer

-- the rows of a namespace
abbrev pub rows_in : ExportedRows → Namespace → List Exported
rows_in r Types = r.types
rows_in r Constructors = r.constructors
rows_in r Values = r.values

-- the rows have exactly these exports, ordered by name
pub record AreExportedRows (given : List Pair) (rows : Namespace → List Exported) : Type 0 where
  pub exact : (s : Namespace) (x : List Rattle.std.specs.Prelude.ℕ) (e : Entity) → Contains (rows s) (record { name = x; entity = e }) ↔ IsBound given s x e
  pub ordered : (s : Namespace) → AreOrdered (map (λ r. r.name) (rows s))
