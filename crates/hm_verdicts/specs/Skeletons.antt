-- Names and arities of a set, which don't depend on the schemes of variables: the exports of each module without these schemes (Report 5.2).
-- Why: docs/DECISIONS.md, "Skeletons".
use Rattle.std.specs.Prelude.{ℕ, List, [], ◌∷◌, map, Some}
use Rattle.hm_types.specs.declared.entries.ValueEntry.{ValueEntry}
use Rattle.hm_types.specs.Interfaces.{Exports as Interface, IsInterface}
use Rattle.hm_types.specs.Monotypes.{var}
use Rattle.hm_types.specs.Schemes.{TypeScheme}
use Rattle.hm_types.specs.StandardPrelude.{prelude_interface}
use Rattle.hm_types.specs.Types.{Var}
use Rattle.hm_syntax.specs.declared.ast.Module.{Module}
use Rattle.hm_names.specs.ModuleCores.{ModuleCore}
use Rattle.hm_names.specs.Cores.{IsCore, IsInterfaceOf}
use Rattle.hm_verdicts.specs.Sets.{ModuleSet, module_at, imports_of}

-- the scheme a, in place of an unknown one
abbrev pub blank : TypeScheme
blank = record { vars = 1; body = Var (var 0) }

abbrev pub without_scheme : ValueEntry → ValueEntry
without_scheme v = record { name = v.name; entity = v.entity; scheme = blank }

-- an interface without the schemes of variables: names, entities, arities, synonyms, and constructors with their declared schemes (Report 5.2)
abbrev pub skeleton : Interface → Interface
skeleton f = record { name = f.name; types = f.types; synonyms = f.synonyms; constructors = f.constructors; values = map without_scheme f.values }

-- the interfaces for a module whose imports have these skeletons
abbrev pub with_prelude : List Interface → List Interface
with_prelude ks = skeleton prelude_interface ∷ ks

-- the module is well-formed for the skeletons ks of its imports, and k is its own
pub record IsSkeletonOf (m : Module) (ks : List Interface) (k : Interface) : Type 0 where
  pub core : ModuleCore
  pub is_core : IsCore m (with_prelude ks) core
  pub interface : IsInterfaceOf core (λ x. Some blank) k
  pub ordered : IsInterface k

-- module number i of the set and all that it imports, directly or not, are well-formed, and k is the skeleton of its interface.
-- The definition follows the import order; it doesn't hold in a cycle
mutual
  pub data HasSkeleton (p : ModuleSet) : ℕ → Interface → Type 0 where
    of_module : {i : ℕ} {ks : List Interface} {k : Interface} → HaveSkeletons p (imports_of p i) ks → IsSkeletonOf (module_at p i) ks k → HasSkeleton p i k

  pub data HaveSkeletons (p : ModuleSet) : List ℕ → List Interface → Type 0 where
    none : HaveSkeletons p [] []
    one_more : {j : ℕ} {js : List ℕ} {k : Interface} {ks : List Interface} → HasSkeleton p j k → HaveSkeletons p js ks → HaveSkeletons p (j ∷ js) (k ∷ ks)
