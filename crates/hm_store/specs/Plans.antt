-- The input of the build object: the imports of each module, and the modules that depend on it (Haskell 98 Report, section 5.3).
use Rattle.std.specs.Prelude.{◌≡◌, ◌<◌, ℕ, List, [], length, slice_index_or}
use Rattle.hm_graph.specs.Importers.{IsDependentList}

-- for each module its imports, in order of first import, and the modules that import it, directly or not
pub record Given : Type 0 where
  pub imports : List (List ℕ)
  pub dependents : List (List ℕ)

abbrev pub imports_of : Given → ℕ → List ℕ
imports_of g m = slice_index_or g.imports m []

abbrev pub dependents_of : Given → ℕ → List ℕ
dependents_of g m = slice_index_or g.dependents m []

-- the lists of dependents are right
pub record AreDependents (g : Given) : Type 0 where
  pub len : length g.dependents ≡ length g.imports
  pub each : (m : ℕ) → m < length g.imports → IsDependentList g.imports m (dependents_of g m)
