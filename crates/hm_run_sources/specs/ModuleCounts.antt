-- The number of modules of each source.
use Rattle.std.specs.Prelude.{◌≡◌, ℕ, ◌+◌, ◌<◌, ◌≤◌, List, [], ◌∷◌, ◌++◌, length, slice_index, slice_index_or, sum, take}
use Rattle.hm_syntax.specs.declared.ast.Module.{Module}
use Rattle.hm_run_sources.specs.SourceModules.{HasModules}

-- the modules of a set of sources, in order of appearance, and the number of modules of each source
abbrev pub AreCountedModules : List (List ℕ) → List Module → List ℕ → Type 0
AreCountedModules [] modules counts = (modules ≡ []) × (counts ≡ [])
AreCountedModules (s ∷ ss) modules counts =
    (first : List Module) × (later : List Module) × (others : List ℕ) × HasModules s first × AreCountedModules ss later others × (modules ≡ first ++ later) × (counts ≡ length first ∷ others)

-- by the number of modules of each source, the module with this number is one of the source with this number; both are counted from 0
pub record IsCountedTo (counts : List ℕ) (m source : ℕ) : Type 0 where
  pub inside : source < length counts
  pub low : sum (take source counts) ≤ m
  pub high : m < sum (take source counts) + slice_index counts source

-- each module has the number of its source
pub record AreOrigins (counts origins : List ℕ) : Type 0 where
  pub as_many : length origins ≡ sum counts
  pub each : (m d : ℕ) → m < length origins → IsCountedTo counts m (slice_index_or origins m d)
