-- The checkable part of a set of sources: all but those that are left out. A source is left out whole.
use Rattle.std.specs.Prelude.{◌≡◌, ℕ, ◌<◌, ◌↔◌, List, Contains, length, map, slice_index_or}
use Rattle.std.specs.List.Sorted.{IsStrictlyIncreasing}
use Rattle.hm_graph.specs.Imports.{Imports, IsMissing, IsTaken, IsTooMany, Modules}
use Rattle.hm_graph.specs.Outline.{outline}
use Rattle.hm_graph_components.specs.Closure.{Closure}
use Rattle.hm_run_sources.specs.Origins.{AreLocated}
use Rattle.hm_run_sources.specs.declared.located.Located.{Located}

abbrev pub outlines_of : List Located → Modules
outlines_of located = map (λ l. outline l.header) located

-- the number of the source of module m
abbrev pub source_at : List Located → ℕ → ℕ
source_at located m = slice_index_or (map (λ l. l.source) located) m 0

-- module a imports module b, which is the first of its name
abbrev pub ImportsFirst : Modules → ℕ → ℕ → Type 0
ImportsFirst modules a b = Imports modules a b × ¬ (IsTaken modules b)

-- the module is in the way: its name is that of Prelude or of an earlier module, an import of it names nothing, or it reaches itself. If there are more
-- modules than a set may have, all are
pub data IsInTheWay (modules : Modules) (m : ℕ) : Type 0 where
  taken : IsTaken modules m → IsInTheWay modules m
  missing : {i : ℕ} → IsMissing modules m i → IsInTheWay modules m
  cycle : Closure (ImportsFirst modules) m m → IsInTheWay modules m
  too_many : IsTooMany modules → IsInTheWay modules m

-- the source is left out: one of its modules is in the way, or imports a module of a source that is left out
pub data IsLeftOut (located : List Located) : ℕ → Type 0 where
  own : {s m : ℕ} → m < length located → source_at located m ≡ s → IsInTheWay (outlines_of located) m → IsLeftOut located s
  by_import : {s a b : ℕ} → a < length located → source_at located a ≡ s → ImportsFirst (outlines_of located) a b → IsLeftOut located (source_at located b) → IsLeftOut located s

-- the numbers of the sources that aren't left out, ascending
pub record IsCheckable (sources : List (List ℕ)) (part : List ℕ) : Type 0 where
  pub located : List Located
  pub are : AreLocated sources located
  pub ascending : IsStrictlyIncreasing part
  pub members : (s : ℕ) → Contains part s ↔ ((s < length sources) × ¬ (IsLeftOut located s))
