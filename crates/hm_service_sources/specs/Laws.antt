-- The laws of held sources, as statements.
use Rattle.std.specs.Prelude.{ℕ, List}
use Rattle.hm_graph.specs.Imports.{IsLawful}
use Rattle.hm_run_sources.specs.declared.located.Located.{Located}
use Rattle.hm_service_sources.specs.LeftOut.{IsLeftOut, outlines_of}

-- of a lawful set no source is left out
abbrev pub LawfulSetsAreWhole : Type 0
LawfulSetsAreWhole = (located : List Located) (s : ℕ) → IsLawful (outlines_of located) → ¬ (IsLeftOut located s)
