-- Worked examples: the names of a skipped module, and the source of a module.
use Rattle.std.specs.Prelude.{◌≡◌, [], ◌∷◌}
use Rattle.hm_build_places.specs.Known.{Known}
use Rattle.hm_service_references.specs.Names.{AreFirstNames, AreUsesAt, source_of}
use Rattle.hm_uses.specs.Uses.{UseOf}
use Rattle.hm_verdicts.specs.Verdicts.{Skipped}

-- module 0 imports module 1, which isn't good. They are in sources 0 and 1 of those that are checked
abbrev pub skipped : Known
skipped = record { set = record { modules = []; plan = (1 ∷ []) ∷ [] ∷ [] }; status = λ i. Skipped; files = []; texts = []; origins = 0 ∷ 1 ∷ [] }

-- of module 0 no names are known
pub record SkippedRow : Type 0 where
  pub none : AreUsesAt skipped 0 []
  pub not_one : (u : UseOf) → ¬ (AreUsesAt skipped 0 (u ∷ []))
  pub names : AreFirstNames skipped (4 ∷ 7 ∷ []) 1 []

-- sources 4 and 7 of the held set are checked: module 1 is in source 7
pub record SourceRow : Type 0 where
  pub second : source_of skipped (4 ∷ 7 ∷ []) 1 ≡ 7
  pub not_index : ¬ (source_of skipped (4 ∷ 7 ∷ []) 1 ≡ 1)
