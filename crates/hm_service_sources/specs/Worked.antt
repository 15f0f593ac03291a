-- Worked examples: the text that stands for a source, and sources that are left out.
use Rattle.std.specs.Prelude.{◌≡◌, ◌≢◌, ℕ, List, [], ◌∷◌, codes, map}
use Rattle.hm_run_sources.specs.declared.located.Located.{Located}
use Rattle.hm_service_sources.specs.LeftOut.{IsLeftOut}
use Rattle.hm_service_sources.specs.Standing.{IsReadable, IsUnreadable, StandsFor}

-- a text that can be read stands for its source, and the earlier one doesn't. It still does after one that can't be read
pub record StandingRow : Type 0 where
  pub latest : (s t : List ℕ) → IsReadable s → StandsFor (s ∷ t ∷ []) s
  pub not_earlier : (s t : List ℕ) → IsReadable s → t ≢ s → ¬ (StandsFor (s ∷ t ∷ []) t)
  pub kept : (s t : List ℕ) → IsUnreadable s → IsReadable t → StandsFor (s ∷ t ∷ []) t
  pub empty : StandsFor [] []

-- a module that imports nothing is alone in its source, and isn't left out. If it imports B, which names nothing, it is left out
pub record LeftOutRow : Type 0 where
  pub alone : (l : Located) → l.header.name.text ≡ codes "A" → l.header.imports ≡ [] → ¬ (IsLeftOut (l ∷ []) 0)
  pub missing : (l : Located) → l.source ≡ 0 → l.header.name.text ≡ codes "A" → map (λ i. i.name.text) l.header.imports ≡ codes "B" ∷ [] → IsLeftOut (l ∷ []) 0
