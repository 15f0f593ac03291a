-- The last good text of each source: the last one of which all modules were good in a check.
use Rattle.std.specs.Prelude.{◌≡◌, ◌<◌, ℕ, List, Option, None, Some, get_or, length, slice_index_or}
use Rattle.hm_service_sources.specs.declared.held.HeldSource.{HeldSource}
use Rattle.hm_service_stand_ins.specs.Findings.{Findings, IsGoodIn}

-- after a check it is the text of the source if all modules of the source are good, and else the one of before
pub data IsGoodAfter (f : Findings) (n : ℕ) (h : HeldSource) (before after : Option (List ℕ)) : Type 0 where
  good : IsGoodIn f h n → after ≡ Some h.text.items → IsGoodAfter f n h before after
  as_before : ¬ (IsGoodIn f h n) → after ≡ before → IsGoodAfter f n h before after

-- the same of all sources. A source that was added had no good text before
pub record AreGoodAfter (f : Findings) (held : List HeldSource) (before after : List (Option (List ℕ))) : Type 0 where
  pub as_many : length after ≡ length held
  pub each : (n : ℕ) (h : HeldSource) → n < length held → IsGoodAfter f n (get_or held n h) (slice_index_or before n None) (slice_index_or after n None)
