-- The laws of what is at a place, as statements.
use Rattle.std.specs.Prelude.{◌≡◌, ◌↔◌, ℕ, ◌<◌, length}
use Rattle.hm_verdicts.specs.Sets.{IsLawfulSet}
use Rattle.hm_verdicts.specs.Verdicts.{IsSettled, Skipped}
use Rattle.hm_build_places.specs.Known.{HasNoUses, Known}

-- in a settled set a module has no uses exactly if it is skipped
abbrev pub SkippedHaveNoUses : Type 0
SkippedHaveNoUses = (k : Known) → IsLawfulSet k.set → IsSettled k.set k.status → (i : ℕ) → i < length k.set.modules → HasNoUses k i ↔ (k.status i ≡ Skipped)
