-- Worked examples: the sources of earlier builds.
use Rattle.std.specs.Prelude.{◌≡◌, [], length}
use Rattle.hm_build_earlier.specs.Known.{IsKnown}
use Rattle.hm_build_earlier.specs.declared.known.KnownSource.{KnownSource}

-- an empty text spells no modules. It is kept with none, and never with one
pub record KnownRow : Type 0 where
  pub none : (k : KnownSource) → k.text.now ≡ [] → k.modules.now ≡ [] → IsKnown k
  pub not_one : (k : KnownSource) → k.text.now ≡ [] → length k.modules.now ≡ 1 → ¬ IsKnown k
