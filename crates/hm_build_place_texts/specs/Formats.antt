-- The two texts of a place, and of a refusal.
use Rattle.std.specs.Prelude.{ℕ, List}
use Rattle.hm_build_place_texts.specs.Facts.{Facts}
use Rattle.hm_build_place_texts.specs.Objects.{place_object, refused_object}
use Rattle.hm_build_place_texts.specs.Prose.{prose}
use Rattle.hm_build_place_texts.specs.declared.texts.PlaceFormat.{PlaceFormat}
use Rattle.hm_build_place_texts.specs.declared.texts.PlaceFormat.TheVariants.{Object, Prose}

abbrev pub text_in : PlaceFormat → Facts → List ℕ
text_in Prose f = prose f
text_in Object f = place_object f

-- the text of a refusal in this format
abbrev pub refusal_in : PlaceFormat → List ℕ → List ℕ
refusal_in Prose text = text
refusal_in Object text = refused_object text
