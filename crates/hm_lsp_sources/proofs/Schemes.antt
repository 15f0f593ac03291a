-- The scheme of a URI has no escapes.
use Rattle.std.proofs.Common.{◌≡◌, ◌++◌, ◌∷◌, [], ℕ, List, codes, refl}
use Rattle.percent_encoding.specs.Percent.{percent_decode}

pub decode_scheme : (rest : List ℕ) → percent_decode (codes "file://" ++ rest) ≡ codes "file://" ++ percent_decode rest
unfolding percent_decode
decode_scheme [] = refl
decode_scheme (x ∷ []) = refl
decode_scheme (x ∷ y ∷ rest) = refl
