-- Worked examples of letters of signatures.
use Rattle.std.specs.Prelude.{[], ◌∷◌, codes}
use Rattle.hm_messages_types.specs.Letters.{IsLettered, IsSignedWith}
use Rattle.hm_messages_types.specs.Shown.{NamedType}

-- k stands for the variable a, and v for b
abbrev pub k : NamedType
k = record { name = codes "k"; text = codes "a" }

abbrev pub v : NamedType
v = record { name = codes "v"; text = codes "b" }

-- k is shown for a, and a isn't shown as it is
pub record LettersRow : Type 0 where
  pub shown : IsLettered (k ∷ v ∷ []) (codes "[a]") (codes "[k]")
  pub plain : ¬ (IsLettered (k ∷ v ∷ []) (codes "a") (codes "a"))

-- white space doesn't count. f has no signature where no `::` is
pub record SignedRow : Type 0 where
  pub signed : IsSignedWith (codes "f::k->[ v ] ; f = g") (codes "f") (codes "k -> [v]")
  pub unsigned : ¬ (IsSignedWith (codes "f") (codes "f") (codes "k"))
