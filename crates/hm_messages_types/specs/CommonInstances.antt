-- Types that can be the same type.
use Rattle.std.specs.Prelude.{◌≡◌}
use Rattle.hm_types.specs.Monotypes.{Mono}
use Rattle.hm_types.specs.Substitution.{Substitution, substitute}

-- with types in place of their variables, the same type for each occurrence of a variable, they are equal
abbrev pub HaveCommonInstance : Mono → Mono → Type 0
HaveCommonInstance t u = (f : Substitution) × (substitute f t ≡ substitute f u)
