-- A core's verdict is that of each module whose core it is.
use Rattle.std.proofs.Common.{ℕ, List, Option, sym, subst, refl}
use Rattle.std.specs.Option.{IsSome}
use Rattle.hm_types.specs.declared.Entity.{Entity}
use Rattle.hm_types.specs.Schemes.{TypeScheme}
use Rattle.hm_names.specs.ModuleCores.{ModuleCore}
use Rattle.hm_names.specs.Cores.{IsTop}
use Rattle.hm_verdicts.specs.ModuleVerdicts.{ArePrincipal}

-- each variable of the core has a scheme
pub all_given : (c : ModuleCore) (given : List ℕ → Option TypeScheme) → ArePrincipal c given → (e : Entity) → IsTop c e → IsSome (given e.name)
all_given c given p e top = let s = p.each e top in subst IsSome (sym s.1.0) refl
