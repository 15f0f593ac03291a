-- The typing of a binding list (Report 4.5.2, over the units of specs/Units).
-- Why: docs/DECISIONS.md, "Duplicates", "Free variables".
use Rattle.hm_typing.specs.Names.{Identifier, IsOneOf}
use Rattle.hm_typing.specs.Schemes.{Scheme, IsAtMostAsGeneral}
use Rattle.hm_typing.specs.Assumptions.{Assumptions}
use Rattle.hm_typing.specs.Syntax.{Bindings, names}
use Rattle.hm_typing.specs.Typing.{InUnits, HasBindings}

-- under A the schemes B of its names type the list
abbrev pub HasSchemes : Assumptions → Bindings → (Identifier → Scheme) → Type 0
HasSchemes A ds B = InUnits A ds B (λ sees ts. HasBindings A sees ts B ds)

-- B types the list, and gives each name a scheme at least as general as all other schemes that do
pub record HasPrincipalSchemes (A : Assumptions) (ds : Bindings) (B : Identifier → Scheme) : Type 0 where
  pub typed : HasSchemes A ds B
  pub most : (B' : Identifier → Scheme) → HasSchemes A ds B' → (x : Identifier) → IsOneOf x (names ds) → IsAtMostAsGeneral (B' x) (B x)
