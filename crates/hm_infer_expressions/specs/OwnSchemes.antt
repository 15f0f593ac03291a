-- The canonical schemes of a module's own variables, from the final environment. No public clause names these.
use Rattle.std.specs.Prelude.{◌≡◌, ℕ, List, Option, Some, false}
use Rattle.hm_types.specs.Schemes.{TypeScheme, canonical_of}
use Rattle.hm_types.specs.Types.{put}
use Rattle.hm_typing.specs.Names.{global}
use Rattle.hm_infer_context.specs.Environments.{Assumed, OpenScheme, IsSchemeOf, opened}

-- a scheme without free variables, with its variables numbered in order of first occurrence
abbrev pub canonical_scheme : OpenScheme → TypeScheme
canonical_scheme s = canonical_of (put (opened false s.quantified 0) s.body)

-- each variable of the module in the environment has the canonical scheme of its innermost entry
abbrev pub HaveCanonical : List ℕ → List Assumed → (List ℕ → Option TypeScheme) → Type 0
HaveCanonical home es given = (x : List ℕ) (s : OpenScheme) → IsSchemeOf (global (record { «module» = home; name = x })) s es → given x ≡ Some (canonical_scheme s)
