-- The guarantees of a build for all its modules, published or not.
use Rattle.std.specs.Prelude.{◌≡◌, ◌↔◌, ℕ, ◌<◌, length}
use Rattle.hm_verdicts.specs.Verdicts.{Accepted, IsGoodIn, IsVerdictIn}
use Rattle.hm_store.specs.Builds.{Build, set_of, state_of}
use Rattle.hm_store.specs.Objects.{status_at}
use Rattle.hm_store.specs.Settlements.{settlement}
use Rattle.hm_store.specs.declared.object.Status.TheVariants.{Published}

-- a module is published if and only if it is good in its set: it and all modules that it imports, directly or not, are well-formed and typed
-- together. Each module has the verdict of the rules. A published module has the interface with the principal scheme of each export.
-- One principal assignment of all published modules has these schemes
pub record HasVerdicts (b : Build) : Type 0 where
  pub exactly : (i : ℕ) → i < length b.modules → (status_at (state_of b).statuses i ≡ Published) ↔ IsGoodIn (set_of b) i
  pub each : (i : ℕ) → i < length b.modules → IsVerdictIn (set_of b) i (settlement b i)
  pub together : Accepted (set_of b) (settlement b)
