use Rattle.std.proofs.Common.{◌≡◌, length, map, take}
use Rattle.hm_run_sources.proofs.located.with_origins.Given as goal

abbrev pub invariant-loop-module : goal.invariant-loop-module
invariant-loop-module l =
    (map (λ r. r.header) l.located.items ≡ map (λ m. m.header) l.yielded) × (map (λ r. r.source) l.located.items ≡ take (length l.yielded) l.origins)
