use Rattle.std.proofs.Common.{◌≡◌, map, take}
use Rattle.hm_build_place_runs.proofs.answers.copies.Given as goal

abbrev pub invariant-sources : goal.invariant-sources
invariant-sources l = map (λ s. s.items) l.copies.items ≡ map (λ s. s.items) (take l.source-index l.sources)
