use Rattle.std.proofs.Common.{◌≡◌, map, take}
use Rattle.hm_uses_references.specs.References.{names_at}
use Rattle.hm_uses_references.proofs.finding.names_at.Given as goal

abbrev pub invariant-names : goal.invariant-names
invariant-names l = map (λ n. n.now) l.found.items ≡ names_at l.source (record { line = l.line; column = l.column }) (take l.one-index l.names)
