use Rattle.std.proofs.Common.{map, take}
use Rattle.hm_uses_references.specs.References.{AreReferred}
use Rattle.hm_uses_references.proofs.finding.referred.Given as goal

abbrev pub invariant-names : goal.invariant-names
invariant-names l = AreReferred (map (λ n. n.now) l.on) (take l.one-index l.names) l.found.items
