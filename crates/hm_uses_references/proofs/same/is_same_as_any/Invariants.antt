use Rattle.std.proofs.Common.{All, map, take}
use Rattle.hm_uses_references.specs.SetNames.{IsSame}
use Rattle.hm_uses_references.proofs.same.is_same_as_any.Given as goal

abbrev pub invariant-names : goal.invariant-names
invariant-names l = All (λ n. ¬ (IsSame n l.other)) (take l.one-index (map (λ n. n.now) l.names))
