use Rattle.std.proofs.Common.{All, take}
use Rattle.hm_uses_places.specs.Declarations.{Declares}
use Rattle.hm_uses_places.proofs.declared.declared_at.Given as goal

abbrev pub invariant-uses : goal.invariant-uses
invariant-uses l = All (λ u. ¬ (Declares l.kind l.entity u)) (take l.one-index l.uses)
