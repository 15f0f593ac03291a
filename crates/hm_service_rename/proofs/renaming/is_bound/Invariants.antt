use Rattle.std.proofs.Common.{◌≡◌, All, false, take}
use Rattle.hm_service_rename.proofs.renaming.is_bound.Given as goal

abbrev pub invariant-references : goal.invariant-references
invariant-references l = All (λ r. r.binds ≡ false) (take l.reference-index l.references)
