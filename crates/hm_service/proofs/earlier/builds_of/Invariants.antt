use Rattle.std.proofs.Common.{All}
use Rattle.hm_build_earlier.specs.Earlier.{IsOfTexts}
use Rattle.hm_service.proofs.earlier.builds_of.Given as goal

abbrev pub invariant-checks : goal.invariant-checks
invariant-checks l = All IsOfTexts l.builds.items
