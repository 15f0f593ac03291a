use Rattle.hm_scope_imports.specs.Apart.{AreNotNamed}
use Rattle.hm_scope_imports.proofs.found.place_from.Given as goal

abbrev pub invariant-loop-place : goal.invariant-loop-place
invariant-loop-place l = AreNotNamed l.interfaces l.from l.place l.name
