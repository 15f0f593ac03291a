use Rattle.std.proofs.Common.{◌≡◌, All, take}
use Rattle.hm_run_sources.specs.declared.located.Located.{Located}
use Rattle.hm_messages.proofs.refusals.module_called.Given as goal

abbrev pub invariant-modules : goal.invariant-modules
invariant-modules l = All (λ (h : Located). ¬ (h.header.name.text ≡ l.name)) (take l.here-index l.located)
