use Rattle.std.proofs.Common.{◌≡◌, map, take}
use Rattle.hm_service_messages.specs.Choices.{AreChosen}
use Rattle.hm_service_messages.proofs.choosing.diagnostics_in.Given as goal

abbrev pub invariant-diagnostics : goal.invariant-diagnostics
invariant-diagnostics l = AreChosen (λ d. d.source ≡ l.source) (take l.diagnostic-index l.diagnostics) (map (λ d. d.now) l.found.items)
