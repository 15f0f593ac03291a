use Rattle.std.proofs.Common.{◌≡◌, map, take}
use Rattle.serde_json.specs.View.{view}
use Rattle.hm_lsp_values.specs.Diagnostics.{diagnostic_data}
use Rattle.hm_lsp_server.proofs.telling.diagnostic_values.Given as goal

abbrev pub invariant-diagnostics : goal.invariant-diagnostics
invariant-diagnostics l = map view l.values.items ≡ map (λ d. diagnostic_data l.telling.encoding d.now) (take l.diagnostic-index l.found)
