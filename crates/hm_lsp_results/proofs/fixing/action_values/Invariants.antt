use Rattle.std.proofs.Common.{◌≡◌, map, take}
use Rattle.serde_json.specs.View.{view}
use Rattle.hm_lsp_values.specs.Diagnostics.{action_data}
use Rattle.hm_lsp_results.proofs.fixing.action_values.Given as goal

abbrev pub invariant-actions : goal.invariant-actions
invariant-actions l = map view l.values.items ≡ map (λ t. action_data l.asked.encoding l.uri t.fault.now t.change.now) (take l.fix-index l.fixes)
