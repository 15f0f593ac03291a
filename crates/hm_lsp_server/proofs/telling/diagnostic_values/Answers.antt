use Rattle.std.proofs.Common.{rules, map, ap, ◌∙◌}
use Rattle.std.proofs.lemmas.List.{take_all}
use Rattle.hm_lsp_values.specs.Diagnostics.{diagnostic_data}
use Rattle.serde_json.proofs.Views.{view-Array}
use Rattle.hm_lsp_results.proofs.Listed.{valued_more}
use Rattle.hm_lsp_server.proofs.Told.{are_diagnostics}
use Rattle.hm_lsp_server.proofs.telling.diagnostic_values.Goals as goal

pub returns : goal.returns
returns c =
    view-Array c.diagnostics.values ∙ are_diagnostics c.args.telling.now.encoding c.args.found.now c.diagnostics.values.items
    (c.diagnostics.invariant ∙ ap (map (λ d. diagnostic_data c.args.telling.now.encoding d.now)) (take_all c.diagnostics.diagnostic-index c.args.found.now (search rules)))

pub diagnostics-preserved : goal.diagnostics-preserved
diagnostics-preserved c =
    valued_more (λ d. diagnostic_data c.args.telling.now.encoding d.now) c.args.found.now c.diagnostics.diagnostic-index c.diagnostic-item.result c.diagnostics.values.items c.push.new.self.items c.in_ok-diagnostic_value.field-0 c.diagnostics-test.true
    c.diagnostic-item.is c.diagnostics.invariant c.in_ok-diagnostic_value.ensures c.in_ok-push.ensures.items
