use Rattle.std.proofs.Common.{rules, map, ap, ◌∙◌}
use Rattle.std.proofs.lemmas.List.{take_all}
use Rattle.hm_lsp_values.specs.Diagnostics.{action_data}
use Rattle.serde_json.proofs.Views.{view-Array}
use Rattle.hm_lsp_results.proofs.Offered.{are_actions}
use Rattle.hm_lsp_results.proofs.fixing.action_values.Goals as goal

pub returns : goal.returns
returns c =
    view-Array c.actions.values ∙ are_actions c.args.asked.now.encoding c.args.uri.now c.args.fixes.now c.actions.values.items
    (c.actions.invariant ∙ ap (map (λ t. action_data c.args.asked.now.encoding c.args.uri.now t.fault.now t.change.now)) (take_all c.actions.fix-index c.args.fixes.now (search rules)))
