use Rattle.std.proofs.Common.{◌∙◌, ap}
use Rattle.serde_json.specs.View.{view}
use Rattle.hm_lsp_session.specs.Units.{capabilities_data}
use Rattle.hm_lsp_session.proofs.Offering.{lists_units}
use Rattle.hm_lsp_session.proofs.session.initialize_result.Goals as goal

pub returns : goal.returns
returns c =
    let units = ap (λ u. capabilities_data u (view c.in_ok-completions.completions) (view c.in_ok-renames.renames)) c.unit_name.ensures in
    lists_units c.args.encoding (view c.in_ok-initialized.field-0) (view c.in_ok-capabilities.capabilities) (view c.in_ok-completions.completions) (view c.in_ok-renames.renames) c.in_ok-initialized.ensures
    (c.in_ok-capabilities.ensures ∙ units)
