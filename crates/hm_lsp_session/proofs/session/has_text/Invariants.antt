use Rattle.std.proofs.Common.{take}
use Rattle.serde_json.specs.View.{items_view}
use Rattle.hm_lsp_session.specs.Units.{HasText}
use Rattle.hm_lsp_session.proofs.session.has_text.Given as goal

abbrev pub invariant-values : goal.invariant-values
invariant-values l = ¬ (HasText l.text (items_view (take l.value-index l.values)))
