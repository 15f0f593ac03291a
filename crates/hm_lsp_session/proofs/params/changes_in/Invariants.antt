use Rattle.std.proofs.Common.{take}
use Rattle.serde_json.specs.View.{items_view}
use Rattle.hm_lsp_session.specs.Params.{AreChangesIn}
use Rattle.hm_lsp_session.proofs.params.changes_in.Given as goal

abbrev pub invariant-changes : goal.invariant-changes
invariant-changes l = AreChangesIn (items_view (take l.value-index l.value-items)) l.changes.items
