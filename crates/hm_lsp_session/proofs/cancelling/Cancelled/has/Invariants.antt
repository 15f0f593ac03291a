use Rattle.std.proofs.Common.{All, map, take}
use Rattle.serde_json.specs.View.{view}
use Rattle.hm_lsp_session.specs.Cancelled.{IsOfId}
use Rattle.hm_lsp_session.proofs.cancelling.Cancelled.has.Given as goal

abbrev pub invariant-messages : goal.invariant-messages
invariant-messages l = All (λ m. ¬ (IsOfId (view l.id) m)) (take l.message-index (map view l.message-items))
