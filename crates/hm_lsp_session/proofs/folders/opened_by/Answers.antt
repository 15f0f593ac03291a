use Rattle.std.proofs.Common.{rules, ◌≡◌, Some, subst}
use Rattle.serde_json.specs.Read.{read}
use Rattle.serde_json.specs.View.{view}
use Rattle.hm_lsp_session.specs.Folders.{IsOpening}
use Rattle.hm_lsp_session.proofs.Taking.{one_message}
use Rattle.hm_lsp_session.proofs.folders.opened_by.Goals as goal

pub returns-in_default-opening_id-clause-none : goal.returns-in_default-opening_id-clause-none
returns-in_default-opening_id-clause-none c message id utf8 is h =
    let own : read c.args.body.now ≡ Some (view c.in-Some.message) = search rules in
    c.in_default-opening_id.ensures.none id (subst (λ m. IsOpening m id) (one_message (read c.args.body.now) message (view c.in-Some.message) is own) h)
