use Rattle.std.proofs.Common.{rules, ◌≡◌, Some, codes, subst}
use Rattle.serde_json.specs.Find.{pointer}
use Rattle.serde_json.specs.View.{view}
use Rattle.hm_lsp_session.specs.Cancelled.{IsSameId}
use Rattle.hm_lsp_session.proofs.Taking.{one_message}
use Rattle.hm_lsp_session.proofs.cancelling.is_of_id.Goals as goal

pub returns-in-Some : goal.returns-in-Some
returns-in-Some c =
    let given = view c.in-Some.given.now in
    let at : pointer (codes "/params/id") (view c.args.message.now) ≡ Some given = search rules in (
      λ t. (given, (at, c.is_same_id.ensures.0 t)),
      λ h. c.is_same_id.ensures.1 (subst (λ x. IsSameId x (view c.args.id.now)) (one_message (pointer (codes "/params/id") (view c.args.message.now)) h.0 given h.1.0 at) h.1.1),
    )
