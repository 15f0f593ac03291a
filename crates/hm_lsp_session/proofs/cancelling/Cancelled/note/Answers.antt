use Rattle.std.proofs.Common.{rules, ◌∙◌, ap, map}
use Rattle.std.proofs.lemmas.List.{map-append}
use Rattle.serde_json.specs.View.{view}
use Rattle.hm_lsp_session.specs.Cancelled.{noted}
use Rattle.hm_lsp_session.proofs.cancelling.Cancelled.note.Goals as goal

pub returns-in_ok-push : goal.returns-in_ok-push
returns-in_ok-push c =
    noted {message = view c.in-Some.message} (search rules) (c.is_cancel.ensures.0 c.if-is_cancel.true) (ap (map view) c.in_ok-push.ensures.items ∙ map-append view _ _)
