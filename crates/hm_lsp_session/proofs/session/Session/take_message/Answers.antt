use Rattle.std.proofs.Common.{◌≡◌, ◌∙◌, Some, ap, option_map, sym}
use Rattle.serde_json.specs.View.{view}
use Rattle.hm_lsp_session.specs.Replies.{method_of}
use Rattle.hm_lsp_session.specs.Stages.{method_named}
use Rattle.hm_lsp_session.proofs.Going.{one_name}
use Rattle.hm_lsp_session.proofs.session.Session.take_message.Goals as goal

pub returns-then-is_some-clause-left : goal.returns-then-is_some-clause-left
returns-then-is_some-clause-left c name id q named has ready is =
    let own : method_of (view c.args.message) ≡ Some c.in-Some.name.now = sym c.method_of.ensures ∙ ap (option_map (λ n. n.now)) c.in-Some.is in
    c.in_ok-request.ensures.left q ready (c.of-method.ensures ∙ ap method_named (one_name (method_of (view c.args.message)) c.in-Some.name.now name own named) ∙ is)
