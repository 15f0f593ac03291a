use Rattle.std.proofs.Common.{◌∙◌, inl, inr, sym}
use Rattle.serde_json.specs.View.{view}
use Rattle.hm_lsp_session.proofs.Going.{editing, news_step, ignored, never_refused}
use Rattle.hm_lsp_session.proofs.session.Session.notified.Goals as goal

pub returns-in_ok-act-in-Some-clause-step : goal.returns-in_ok-act-in-Some-clause-step
returns-in_ok-act-in-Some-clause-step c =
    news_step c.args.self.now.stage c.act.new.self.stage c.in_ok-act-in-Some.field-0 (editing c.args.self.now.stage c.args.method (sym c.in-Go.ensures)) c.act.ensures.stage c.in_ok-act-in-Some.ensures.news

pub returns-in-Ignore-clause-ignored : goal.returns-in-Ignore-clause-ignored
returns-in-Ignore-clause-ignored c ready = elim c.in-Ignore.is [
  | inl is ↦ ignored c.args.self.now.stage c.args.method (view c.args.message.now) c.args.self.now.encoding c.args.self.now.documents ready (sym c.notification_decision.ensures ∙ is)
  | inr w ↦ absurd (never_refused c.args.self.now.stage c.args.method w.0 ready (sym c.notification_decision.ensures ∙ w.1))
]
