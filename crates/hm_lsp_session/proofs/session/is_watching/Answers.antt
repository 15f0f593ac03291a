use Rattle.hm_lsp_session.specs.Watching.{no, yes}
use Rattle.hm_lsp_session.proofs.session.is_watching.Goals as goal

pub returns-then-offers_to_watch : goal.returns-then-offers_to_watch
returns-then-offers_to_watch c = yes (c.offers_to_watch.ensures.yes c.if-offers_to_watch.true)

pub returns : goal.returns
returns c = no (c.offers_to_watch.ensures.no c.if-offers_to_watch.false)
