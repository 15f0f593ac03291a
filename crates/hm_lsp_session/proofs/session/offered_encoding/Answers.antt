use Rattle.hm_lsp_session.specs.Units.{utf16, utf8}
use Rattle.hm_lsp_session.proofs.session.offered_encoding.Goals as goal

pub returns-then-offers_utf8 : goal.returns-then-offers_utf8
returns-then-offers_utf8 c = utf8 (c.offers_utf8.ensures.yes c.if-offers_utf8.true)

pub returns : goal.returns
returns c = utf16 (c.offers_utf8.ensures.no c.if-offers_utf8.false)
