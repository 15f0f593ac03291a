use Rattle.hm_lsp_session.proofs.Holding.{text_absent, text_closed, text_some}
use Rattle.hm_lsp_session.proofs.documents.Documents.text_of.Goals as goal

pub returns-in-None : goal.returns-in-None
returns-in-None c = text_absent c.args.self.now.items.items c.args.uri.now c.in-None.ensures

pub returns-in-Some-text : goal.returns-in-Some-text
returns-in-Some-text c =
    text_some c.args.self.now.items.items c.args.uri.now c.in-Some.index c.index.result.now c.in-Some-text.text c.as_slice.result.now c.in-Some.ensures c.index.ensures c.in-Some-text.is c.as_slice.ensures.value

pub returns-in-None-text : goal.returns-in-None-text
returns-in-None-text c = text_closed c.args.self.now.items.items c.args.uri.now c.in-Some.index c.index.result.now c.in-Some.ensures c.index.ensures c.in-None-text.is
