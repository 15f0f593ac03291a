use Rattle.std.proofs.Common.{ap, map, subst}
use Rattle.serde_json.specs.View.{view}
use Rattle.hm_lsp_serving.specs.Turns.{AreWritten}
use Rattle.hm_lsp_serving.proofs.Turning.{published_of}
use Rattle.hm_lsp_serving.proofs.turns.publish.Goals as goal

pub returns-clause-published : goal.returns-clause-published
returns-clause-published g c =
    let of = g.W.Write.contents in
    let e = c.in_ok-publish.ensures in
    let written = subst (λ messages. AreWritten (of c.args.writer.now) (of c.send.new.writer) (map view messages)) c.deref.ensures.value c.in_ok-send.ensures in
    published_of c.args.serving.now.server c.publish.new.self (of c.args.writer.now) (of c.send.new.writer) (map view c.new-sent.result.items) (map view c.publish.new.sent.items) (ap (map view) c.new-sent.ensures.items) e.published
    e.session e.sources e.held written
