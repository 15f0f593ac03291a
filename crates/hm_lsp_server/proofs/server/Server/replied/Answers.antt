use Rattle.serde_json.specs.View.{view}
use Rattle.hm_lsp_results.specs.Asked.{subject_of}
use Rattle.hm_lsp_server.proofs.Serving.{served_by}
use Rattle.hm_lsp_server.proofs.server.Server.replied.Goals as goal

pub returns-clause-served : goal.returns-clause-served
returns-clause-served g c =
    served_by c.args.self.now c.in-Some-checked.checked (subject_of c.asked-asked.result) c.args.question (view c.args.request.now) (view c.in-Some.id.now) c.replied.result c.in-Some-checked.is
    c.requires c.asked-asked.ensures c.in-Some.ensures c.replied.ensures.value
