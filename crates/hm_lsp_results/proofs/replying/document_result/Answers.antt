use Rattle.serde_json.specs.View.{view}
use Rattle.hm_lsp_results.specs.Asked.{subject_of}
use Rattle.hm_lsp_results.proofs.Refusals.{refused_document, result_of_document}
use Rattle.hm_lsp_results.proofs.replying.document_result.Goals as goal
use Rattle.std.proofs.Common.{subst}
use Rattle.hm_lsp_results.specs.Asked.{IsSourceIn}

pub returns-in-Some-clause-result : goal.returns-in-Some-clause-result
returns-in-Some-clause-result g c =
    let source = subst (IsSourceIn c.args.asked.now.sources.now (view c.args.request.now)) c.in-Some.is c.in_ok-source_in.ensures in
    result_of_document (subject_of c.args.asked.now) c.args.question c.in-Some.source (view c.args.request.now) c.result_of.result source c.result_of.ensures.result

pub returns-in-Some-clause-refused : goal.returns-in-Some-clause-refused
returns-in-Some-clause-refused g c =
    let source = subst (IsSourceIn c.args.asked.now.sources.now (view c.args.request.now)) c.in-Some.is c.in_ok-source_in.ensures in
    refused_document (subject_of c.args.asked.now) c.args.question c.in-Some.source (view c.args.request.now) c.result_of.result source c.result_of.ensures.refused
