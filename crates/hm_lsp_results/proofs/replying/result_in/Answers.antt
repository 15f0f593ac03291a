use Rattle.std.proofs.Common.{rules, ◌≡◌, option_map}
use Rattle.serde_json.specs.View.{view}
use Rattle.hm_lsp_session.specs.declared.stages.Question.TheVariants.{WorkspaceSymbol}
use Rattle.hm_lsp_results.specs.Asked.{subject_of}
use Rattle.hm_lsp_results.proofs.Refusals.{result_in_document, result_in_folder}
use Rattle.hm_lsp_results.proofs.replying.result_in.Goals as goal

pub returns-then-eq-clause-result : goal.returns-then-eq-clause-result
returns-then-eq-clause-result g c =
    let is : c.args.question ≡ WorkspaceSymbol = search rules in
    result_in_folder (subject_of c.args.asked.now) c.args.question (view c.args.request.now) (option_map view c.in_ok-found_in.field-0) is c.in_ok-found_in.ensures

pub returns-clause-result : goal.returns-clause-result
returns-clause-result g c =
    let other : ¬ (c.args.question ≡ WorkspaceSymbol) = search rules in
    result_in_document (subject_of c.args.asked.now) c.args.question (view c.args.request.now) c.document_result.result other c.document_result.ensures.result
