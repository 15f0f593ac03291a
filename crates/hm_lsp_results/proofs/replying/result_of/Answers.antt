use Rattle.std.proofs.Common.{rules, ◌≡◌, option_map}
use Rattle.serde_json.specs.View.{view}
use Rattle.hm_lsp_session.specs.declared.stages.Question.TheVariants.{CodeAction, Completion, DocumentSymbol, PrepareRename, Rename}
use Rattle.hm_lsp_results.specs.Asked.{subject_of}
use Rattle.hm_lsp_results.proofs.CompletionValues.{completion_of}
use Rattle.hm_lsp_results.proofs.DeclaredValues.{symbols_result}
use Rattle.hm_lsp_results.proofs.Offered.{actions_result}
use Rattle.hm_lsp_results.proofs.Refusals.{not_renamable_of, prepared_of, refused_of, renamed_of}
use Rattle.hm_lsp_results.proofs.replying.result_of.Goals as goal

pub returns-in_ok-actions-in-Some-clause-result : goal.returns-in_ok-actions-in-Some-clause-result
returns-in_ok-actions-in-Some-clause-result g c =
    let is : c.args.question ≡ CodeAction = search rules in
    actions_result (subject_of c.args.asked.now) c.args.question c.args.source (view c.args.request.now) (view c.in_ok-actions-in-Some.field-0) c.in-Some.range is c.in-Some.ensures c.in_ok-actions-in-Some.ensures

pub returns-then-eq-2-clause-result : goal.returns-then-eq-2-clause-result
returns-then-eq-2-clause-result g c =
    let is : c.args.question ≡ DocumentSymbol = search rules in
    symbols_result (subject_of c.args.asked.now) c.args.question c.args.source (view c.args.request.now) (view c.in_ok-symbols.field-0) is c.in_ok-symbols.ensures

pub returns-then-eq-3-clause-result : goal.returns-then-eq-3-clause-result
returns-then-eq-3-clause-result g c =
    let is : c.args.question ≡ Rename = search rules in
    renamed_of (subject_of c.args.asked.now) c.args.question c.args.source (view c.args.request.now) c.rename_result.result is c.rename_result.ensures.result

pub returns-then-eq-3-clause-refused : goal.returns-then-eq-3-clause-refused
returns-then-eq-3-clause-refused g c =
    let is : c.args.question ≡ Rename = search rules in
    refused_of (subject_of c.args.asked.now) c.args.question c.args.source (view c.args.request.now) c.rename_result.result is c.rename_result.ensures.refused

pub returns-then-eq-4-clause-result : goal.returns-then-eq-4-clause-result
returns-then-eq-4-clause-result g c =
    let is : c.args.question ≡ PrepareRename = search rules in
    prepared_of (subject_of c.args.asked.now) c.args.question c.args.source (view c.args.request.now) c.prepare_result.result is c.prepare_result.ensures.result

pub returns-then-eq-4-clause-refused : goal.returns-then-eq-4-clause-refused
returns-then-eq-4-clause-refused g c =
    let is : c.args.question ≡ PrepareRename = search rules in
    not_renamable_of (subject_of c.args.asked.now) c.args.question c.args.source (view c.args.request.now) c.prepare_result.result is c.prepare_result.ensures.refused

pub returns-then-eq-5-clause-result : goal.returns-then-eq-5-clause-result
returns-then-eq-5-clause-result g c =
    let is : c.args.question ≡ Completion = search rules in
    completion_of (subject_of c.args.asked.now) c.args.question c.args.source (view c.args.request.now) (option_map view c.in_ok-completion_result.field-0) is c.in_ok-completion_result.ensures
