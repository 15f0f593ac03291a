use Rattle.hm_service_candidates.proofs.Edits.{if_none, not_span}
use Rattle.hm_service_candidates.specs.EditSteps.{HasSpan}
use Rattle.hm_service_messages.specs.Lines.{edit_of}
use Rattle.hm_service_candidates.proofs.edited.span_of.Goals as goal

pub returns-in_err-end-clause-none : goal.returns-in_err-end-clause-none
returns-in_err-end-clause-none c =
    let text = c.args.text.now in
    let e = edit_of c.args.edit.now in
    if_none c.from_residual-in_err-end.result (¬ (HasSpan text c.args.cursor.at e)) (not_span text c.args.cursor.at e c.in_ok-start.start.at c.in_ok-start.ensures.found c.in_err-end.ensures.none)
