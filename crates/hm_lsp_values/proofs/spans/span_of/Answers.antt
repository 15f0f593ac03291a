use Rattle.hm_lsp_values.proofs.Walked.{span_found}
use Rattle.hm_lsp_values.proofs.spans.span_of.Goals as goal

pub returns-clause-span : goal.returns-clause-span
returns-clause-span c =
    span_found c.args.cursor.now c.position_of-first.new.self c.text.result.now c.args.line c.args.column c.args.size c.offset_of-start.result c.end_of-end.result c.position_at.result c.position_of-first.result c.position_of-last.result c.position_at.ensures
    c.offset_of-start.ensures.place c.text.ensures c.end_of-end.ensures c.position_of-first.ensures.place c.position_of-first.ensures.same c.position_of-last.ensures.place
