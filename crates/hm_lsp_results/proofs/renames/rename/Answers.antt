use Rattle.std.proofs.Common.{subst}
use Rattle.serde_json.specs.View.{view}
use Rattle.hm_lsp_results.specs.Asked.{subject_of}
use Rattle.hm_lsp_results.specs.Renames.{AreEdits, nowhere}
use Rattle.hm_lsp_results.proofs.RenameEdits.{refusal_at, value_of_edits}
use Rattle.hm_lsp_results.proofs.Requests.{null_is}
use Rattle.hm_lsp_results.proofs.renames.rename.Goals as goal

pub returns-in_default-clause-value : goal.returns-in_default-clause-value
returns-in_default-clause-value g c = nowhere c.in_default.ensures.none null_is

pub returns-in-Refused-clause-refused : goal.returns-in-Refused-clause-refused
returns-in-Refused-clause-refused g c =
    refusal_at (subject_of c.args.asked.now) c.args.source c.args.name.now c.args.position c.in-Some.place c.in-Refused.refusal c.in_ok-refusal.field-0 c.in-Some.ensures.some c.in_ok-refusal.ensures c.in-Refused.is

pub returns-in_ok-edits-in-Edits-clause-value : goal.returns-in_ok-edits-in-Edits-clause-value
returns-in_ok-edits-in-Edits-clause-value g c =
    value_of_edits (subject_of c.args.asked.now) c.args.source c.args.name.now c.args.position c.in-Some.place c.in-Edits.references c.in_ok-refusal.field-0 (view c.in_ok-edits-in-Edits.field-0) c.in-Some.ensures.some c.in_ok-refusal.ensures c.in-Edits.is
    (subst (λ l. AreEdits (subject_of c.args.asked.now) c.args.name.now l (view c.in_ok-edits-in-Edits.field-0)) c.as_slice.ensures.value c.in_ok-edits-in-Edits.ensures)
