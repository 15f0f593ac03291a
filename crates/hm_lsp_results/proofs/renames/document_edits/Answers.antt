use Rattle.std.proofs.Common.{◌≤◌, ap, arith, rules, slice_range, take}
use Rattle.hm_lsp_results.specs.Asked.{subject_of}
use Rattle.hm_lsp_results.proofs.RenameEdits.{edits_none, edits_within, edits_without, first_parts, some_part}
use Rattle.hm_lsp_results.proofs.renames.document_edits.Goals as goal
use Rattle.hm_lsp_results.proofs.renames.document_edits.Goals.{then-from-end+in_ok-document_edit+in_ok-push, else-from-end}

pub sources-init : goal.sources-init
sources-init c = (omega arith, edits_none (subject_of c.args.asked.now) c.args.name.now c.new-documents.result.items c.new-documents.ensures.items)

pub sources-preserved : goal.sources-preserved
sources-preserved c =
    let refs = c.args.references.now in
    let from = c.sources.from in
    let end = c.end_of-end.result in
    let low : from ≤ end = c.end_of-end.ensures.later in
    let high = c.end_of-end.ensures.within in (
      high,
      elim c.if-from-end.branch [
        | then-from-end+in_ok-document_edit+in_ok-push w ↦
            edits_within (subject_of c.args.asked.now) c.args.name.now c.sources.source (take from refs) (slice_range refs from end) (take end refs) c.sources.documents.items c.if-from-end.documents.items w.in_ok-document_edit.field-0
            c.sources.invariant.1 (some_part refs from end w.if-from-end.true high) c.end_of-end.ensures.own w.in_ok-document_edit.ensures (first_parts refs from end low high) (search rules)
        | else-from-end w ↦
            edits_without (subject_of c.args.asked.now) c.args.name.now c.sources.source from end refs c.sources.documents.items c.if-from-end.documents.items low (search rules) c.sources.invariant.1 (ap (λ v. v.items) w.documents-is)
      ],
    )
