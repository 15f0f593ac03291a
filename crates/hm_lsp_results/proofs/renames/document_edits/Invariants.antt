use Rattle.std.proofs.Common.{◌≤◌, length, map, take}
use Rattle.serde_json.specs.View.{view}
use Rattle.hm_lsp_results.specs.Asked.{subject_of}
use Rattle.hm_lsp_results.specs.Renames.{AreFirstEdits}
use Rattle.hm_lsp_results.proofs.renames.document_edits.Given as goal

abbrev pub invariant-sources : goal.invariant-sources
invariant-sources l = (l.from ≤ length l.references) × AreFirstEdits (subject_of l.asked) l.name l.source (take l.from l.references) (map view l.documents.items)
