use Rattle.std.proofs.Common.{◌≡◌, count_by, take, string_bytes}
use Rattle.hm_store.specs.Builds.{set_of}
use Rattle.hm_store.specs.Objects.{is_publication}
use Rattle.hm_build_reports.specs.Journals.{entry_lines}
use Rattle.hm_build_reports.proofs.journals.journal_text.Given as goal

abbrev pub invariant-loop-entry : goal.invariant-loop-entry
invariant-loop-entry l = (string_bytes l.text ≡ entry_lines (set_of l.store) 0 (take l.entry-index l.journal)) × (l.publications ≡ count_by is_publication (take l.entry-index l.journal))
