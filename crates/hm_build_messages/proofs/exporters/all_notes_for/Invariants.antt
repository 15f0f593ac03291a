use Rattle.std.proofs.Common.{take}
use Rattle.hm_messages.specs.Messages.{AreEach}
use Rattle.hm_build_messages.specs.Exporters.{IsImportableNote}
use Rattle.hm_build_messages.specs.Searching.{file_of, format_of, number_of, set_of, source_of, status_in, view_of}
use Rattle.hm_build_messages.proofs.exporters.all_notes_for.Given as goal

abbrev pub invariant-loop-exporter : goal.invariant-loop-exporter
invariant-loop-exporter l =
    AreEach (λ e t. IsImportableNote (format_of l.here) (file_of l.here) (source_of l.here) (set_of (view_of l.here)) (status_in (view_of l.here)) (number_of l.here) l.missing.space l.missing.name.now l.missing.place e.number t)
    (take l.exporter-index l.exporters) l.text.items
