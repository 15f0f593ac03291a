use Rattle.std.proofs.Common.{rules, List, ℕ, map, subst}
use Rattle.hm_messages.proofs.InOrder.{each_mapped}
use Rattle.hm_messages.specs.Messages.{AreEach}
use Rattle.hm_build_exporters.specs.declared.exporters.Exporter.{Exporter}
use Rattle.hm_build_messages.specs.Exporters.{IsImportableNote}
use Rattle.hm_build_messages.specs.Searching.{file_of, format_of, number_of, set_of, source_of, status_in, view_of}
use Rattle.hm_build_messages.proofs.exporters.exporter_notes.Goals as goal

pub returns : goal.returns
returns c =
    let here = c.args.here.now in
    let found = c.as_slice.result.now in
    let told = IsImportableNote (format_of here) (file_of here) (source_of here) (set_of (view_of here)) (status_in (view_of here)) (number_of here) c.args.missing.space c.args.missing.name.now c.args.missing.place in
    (map (λ (e : Exporter). e.number) found, each_mapped (λ (e : Exporter). e.number) told found c.in_ok-all_notes_for.field-0.items c.in_ok-all_notes_for.ensures)
