use Rattle.std.proofs.Common.{rules, ◌<◌, ◌≡◌, ◌++◌, List, ℕ, get_or, length, subst, sym, take}
use Rattle.std.specs.Arc.{arc_value}
use Rattle.std.proofs.lemmas.List.{length-map, take_all}
use Rattle.hm_messages.proofs.InOrder.{taken_more}
use Rattle.hm_messages.specs.Messages.{AreEach}
use Rattle.hm_build_exporters.specs.Having.{IsExporter}
use Rattle.hm_build_exporters.specs.declared.exporters.Exporter.{Exporter}
use Rattle.hm_build_messages.specs.Exporters.{IsImportableNote}
use Rattle.hm_build_messages.specs.Searching.{file_of, format_of, number_of, set_of, source_of, status_in, view_of}
use Rattle.hm_build_messages.proofs.exporters.all_notes_for.Goals as goal

pub exporter_note-requires-clause-exporter : goal.exporter_note-requires-clause-exporter
exporter_note-requires-clause-exporter c =
    let here = c.args.here.now in
    let item : Exporter = c.exporter-item.result in
    let is : item ≡ get_or c.args.exporters.now c.loop-exporter.exporter-index item = search rules in
    subst (IsExporter (set_of (view_of here)) (status_in (view_of here)) (number_of here) c.args.missing.space c.args.missing.name.now) (sym is)
    (c.requires.exporters c.loop-exporter.exporter-index item c.loop-exporter-test.true)

pub exporter_note-requires-clause-modules : goal.exporter_note-requires-clause-modules
exporter_note-requires-clause-modules c =
    let here = c.args.here.now in
    let item : Exporter = c.exporter-item.result in
    let is : item ≡ get_or c.args.exporters.now c.loop-exporter.exporter-index item = search rules in
    let of : IsExporter (set_of (view_of here)) (status_in (view_of here)) (number_of here) c.args.missing.space c.args.missing.name.now item =
    subst (IsExporter (set_of (view_of here)) (status_in (view_of here)) (number_of here) c.args.missing.space c.args.missing.name.now) (sym is)
    (c.requires.exporters c.loop-exporter.exporter-index item c.loop-exporter-test.true) in
    subst (λ n. item.number < n) (length-map (view_of here).modules.now arc_value) of.within

pub loop-exporter-preserved : goal.loop-exporter-preserved
loop-exporter-preserved c =
    let here = c.args.here.now in
    let told = λ (e : Exporter) (t : List ℕ). IsImportableNote (format_of here) (file_of here) (source_of here) (set_of (view_of here)) (status_in (view_of here)) (number_of here) c.args.missing.space c.args.missing.name.now c.args.missing.place e.number t in
    let exporters = c.args.exporters.now in
    let i = c.loop-exporter.exporter-index in
    let item : Exporter = c.exporter-item.result in
    let is : item ≡ get_or exporters i item = search rules in
    let note = c.in_ok-note.note.items in
    let so : told item note = search rules in
    let pushed : c.extend_from_slice.new.self.items ≡ c.loop-exporter.text.items ++ note = search rules in
    taken_more told exporters i item c.loop-exporter.text.items c.extend_from_slice.new.self.items note (search rules) c.loop-exporter.invariant
    (subst (λ (e : Exporter). told e note) is so) pushed

pub returns : goal.returns
returns c =
    let here = c.args.here.now in
    let told = λ (e : Exporter) (t : List ℕ). IsImportableNote (format_of here) (file_of here) (source_of here) (set_of (view_of here)) (status_in (view_of here)) (number_of here) c.args.missing.space c.args.missing.name.now c.args.missing.place e.number t in
    let all : take c.loop-exporter.exporter-index c.args.exporters.now ≡ c.args.exporters.now = take_all _ _ (search rules) in
    subst (λ (l : List Exporter). AreEach told l c.loop-exporter.text.items) all c.loop-exporter.invariant
