use Rattle.std.proofs.Common.{rules, ◌≡◌, ◌∙◌, List, ℕ, map, string_bytes, subst, sym}
use Rattle.hm_messages_json.specs.Edits.{changed_of}
use Rattle.hm_messages_json.specs.declared.changes.Change.{Change}
use Rattle.hm_messages_exporters.specs.Changes.{IsImportPut, import_text}
use Rattle.hm_build_reports.proofs.Reporting.{name_by_place}
use Rattle.hm_messages.specs.Messages.{IsMessageWith, changes_alone}
use Rattle.hm_messages.specs.Subjects.{importable}
use Rattle.hm_build_messages.specs.Exporters.{name_in}
use Rattle.hm_build_messages.specs.Searching.{file_of, format_of, set_of, source_of, view_of}
use Rattle.hm_build_messages.proofs.exporters.exporter_note.Goals as goal

pub returns : goal.returns
returns c =
    let here = c.args.here.now in
    let view = view_of here in
    let k = c.args.exporter.number in
    let x = c.args.missing.name.now in
    let text = c.in_ok-message_with.field-0.items in
    let name : List ℕ = c.as_str-name.result.now in
    let item = string_bytes c.in_ok-item.item in
    let rows = c.in_ok-changes.changes.items in
    let changes = map changed_of rows in
    let named : name ≡ name_in (set_of view) k = search rules ∙ sym (name_by_place view.modules.now view.plan.now k c.index-modules-exporter.result c.requires.modules c.index-modules-exporter.is) in
    record {
      interface = c.args.exporter.interface.now;
      is_importable = c.requires.exporter;
      item = item;
      listed = c.in_ok-item.ensures;
      changes = changes;
      put = subst (λ (n : List ℕ). IsImportPut (source_of here) (import_text n item) changes) named
          (subst (λ (i : List ℕ). IsImportPut (source_of here) (import_text name i) changes) c.as_str.ensures.value (c.in_ok-changes.ensures (source_of here) c.requires.body));
      stated = subst (λ (n : List ℕ). IsMessageWith (format_of here) (file_of here) (source_of here) c.args.missing.place (importable n x) (changes_alone changes) text) named
          (subst (λ (l : List Change). IsMessageWith (format_of here) (file_of here) (source_of here) c.args.missing.place (importable name x) (changes_alone (map changed_of l)) text) c.as_slice.ensures.value
          c.in_ok-message_with.ensures);
    }
