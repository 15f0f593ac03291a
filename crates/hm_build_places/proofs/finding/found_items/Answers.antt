use Rattle.std.proofs.Common.{rules, ◌+◌, ◌-◌, length, map}
use Rattle.hm_messages_excerpts.specs.Excerpts.{IsRestOfLine}
use Rattle.hm_build_place_texts.specs.Facts.{item_of}
use Rattle.hm_build_places.specs.Answers.{AreFirstParts, HasItems, IsByteOf, line_start, on_line, with_column}
use Rattle.hm_build_places.specs.Known.{text_of}
use Rattle.hm_build_places.specs.Views.{known_of}
use Rattle.hm_build_places.proofs.finding.found_items.Goals as goal

pub returns : goal.returns
returns c =
    let k = known_of c.args.view.now in
    let bytes = c.bytes_before-bytes.result in
    let line : IsRestOfLine (text_of k c.args.source) (line_start c.args.line) c.in-Some.rest.now = search rules in
    let byte : IsByteOf c.in-Some.rest.now (c.args.column - 1) bytes = search rules in
    let items : AreFirstParts (HasItems k c.args.source (with_column c.args.line (bytes + 1))) (length k.set.modules) (map item_of c.in_ok-all_items.field-0.items) = search rules in
    on_line line byte items
