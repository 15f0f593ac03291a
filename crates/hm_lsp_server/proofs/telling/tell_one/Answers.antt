use Rattle.std.proofs.Common.{◌∙◌, ap, map, string_bytes, sym}
use Rattle.std.specs.Prelude.{option_map}
use Rattle.serde_json.specs.View.{view}
use Rattle.hm_lsp_sources.specs.declared.source.Source.{Source}
use Rattle.hm_lsp_server.proofs.Told.{told_both}
use Rattle.hm_lsp_server.proofs.telling.tell_one.Goals as goal

pub returns : goal.returns
returns c =
    let telling = c.args.telling.now in
    let second = option_map (λ s. s.now) telling.second in
    let first = c.in_ok-clear.ensures in
    let later = c.in_ok-send_one.ensures in
    told_both telling.encoding telling.sources.now telling.held.now telling.checked.now second (option_map (λ u. u.now) c.args.shown) c.args.number c.index-telling-number.result c.as_str-uri.result.now (option_map string_bytes c.in_ok-send_one.field-0)
    (map view c.args.sent.now.items) (map view c.clear.new.sent.items) (map view c.send_one.new.sent.items) first.0 later.0 c.requires c.index-telling-number.is (c.as_str-uri.ensures.value ∙ ap (λ (x : Source). string_bytes x.uri) (sym c.index-telling-number.is))
    first.1 first.2 later.1 later.2
