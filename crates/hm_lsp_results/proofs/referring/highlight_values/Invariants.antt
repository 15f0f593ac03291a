use Rattle.std.proofs.Common.{◌≡◌, map, take}
use Rattle.std.specs.List.{AllZip, filter}
use Rattle.serde_json.specs.View.{view}
use Rattle.hm_lsp_results.specs.References.{is_in}
use Rattle.hm_lsp_values.specs.References.{IsHighlight}
use Rattle.hm_lsp_results.proofs.referring.highlight_values.Given as goal

abbrev pub invariant-references : goal.invariant-references
invariant-references l = (l.cursor ≡ record { encoding = l.asked.encoding; text = l.text }) × AllZip (IsHighlight l.asked.encoding l.text) (filter (is_in l.source) (take l.reference-index l.references)) (map view l.values.items)
