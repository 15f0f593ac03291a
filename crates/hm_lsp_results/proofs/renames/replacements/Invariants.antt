use Rattle.std.proofs.Common.{◌≡◌, map, take}
use Rattle.std.specs.List.{AllZip}
use Rattle.serde_json.specs.View.{view}
use Rattle.hm_lsp_values.specs.Renames.{IsReplacement}
use Rattle.hm_lsp_results.proofs.renames.replacements.Given as goal

abbrev pub invariant-references : goal.invariant-references
invariant-references l = (l.cursor ≡ record { encoding = l.asked.encoding; text = l.text }) × AllZip (IsReplacement l.asked.encoding l.text l.name) (take l.reference-index l.references) (map view l.edits.items)
