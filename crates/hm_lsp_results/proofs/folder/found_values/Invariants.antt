use Rattle.std.proofs.Common.{◌≡◌, map, take}
use Rattle.std.specs.List.{AllZip, filter}
use Rattle.serde_json.specs.View.{view}
use Rattle.hm_lsp_results.specs.Asked.{subject_of}
use Rattle.hm_lsp_results.specs.Symbols.{IsFound, is_found}
use Rattle.hm_lsp_results.specs.Walks.{walks_of}
use Rattle.hm_lsp_results.proofs.folder.found_values.Given as goal

abbrev pub invariant-symbols : goal.invariant-symbols
invariant-symbols l = (l.cursors.items ≡ walks_of (subject_of l.asked)) × AllZip (IsFound (subject_of l.asked)) (filter (is_found (subject_of l.asked) l.query) (take l.one-index l.symbols)) (map view l.values.items)
