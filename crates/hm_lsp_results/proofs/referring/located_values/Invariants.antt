use Rattle.std.proofs.Common.{◌≡◌, map, take}
use Rattle.std.specs.List.{AllZip, filter}
use Rattle.serde_json.specs.View.{view}
use Rattle.hm_lsp_results.specs.Asked.{subject_of}
use Rattle.hm_lsp_results.specs.References.{IsLocated, is_located}
use Rattle.hm_lsp_results.specs.Walks.{walks_of}
use Rattle.hm_lsp_results.proofs.referring.located_values.Given as goal

abbrev pub invariant-references : goal.invariant-references
invariant-references l = (l.cursors.items ≡ walks_of (subject_of l.asked)) × AllZip (IsLocated (subject_of l.asked)) (filter (is_located (subject_of l.asked) l.declarations) (take l.reference-index l.references)) (map view l.values.items)
