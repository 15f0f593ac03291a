use Rattle.std.proofs.Common.{◌≡◌, map, take}
use Rattle.serde_json.specs.View.{view}
use Rattle.hm_lsp_values.specs.Completions.{completion_data}
use Rattle.hm_lsp_values.proofs.completions.completions_value.Given as goal

abbrev pub invariant-names : goal.invariant-names
invariant-names l = map view l.items.items ≡ map (completion_data l.span.start l.span.end) (take l.name-index l.names)
