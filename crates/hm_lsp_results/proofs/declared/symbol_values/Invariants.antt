use Rattle.std.proofs.Common.{◌≡◌, map, take}
use Rattle.std.specs.List.{AllZip}
use Rattle.serde_json.specs.View.{view}
use Rattle.hm_lsp_values.specs.Symbols.{IsSymbol}
use Rattle.hm_lsp_results.proofs.declared.symbol_values.Given as goal

abbrev pub invariant-symbols : goal.invariant-symbols
invariant-symbols l = (l.cursor ≡ record { encoding = l.asked.encoding; text = l.text }) × AllZip (IsSymbol l.asked.encoding l.text) (take l.symbol-index l.symbols) (map view l.values.items)
