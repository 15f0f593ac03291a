use Rattle.std.proofs.Common.{◌≡◌, map, drop}
use Rattle.hm_parse_grammar.specs.Symbols.{find_symbol}
use Rattle.hm_parse_grammar.proofs.symbol.find.Given as goal

abbrev pub invariant-loop-word : goal.invariant-loop-word
invariant-loop-word l =
    find_symbol l.text (map (λ entry. (entry.0.now, entry.1)) (drop l.word-index l.table)) ≡ find_symbol l.text (map (λ entry. (entry.0.now, entry.1)) l.table)
