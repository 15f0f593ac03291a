use Rattle.std.proofs.Common.{◌≡◌, ◌≤◌, ◌-◌, ◌∷◌, string_bytes}
use Rattle.hm_parse_grammar.specs.Grammar.Patterns.{commas}
use Rattle.hm_parse_descent.proofs.patterns.tuple_text.Given as goal

abbrev pub invariant-commas : goal.invariant-commas
invariant-commas l = record {
  text : string_bytes l.text ≡ 40 ∷ commas l.written;
  within : l.written ≤ l.commas;
}

abbrev pub decreases-commas : goal.decreases-commas
decreases-commas l = l.commas - l.written
