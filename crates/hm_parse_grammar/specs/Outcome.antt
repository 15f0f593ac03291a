-- When a call of the parser returns a syntax fault.
use Rattle.std.specs.Prelude.{Result, Err}
use Rattle.hm_parse_grammar.specs.declared.fault.ParseFault.{ParseFault}
use Rattle.hm_parse_grammar.specs.declared.fault.ParseFault.TheVariants.{Syntax}

-- There is no tree, and the reason isn't that memory ran out.
abbrev pub IsSyntax : {X : Type 0} → Result X ParseFault → Type 0
IsSyntax (Err (Syntax place)) = Unit {0}
IsSyntax _ = ⊥
