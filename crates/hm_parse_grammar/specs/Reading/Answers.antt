-- The results of the crate's own functions, beside those of reading. No public clause names these.
use Rattle.std.specs.Prelude.{◌≡◌, Option, Some, None, Result, Ok, Err, IfOk}
use Rattle.hm_parse_grammar.specs.declared.fault.ParseFault.{ParseFault}
use Rattle.hm_parse_grammar.specs.declared.fault.ParseFault.TheVariants.{Syntax, Memory}
use Rattle.hm_parse_grammar.specs.Outcome.{IsSyntax}

abbrev pub Fails : {Y : Type 0} → ParseFault → Option Y → Type 0
Fails Memory read = Unit {0}
Fails (Syntax place) read = read ≡ None

-- The result, mapped by view, is that of reading, unless memory ran out.
abbrev pub Gives : {X Y : Type 0} → (X → Y) → Result X ParseFault → Option Y → Type 0
Gives view (Ok x) read = read ≡ Some (view x)
Gives view (Err e) read = Fails e read

-- The contract of a parser with results mapped by view: its result is spelled, nothing else is, and after a syntax fault nothing is.
pub record Parses {X Y : Type 0} (view : X → Y) (IsSpelled : Y → Type 0) (result : Result X ParseFault) : Type 0 where
  pub found : IfOk result (λ x. IsSpelled (view x))
  pub only : IfOk result (λ x. (y : Y) → IsSpelled y → y ≡ view x)
  pub none : IsSyntax result → (y : Y) → IsSpelled y → ⊥
