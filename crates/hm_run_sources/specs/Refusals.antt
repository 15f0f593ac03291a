-- Why a set of sources is refused, and the line that is printed.
use Rattle.std.specs.Prelude.{ℕ, List, [], ◌++◌, codes, string_bytes}
use Rattle.std.specs.Fmt.{decimal}
use Rattle.hm_lex.specs.declared.token.Place.{Place}
use Rattle.hm_lex.specs.declared.token.LexFault.{LexFault}
use Rattle.hm_lex.specs.declared.token.LexFault.TheVariants as lexing
use Rattle.hm_parse_grammar.specs.declared.fault.ParseFault.{ParseFault}
use Rattle.hm_parse_grammar.specs.declared.fault.ParseFault.TheVariants as parsing
use Rattle.hm_graph.specs.declared.faults.PlanFault.{PlanFault}
use Rattle.hm_graph.specs.declared.faults.PlanFault.TheVariants as planning
use Rattle.hm_run_sources.specs.declared.faults.SetFaultKind.{SetFaultKind}
use Rattle.hm_run_sources.specs.declared.faults.SetFaultKind.TheVariants.{Lex, Parse, Plan}

-- why a set is refused: the number of a source, or the names of a module and an import
pub data Refusal : Type 0 where
  lex : ℕ → LexFault → Refusal
  parse : ℕ → ParseFault → Refusal
  plan : PlanFault → List ℕ → List ℕ → Refusal

abbrev pub refusal_of : SetFaultKind → Refusal
refusal_of (Lex source fault) = lex source fault
refusal_of (Parse source fault) = parse source fault
refusal_of (Plan fault m i) = plan fault (string_bytes m) (string_bytes i)

-- running out of memory isn't a reason to refuse a set
abbrev pub IsLasting : Refusal → Type 0
IsLasting (lex n lexing.Memory) = ⊥
IsLasting (parse n parsing.Memory) = ⊥
IsLasting (plan planning.Memory m i) = ⊥
IsLasting _ = Unit {0}

-- a line for a fault at a place of a source
abbrev pub at_place : ℕ → Place → List ℕ → List ℕ
at_place n p words = codes "refused: source " ++ decimal n ++ codes " at " ++ decimal p.line ++ codes ":" ++ decimal p.column ++ codes ": " ++ words ++ codes "\n"

-- the text of a refusal
abbrev pub refusal_text : Refusal → List ℕ
refusal_text (lex n lexing.TooLong) = codes "refused: source " ++ decimal n ++ codes " too long\n"
refusal_text (lex n (lexing.Lexeme p)) = at_place n p (codes "lexeme")
refusal_text (lex n (lexing.OpenComment p)) = at_place n p (codes "open comment")
refusal_text (lex n (lexing.TooDeep p)) = at_place n p (codes "too deep")
refusal_text (lex n lexing.Memory) = []
refusal_text (parse n (parsing.Syntax p)) = at_place n p (codes "syntax")
refusal_text (parse n parsing.Memory) = []
refusal_text (plan planning.TooMany m i) = codes "refused: too many modules\n"
refusal_text (plan (planning.Duplicate k) m i) = codes "refused: module " ++ m ++ codes " twice\n"
refusal_text (plan (planning.Missing k j) m i) = codes "refused: module " ++ m ++ codes " imports missing " ++ i ++ codes "\n"
refusal_text (plan (planning.Cycle k) m i) = codes "refused: module " ++ m ++ codes " in a cycle\n"
refusal_text (plan planning.Memory m i) = []
