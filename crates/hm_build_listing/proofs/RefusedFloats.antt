-- No part of a refusal's object is a float.
use Rattle.std.proofs.Common.{◌≡◌, false, refl}
use Rattle.serde_json.specs.Written.{has_float}
use Rattle.hm_lex.specs.declared.token.LexFault.TheVariants as lexing
use Rattle.hm_parse_grammar.specs.declared.fault.ParseFault.TheVariants as parsing
use Rattle.hm_graph.specs.declared.faults.PlanFault.TheVariants as planning
use Rattle.hm_run_sources.specs.Refusals.{Refusal, lex, parse, plan}
use Rattle.hm_build_listing.specs.Refusals.{refusal_data}

pub no_floats : (r : Refusal) → has_float (refusal_data r) ≡ false
no_floats (lex n lexing.TooLong) = refl
no_floats (lex n (lexing.Lexeme p)) = refl
no_floats (lex n (lexing.OpenComment p)) = refl
no_floats (lex n (lexing.TooDeep p)) = refl
no_floats (lex n lexing.Memory) = refl
no_floats (parse n (parsing.Syntax p)) = refl
no_floats (parse n parsing.Memory) = refl
no_floats (plan planning.TooMany m i) = refl
no_floats (plan (planning.Duplicate k) m i) = refl
no_floats (plan (planning.Missing k j) m i) = refl
no_floats (plan (planning.Cycle k) m i) = refl
no_floats (plan planning.Memory m i) = refl
