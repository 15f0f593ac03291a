-- The JSON object of a refused set.
use Rattle.std.specs.Prelude.{ℕ, List, ◌++◌, Option, None, Some, codes}
use Rattle.serde_json.specs.Data.{Data, null, string, object, member, no_members}
use Rattle.serde_json.specs.Written.{compact_text}
use Rattle.hm_lex.specs.declared.token.Place.{Place}
use Rattle.hm_lex.specs.declared.token.LexFault.TheVariants as lexing
use Rattle.hm_parse_grammar.specs.declared.fault.ParseFault.TheVariants as parsing
use Rattle.hm_graph.specs.declared.faults.PlanFault.TheVariants as planning
use Rattle.hm_build_objects.specs.Objects.{count}
use Rattle.hm_run_sources.specs.Refusals.{Refusal, lex, parse, plan}

abbrev pub text_or_null : Option (List ℕ) → Data
text_or_null None = null
text_or_null (Some text) = string text

abbrev pub count_or_null : Option ℕ → Data
count_or_null None = null
count_or_null (Some n) = count n

abbrev pub place_or_null : Option Place → Data
place_or_null None = null
place_or_null (Some p) = object (member (codes "column") (count p.column) (member (codes "line") (count p.line) no_members))

-- why a set is refused, the source by its number, and what else is known
abbrev pub refused_data : List ℕ → Data → Data → Data → Data → Data
refused_data reason source place owner import = object (member (codes "import") import
    (member (codes "kind") (string (codes "refused"))
    (member (codes "module") owner
    (member (codes "place") place
    (member (codes "reason") (string reason)
    (member (codes "source") source no_members))))))

abbrev pub placed_data : List ℕ → ℕ → Option Place → Data
placed_data reason n place = refused_data reason (count n) (place_or_null place) null null

-- the reasons have the words of messages
abbrev pub refusal_data : Refusal → Data
refusal_data (lex n lexing.TooLong) = placed_data (codes "too-long") n None
refusal_data (lex n (lexing.Lexeme p)) = placed_data (codes "lexeme") n (Some p)
refusal_data (lex n (lexing.OpenComment p)) = placed_data (codes "open-comment") n (Some p)
refusal_data (lex n (lexing.TooDeep p)) = placed_data (codes "too-deep") n (Some p)
refusal_data (lex n lexing.Memory) = null
refusal_data (parse n (parsing.Syntax p)) = placed_data (codes "syntax") n (Some p)
refusal_data (parse n parsing.Memory) = null
refusal_data (plan planning.TooMany m i) = refused_data (codes "too-many-modules") null null null null
refusal_data (plan (planning.Duplicate k) m i) = refused_data (codes "twice") null null (string m) null
refusal_data (plan (planning.Missing k j) m i) = refused_data (codes "missing") null null (string m) (string i)
refusal_data (plan (planning.Cycle k) m i) = refused_data (codes "cycle") null null (string m) null
refusal_data (plan planning.Memory m i) = null

abbrev pub refusal_object_text : Refusal → List ℕ
refusal_object_text r = compact_text (refusal_data r) ++ codes "\n"
