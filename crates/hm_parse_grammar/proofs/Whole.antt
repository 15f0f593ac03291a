-- The whole list of tokens is read as it is spelled.
use Rattle.std.proofs.Common.{◌≡◌, ◌<◌, ◌≤◌, ℕ, List, [], ◌∷◌, length, Option, Some, None, Result, Ok, Err, IfOk, refl, sym, ◌∙◌, cond, arith}
use Rattle.hm_lex.specs.declared.token.Token.{Token}
use Rattle.hm_syntax.specs.Trees.{Declaration}
use Rattle.hm_syntax.specs.declared.ast.Import.{Import}
use Rattle.hm_syntax.specs.declared.ast.Module.{Module}
use Rattle.hm_parse_grammar.specs.declared.fault.ParseFault.{ParseFault}
use Rattle.hm_parse_grammar.specs.declared.fault.ParseFault.TheVariants.{Syntax, Memory}
use Rattle.hm_parse_grammar.specs.Tokens.{Terminal, terminals}
use Rattle.hm_parse_grammar.specs.Outcome.{IsSyntax}
use Rattle.hm_parse_grammar.specs.Reading.Answers.{Gives, Parses}
use Rattle.hm_parse_grammar.specs.Grammar.Marks.{Items, items_none, items_last, items_empty, items_more}
use Rattle.hm_parse_grammar.specs.Grammar.Expressions.{Topdecl}
use Rattle.hm_parse_grammar.specs.Grammar.Modules.{Body, body_decls, body_import, body_empty, body_more, Module', «module», Source, source_none, source_more, Spells}
use Rattle.hm_parse_grammar.specs.Reading.Basics.{◌>>=◌, is_done, loop}
use Rattle.hm_parse_grammar.specs.Reading.Modules.{module_at, next_module, source_of}
use Rattle.hm_parse_grammar.proofs.Holds.{Holds, holds_some, holds_then}
use Rattle.hm_parse_grammar.proofs.Rows.{Step, Steps, loop_stops, loop_takes, loop_found}
use Rattle.hm_parse_grammar.proofs.HeaderLaws.{exports_short, import_short}
use Rattle.hm_parse_grammar.proofs.TopdeclLaws.{topdecl_reads}
use Rattle.hm_parse_grammar.proofs.ModuleLaws.{module_found, module_only}

items_short : {ds : List Declaration} {ts rest : List Terminal} → Items Topdecl ds ts rest → length rest ≤ length ts
items_short items_none = omega arith
items_short (items_last d) = omega (arith, topdecl_reads.short _ _ _ d)
items_short (items_empty q t) = omega (arith, items_short t)
items_short (items_more d q t) = omega (arith, topdecl_reads.short _ _ _ d, items_short t)

body_short : {is : List Import} {ds : List Declaration} {ts rest : List Terminal} → Body is ds ts rest → length rest ≤ length ts
body_short (body_decls t) = items_short t
body_short (body_import d) = omega (arith, import_short d)
body_short (body_empty q t) = omega (arith, body_short t)
body_short (body_more d q t) = omega (arith, import_short d, body_short t)

module_short : {m : Module} {ts rest : List Terminal} → Module' m ts rest → length rest < length ts
module_short («module» k c es w o b r) = omega (arith, exports_short es, body_short b)

-- modules, through the end
pub record ModulesTo (ms : List Module) (ts us : List Terminal) : Type 0 where
  pub source : Source ms ts

module_step : (ts : List Terminal) → Holds (Step ModulesTo ts) (next_module ts)
unfolding next_module
module_step [] = holds_some (None, []) (record { source = source_none })
module_step (k ∷ ts) =
    holds_then _ _ (module_found (k ∷ ts)) (λ (m : Module × List Terminal) d.
    holds_some (Some m.0, m.1) (module_short d, λ ms vs t. record { source = source_more d t.source }))

pub module_steps : Steps ModulesTo next_module
module_steps = record { step = module_step }

pub source_found : (ts : List Terminal) → Holds (λ ms. Source ms ts) (source_of ts)
unfolding source_of
source_found ts = holds_then _ _ (loop_found module_steps ts) (λ ms d. holds_some ms.0 d.source)

modules_only : {ms : List Module} {ts : List Terminal} → Source ms ts → loop next_module ts ≡ Some (ms, [])
unfolding next_module
modules_only source_none = loop_stops module_steps [] [] refl
modules_only (source_more {m = m} {ts = ts} {us = us} d t) =
    loop_takes module_steps ts us m (taken ts d) ∙ rw (modules_only t) refl
  where
    taken : (ss : List Terminal) → Module' m ss us → cond {A = Option (Option Module × List Terminal)} (is_done ss) (Some (None, ss)) (module_at ss >>= λ x. Some (Some x.0, x.1)) ≡ Some (Some m, us)
    taken [] e = absurd (omega (arith, module_short e))
    taken (k ∷ ss) e = rw (module_only e) refl

pub source_only : {ms : List Module} {ts : List Terminal} → Source ms ts → source_of ts ≡ Some ms
unfolding source_of
source_only d = rw (modules_only d) refl

parses : {X : Type 0} (view : X → List Module) (ts : List Terminal) (result : Result X ParseFault) → Gives view result (source_of ts) → Parses view (λ ms. Source ms ts) result
parses view ts (Ok x) h = record {
  found = (source_found ts).holds (view x) h;
  only = λ y d. let same : ◌≡◌ {A = Option (List Module)} (Some y) (Some (view x)) = sym (source_only d) ∙ h in cc;
  none = λ s. absurd s;
}
parses view ts (Err Memory) h = record { found = tt; only = tt; none = λ s. absurd s }
parses view ts (Err (Syntax p)) h = record {
  found = tt;
  only = tt;
  none = λ s y d. let same : ◌≡◌ {A = Option (List Module)} (Some y) None = sym (source_only d) ∙ h in cc;
}

-- what `parse` ensures, clause by clause
pub reading_spelled : {X : Type 0} (view : X → List Module) (ts : List Terminal) (result : Result X ParseFault) → Gives view result (source_of ts) → IfOk result (λ x. Source (view x) ts)
reading_spelled view ts result h = (parses view ts result h).found

pub reading_only : {X : Type 0} (view : X → List Module) (ts : List Terminal) (result : Result X ParseFault) → Gives view result (source_of ts) → IfOk result (λ x. (y : List Module) → Source y ts → y ≡ view x)
reading_only view ts result h = (parses view ts result h).only

pub reading_none : {X : Type 0} (view : X → List Module) (ts : List Terminal) (result : Result X ParseFault) → Gives view result (source_of ts) → IsSyntax result → (y : List Module) → Source y ts → ⊥
reading_none view ts result h = (parses view ts result h).none

-- a list of tokens has one reading at most
one_reading : (ms ns : List Module) (ts : List Terminal) → Source ms ts → Source ns ts → ms ≡ ns
one_reading ms ns ts d e = let same : ◌≡◌ {A = Option (List Module)} (Some ms) (Some ns) = sym (source_only d) ∙ source_only e in cc

pub spelled_once : (source : List ℕ) (tokens : List Token) (modules others : List Module) → Spells modules source tokens → Spells others source tokens → modules ≡ others
spelled_once source tokens modules others d e = one_reading modules others (terminals source tokens) d e
