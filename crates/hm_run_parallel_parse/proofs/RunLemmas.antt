-- Runs of tokens, one behind the other; and a source that is alone in its set.
use Rattle.std.proofs.Common.{◌≡◌, ℕ, List, [], ◌∷◌, ◌++◌, length, take, drop, map, get_or, Option, Some, None, Result, Ok, Err, IfOk, IfSome, refl, sym, subst, arith}
use Rattle.std.proofs.lemmas.List.{map-append}
use Rattle.std.specs.List.{All}
use Rattle.std.proofs.lemmas.List.Elements.{All-take, All-drop}
use Rattle.hm_lex.specs.declared.token.Token.{Token}
use Rattle.hm_lex.specs.Texts.{LiesIn}
use Rattle.hm_syntax.specs.declared.ast.Module.{Module}
use Rattle.hm_parse_grammar.specs.Tokens.{terminal_of}
use Rattle.hm_parse_grammar.specs.Grammar.Modules.{Source, Spells}
use Rattle.hm_run_sources.specs.Errors.{IsSetError, IsSourceError}
use Rattle.hm_run_sources.specs.declared.sets.SetError.{SetError}
use Rattle.hm_run_sources.proofs.Reading.{first_fault}
use Rattle.hm_run_parallel_parse.proofs.SpelledBefore.{sources_join}

-- what two runs spell, one behind the other
pub runs_join : (source : List ℕ) (ts us : List Token) (ms ns : List Module) → Spells ms source ts → Spells ns source us → Spells (ms ++ ns) source (ts ++ us)
runs_join source ts us ms ns d e = subst (Source (ms ++ ns)) (sym (map-append (terminal_of source) ts us)) (sources_join d e)

-- the modules that tokens spell, if any are told
abbrev Told : {X E : Type 0} → (X → List Module) → List ℕ → List Token → Result (Option X) E → Type 0
Told view text ts r = IfOk r (λ found. IfSome found (λ ms. Spells (view ms) text ts))

pub both_runs : {X E : Type 0} (view : X → List Module) (text : List ℕ) (ts fs bs : List Token) (first later r : Result (Option X) E)
    → IfOk r (λ found. IfSome found (λ ms. (t : List ℕ) (us vs : List Token) → Told view t us first → Told view t vs later → Spells (view ms) t (us ++ vs)))
    → ts ≡ fs ++ bs → Told view text fs first → Told view text bs later → Told view text ts r
both_runs view text ts fs bs first later (Ok (Some ms)) h q f l = subst (Spells (view ms) text) (sym q) (h text fs bs f l)
both_runs view text ts fs bs first later (Ok None) h q f l = tt
both_runs view text ts fs bs first later (Err e) h q f l = tt

-- the tokens of a run lie where all tokens lie
pub front_lies : (source : List ℕ) (ts fs : List Token) (n : ℕ) → All (LiesIn source) ts → fs ≡ take n ts → All (LiesIn source) fs
front_lies source ts fs n h q = subst (All (LiesIn source)) (sym q) (All-take (LiesIn source) n ts h)

pub behind_lies : (source : List ℕ) (ts bs : List Token) (n : ℕ) → All (LiesIn source) ts → bs ≡ drop n ts → All (LiesIn source) bs
behind_lies source ts bs n h q = subst (All (LiesIn source)) (sym q) (All-drop (LiesIn source) n ts h)

-- the only source of a set
pub alone_fails : {X : Type 0} (view : X → List ℕ) (xs : List X) (d : X) (e : SetError) → length xs ≡ 1 → IsSourceError 1 (view (get_or xs 0 d)) e → IsSetError (map view xs) e
alone_fails view [] d e q h = absurd (omega arith)
alone_fails view (x ∷ []) d e q h = first_fault (view x ∷ []) [] (view x) [] [] 1 e refl refl refl h
alone_fails view (x ∷ y ∷ xs) d e q h = absurd (omega arith)
