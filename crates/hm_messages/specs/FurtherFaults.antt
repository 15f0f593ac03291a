-- The faults of sources after the one for which a set is refused.
use Rattle.std.specs.Prelude.{◌≡◌, ℕ, ◌+◌, ◌-◌, List, [], ◌∷◌, ◌++◌, Option, None, Some, drop, map, slice_index_or}
use Rattle.hm_lex.specs.declared.token.LexFault.TheVariants as lexing
use Rattle.hm_lex.specs.declared.token.Place.{Place}
use Rattle.hm_messages_lexemes.specs.Lexemes.{AreLaterLexemes}
use Rattle.hm_run_sources.specs.Refusals.{Refusal, lex, parse, plan, IsLasting}
use Rattle.hm_run_sources.specs.Runs.{IsSourceFault}
use Rattle.hm_run_sources.specs.SourceModules.{HasModules}
use Rattle.hm_syntax.specs.declared.ast.Module.{Module}

-- the first fault of source number n, if it has any
abbrev pub IsFirstFault : ℕ → List ℕ → Option Refusal → Type 0
IsFirstFault n source None = (modules : List Module) × HasModules source modules
IsFirstFault n source (Some fault) = IsSourceFault n source fault × IsLasting fault

-- lexical faults of a source after its first one. There are none after another fault
abbrev pub AreLaterFaults : List ℕ → Refusal → List Refusal → Type 0
AreLaterFaults source (lex n (lexing.Lexeme p)) faults = (places : List Place) × AreLaterLexemes source p places × (faults ≡ map (λ q. lex n (lexing.Lexeme q)) places)
AreLaterFaults source _ faults = faults ≡ []

-- the faults of source number n: its first one and those after it, or none if it spells modules
abbrev pub AreFaultsOf : ℕ → List ℕ → List Refusal → Type 0
AreFaultsOf n source [] = IsFirstFault n source None
AreFaultsOf n source (fault ∷ faults) = IsFirstFault n source (Some fault) × AreLaterFaults source fault faults

-- the faults of sources, in order. The sources are numbered from n
abbrev pub AreSourceFaults : ℕ → List (List ℕ) → List Refusal → Type 0
AreSourceFaults n [] faults = faults ≡ []
AreSourceFaults n (s ∷ ss) faults = (own : List Refusal) × (more : List Refusal) × AreFaultsOf n s own × AreSourceFaults (n + 1) ss more × (faults ≡ own ++ more)

-- the faults of source number n after its first one, and those of the sources after it
abbrev pub AreFaultsAfter : List (List ℕ) → ℕ → Refusal → List Refusal → Type 0
AreFaultsAfter sources n refusal faults =
    (own : List Refusal) × (more : List Refusal) × AreLaterFaults (slice_index_or sources (n - 1) []) refusal own × AreSourceFaults (n + 1) (drop n sources) more × (faults ≡ own ++ more)

-- the faults after that of the refusal. If the plan is refused, no source has a fault
abbrev pub AreFurtherFaults : List (List ℕ) → Refusal → List Refusal → Type 0
AreFurtherFaults sources (lex n fault) faults = AreFaultsAfter sources n (lex n fault) faults
AreFurtherFaults sources (parse n fault) faults = AreFaultsAfter sources n (parse n fault) faults
AreFurtherFaults sources (plan fault m i) faults = faults ≡ []
