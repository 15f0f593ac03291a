-- The modules that sources spell.
use Rattle.std.specs.Prelude.{◌≡◌, ℕ, List, [], ◌∷◌, ◌++◌}
use Rattle.hm_lex.specs.Faults.{AreTokensOf}
use Rattle.hm_lex.specs.declared.token.Token.{Token}
use Rattle.hm_parse_grammar.specs.Grammar.Modules.{Spells}
use Rattle.hm_syntax.specs.declared.ast.Module.{Module}

-- the modules that a source spells
pub record HasModules (source : List ℕ) (modules : List Module) : Type 0 where
  pub tokens : List Token
  pub lexed : AreTokensOf source tokens
  pub parsed : Spells modules source tokens

-- the modules of a set of sources, in order of appearance
abbrev pub AreModulesOf : List (List ℕ) → List Module → Type 0
AreModulesOf [] modules = modules ≡ []
AreModulesOf (s ∷ ss) modules = (first : List Module) × (later : List Module) × HasModules s first × AreModulesOf ss later × (modules ≡ first ++ later)
