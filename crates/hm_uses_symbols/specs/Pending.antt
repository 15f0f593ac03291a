-- Patterns whose variables aren't found yet, the next one last. No public clause names these.
use Rattle.std.specs.Prelude.{ℕ, List, [], ◌∷◌, ◌++◌, map}
use Rattle.std.specs.Borrow.{Bor}
use Rattle.hm_names.specs.Variables.{pattern_variables}
use Rattle.hm_syntax.specs.Lists.{patterns}
use Rattle.hm_syntax.specs.Names.{Identifier}
use Rattle.hm_syntax.specs.Sizes.{patterns_size}
use Rattle.hm_syntax.specs.Trees.{Pattern}

-- their variables, those of the last pattern first
abbrev pub pending_variables : List Pattern → List Identifier
pending_variables [] = []
pending_variables (p ∷ ps) = pending_variables ps ++ pattern_variables p

abbrev pub pending_size : List Pattern → ℕ
pending_size ps = patterns_size (patterns ps)

-- the patterns that references lead to
abbrev pub lent : List (Bor Pattern) → List Pattern
lent ps = map (λ p. p.now) ps
