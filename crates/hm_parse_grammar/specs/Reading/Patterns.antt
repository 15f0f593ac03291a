-- Reading patterns (Haskell 98 Report, section 3.17). No public clause names these.
use Rattle.std.specs.Prelude.{ℕ, zero, suc, List, Bool, true, false, Option, Some, None, if◌then◌else◌, length, codes}
use Rattle.hm_syntax.specs.Names.{Identifier}
use Rattle.hm_syntax.specs.Trees.{Pattern, variable_pattern, bound_pattern, constructor_pattern, literal_pattern, wildcard_pattern, tuple_pattern, list_pattern, lazy_pattern, no_patterns, more_patterns}
use Rattle.hm_syntax.specs.Lists.{patterns}
use Rattle.hm_parse_grammar.specs.declared.symbol.Symbol.{Symbol}
use Rattle.hm_parse_grammar.specs.declared.symbol.Symbol.TheVariants.{Open, OpenSquare, Colon, At, Tilde, Wild, Var, Con, QCon, Integer, Character, Text}
use Rattle.hm_parse_grammar.specs.Reading.Basics.{◌>>=◌, Reader, peek, is_at, tail, name_at, loop, closing, list_in}
use Rattle.hm_parse_grammar.specs.Reading.Constructors.{begins_gcon, special_at, gcon_at, literal_at}

abbrev pub begins_apat : Symbol → Bool
begins_apat Var = true
begins_apat Con = true
begins_apat QCon = true
begins_apat Integer = true
begins_apat Character = true
begins_apat Text = true
begins_apat Wild = true
begins_apat Open = true
begins_apat OpenSquare = true
begins_apat Tilde = true
begins_apat _ = false

abbrev pub tuple_of_patterns : List Pattern → Pattern
tuple_of_patterns ps = tuple_pattern (patterns ps)

abbrev pub list_of_patterns : List Pattern → Pattern
list_of_patterns ps = list_pattern (patterns ps)

-- `p : q`, where colon is the name of the colon
abbrev pub cons_pattern : Identifier → Pattern → Pattern → Pattern
cons_pattern colon p q = constructor_pattern colon (more_patterns p (more_patterns q no_patterns))

-- the mutually recursive readers: of whole patterns, and of those that need no parentheses
pub record PatternReaders : Type 0 where
  pub whole : Reader Pattern
  pub single : Reader Pattern

module _ (r : PatternReaders) where
  -- a variable, and `@` with a pattern if that is next
  unfoldable pub bound_with : Reader Pattern
  bound_with ts = do
    n ← name_at ts
    if is_at At n.1
        then (do
          p ← r.single (tail n.1)
          Some (bound_pattern n.0 p.0, p.1))
        else Some (variable_pattern n.0, n.1)

  abbrev pub apat_by : Symbol → Reader Pattern
  apat_by Var ts = bound_with ts
  apat_by Integer ts = do
    l ← literal_at ts
    Some (literal_pattern l.0, l.1)
  apat_by Character ts = do
    l ← literal_at ts
    Some (literal_pattern l.0, l.1)
  apat_by Text ts = do
    l ← literal_at ts
    Some (literal_pattern l.0, l.1)
  apat_by Wild ts = Some (wildcard_pattern, tail ts)
  apat_by Open ts = do
    p ← r.whole (tail ts)
    closing r.whole tuple_of_patterns p.0 p.1
  apat_by OpenSquare ts = list_in r.whole list_of_patterns (tail ts)
  apat_by Tilde ts = do
    p ← r.single (tail ts)
    Some (lazy_pattern p.0, p.1)
  apat_by _ ts = None

  unfoldable pub apat_step : Reader Pattern
  apat_step ts = if begins_gcon ts
      then (do
        n ← gcon_at ts
        Some (constructor_pattern n.0 no_patterns, n.1))
      else apat_by (peek ts) ts

  unfoldable pub next_apat : Reader (Option Pattern)
  next_apat ts = if begins_apat (peek ts)
      then (do
        p ← apat_step ts
        Some (Some p.0, p.1))
      else Some (None, ts)

  unfoldable pub apats_with : Reader (List Pattern)
  apats_with ts = loop next_apat ts

  unfoldable pub lpat_with : Reader Pattern
  lpat_with ts = if begins_gcon ts
      then (do
        n ← gcon_at ts
        ps ← apats_with n.1
        Some (constructor_pattern n.0 (patterns ps.0), ps.1))
      else apat_step ts

  unfoldable pub pat_step : Reader Pattern
  pat_step ts = do
    p ← lpat_with ts
    if is_at Colon p.1
        then (do
          q ← r.whole (tail p.1)
          Some (cons_pattern (special_at (codes ":") p.1) p.0 q.0, q.1))
        else Some (p.0, p.1)

  abbrev pub pattern_step : PatternReaders
  pattern_step = record { whole = pat_step; single = apat_step }

-- readers that give up after n nested calls
abbrev pub pattern_readers : ℕ → PatternReaders
pattern_readers zero = record { whole = λ _. None; single = λ _. None }
pattern_readers (suc n) = pattern_step (pattern_readers n)

-- each call takes a token, so as many calls as there are tokens are enough
unfoldable pub all_patterns : PatternReaders
all_patterns = record {
  whole = λ ts. (pattern_readers (suc (length ts))).whole ts;
  single = λ ts. (pattern_readers (suc (length ts))).single ts;
}
