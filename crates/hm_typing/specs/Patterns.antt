-- Types of patterns (Report 3.17.1, 3.17.2). The relation guesses all types.
use Rattle.hm_types.specs.declared.Head.TheVariants as head
use Rattle.std.specs.Prelude.{◌≡◌, ℕ, zero, suc}
use Rattle.hm_types.specs.Types.{Args, App, done, more, put}
use Rattle.hm_typing.specs.Names.{Identifier}
use Rattle.hm_typing.specs.Schemes.{Monotype, arrow}
use Rattle.hm_typing.specs.Syntax.{Pattern, VariablePattern, AsPattern, ConstructorPattern, LiteralPattern, WildcardPattern, TuplePattern, ListPattern, LazyPattern, Patterns, no_pattern, pattern, literal_type, pattern_count}

-- t is the declared type s with types in place of its variables
abbrev pub Instantiates : Monotype → Monotype → Type 0
Instantiates s t = (us : ℕ → Monotype) × (t ≡ put us s)

-- ts i, ts (i + 1), .., k of them
abbrev pub arguments : ℕ → (ℕ → Monotype) → ℕ → Args ℕ
arguments zero ts i = done
arguments (suc k) ts i = more (ts i) (arguments k ts (suc i))

abbrev pub tuple : ℕ → (ℕ → Monotype) → Monotype
tuple k ts = App (head.Tuple k) (arguments k ts 0)

abbrev pub list : Monotype → Monotype
list t = App head.List (more t done)

-- ts i -> ts (i + 1) -> .. -> u, with k arguments
abbrev pub arrows : ℕ → (ℕ → Monotype) → ℕ → Monotype → Monotype
arrows zero ts i u = u
arrows (suc k) ts i u = arrow (ts i) (arrows k ts (suc i) u)

-- the pattern has the type t if its variables have the types τ. Constructors have all their arguments (Report 3.17.1), as checked before
abbrev mutual
  pub Matches : (Identifier → Monotype) → Pattern → Monotype → Type 0
  Matches τ (VariablePattern x) t = t ≡ τ x
  Matches τ (AsPattern x p) t = (t ≡ τ x) × Matches τ p t
  Matches τ (ConstructorPattern s ps) t = (ts : ℕ → Monotype) × (Instantiates s (arrows (pattern_count ps) ts 0 t) × MatchesAll τ ps ts 0)
  Matches τ (LiteralPattern l) t = t ≡ literal_type l
  Matches τ WildcardPattern t = Unit {0}
  Matches τ (TuplePattern ps) t = (ts : ℕ → Monotype) × ((t ≡ tuple (pattern_count ps) ts) × MatchesAll τ ps ts 0)
  Matches τ (ListPattern ps) t = (u : Monotype) × ((t ≡ list u) × MatchesAll τ ps (λ j. u) 0)
  Matches τ (LazyPattern p) t = Matches τ p t

  -- the patterns have the types ts i, ts (i + 1), ..
  pub MatchesAll : (Identifier → Monotype) → Patterns → (ℕ → Monotype) → ℕ → Type 0
  MatchesAll τ no_pattern ts i = Unit {0}
  MatchesAll τ (pattern p ps) ts i = Matches τ p (ts i) × MatchesAll τ ps ts (suc i)
