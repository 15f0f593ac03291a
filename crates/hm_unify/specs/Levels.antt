-- Levels of variables: which variables occur in the value of one that was given before a level was opened.
use Rattle.std.specs.Prelude.{◌≡◌, ℕ, zero, suc, ◌<◌, Bool, true, false, ◌||◌, ◌==◌, if◌then◌else◌, List, [], ◌∷◌, ◌++◌}
use Rattle.hm_types.specs.Types.{App as app, done as none, more, Var as leaf}
use Rattle.hm_types.specs.Monotypes.{Leaf, Mono, Monos, var, rigid}
use Rattle.hm_types.specs.Schemes.{is_among}
use Rattle.hm_types.specs.Substitution.{substitute}
use Rattle.hm_unify.specs.Unifier.{Equation}
use Rattle.hm_unify.specs.Bindings.{solution}

abbrev pub number_of : Leaf → ℕ
number_of (var n) = n
number_of (rigid n) = n

abbrev pub is_leaf : Leaf → Leaf → Bool
is_leaf (var m) (var n) = m == n
is_leaf (var m) (rigid n) = false
is_leaf (rigid m) (var n) = false
is_leaf (rigid m) (rigid n) = m == n

abbrev mutual
  -- whether a variable, rigid or not, occurs in a type
  pub has : Leaf → Mono → Bool
  has x (leaf v) = is_leaf v x
  has x (app h ts) = has_in_any x ts

  pub has_in_any : Leaf → Monos → Bool
  has_in_any x none = false
  has_in_any x (more t ts) = has x t || has_in_any x ts

-- the value of a variable under the equations; a rigid one is its own value
abbrev pub value_of : List Equation → Leaf → Mono
value_of es v = substitute (solution es) (leaf v)

-- the variable occurs in the value of one with a number below `k`
pub record IsOuter (es : List Equation) (k : ℕ) (x : Leaf) : Type 0 where
  pub holder : Leaf
  pub before : number_of holder < k
  pub held : has x (value_of es holder) ≡ true

-- the test for that
abbrev pub is_outer : List Equation → ℕ → Leaf → Bool
is_outer es zero x = false
is_outer es (suc n) x = has x (value_of es (var n)) || (has x (value_of es (rigid n)) || is_outer es n x)

abbrev mutual
  -- the numbers seen so far, then those of the type's variables that aren't outer, in order of first occurrence
  pub deeper_after : List Equation → ℕ → List ℕ → Mono → List ℕ
  deeper_after es k seen (leaf v) = if is_outer es k v || is_among (number_of v) seen then seen else (seen ++ number_of v ∷ [])
  deeper_after es k seen (app h ts) = deeper_after_all es k seen ts

  pub deeper_after_all : List Equation → ℕ → List ℕ → Monos → List ℕ
  deeper_after_all es k seen none = seen
  deeper_after_all es k seen (more t ts) = deeper_after_all es k (deeper_after es k seen t) ts

-- the numbers of a type's variables that aren't outer
abbrev pub deeper_numbers : List Equation → ℕ → Mono → List ℕ
deeper_numbers es k t = deeper_after es k [] t

-- the number of variables that had been given when the innermost open level was opened
abbrev pub given_before : List ℕ → ℕ
given_before [] = 0
given_before (k ∷ ks) = k
