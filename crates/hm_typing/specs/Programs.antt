-- The types of the code, which hm_types defines with plain and rigid variables, as types over numbered variables.
use Rattle.std.specs.Prelude.{◌≡◌, ℕ, Bool, true, false, cond, List, [], ◌∷◌}
use Rattle.hm_types.specs.Types.{Args, Var, App, done, more, put}
use Rattle.hm_types.specs.Monotypes.{Leaf, Mono, var, rigid}
use Rattle.hm_types.specs.Substitution.{Substitution, substitute}
use Rattle.hm_typing.specs.Problems.{Fact, Equal}
use Rattle.hm_typing.specs.Schemes.{Monotype, Scheme, closed}
use Rattle.hm_types.specs.Schemes.{TypeScheme}

abbrev pub variable_of : Leaf → Monotype
variable_of (var n) = Var n
variable_of (rigid n) = Var n

-- a type without rigid variables
abbrev pub monotype_of : Mono → Monotype
monotype_of t = put variable_of t

-- a closed scheme
abbrev pub scheme_of : TypeScheme → Scheme
scheme_of s = closed (monotype_of s.body)

-- Equations

-- the rigid variables of a type are exactly those for whose numbers is_rigid is true
abbrev mutual
  pub HasKinds : (ℕ → Bool) → Mono → Type 0
  HasKinds is_rigid (Var (var n)) = is_rigid n ≡ false
  HasKinds is_rigid (Var (rigid n)) = is_rigid n ≡ true
  HasKinds is_rigid (App h ts) = AllHaveKinds is_rigid ts

  pub AllHaveKinds : (ℕ → Bool) → Args Leaf → Type 0
  AllHaveKinds is_rigid done = Unit {0}
  AllHaveKinds is_rigid (more t ts) = HasKinds is_rigid t × AllHaveKinds is_rigid ts

-- the code's type for a type, by the kinds of the variables
abbrev pub program_type : (ℕ → Bool) → Monotype → Mono
program_type is_rigid t = put (λ n. Var (cond (is_rigid n) (rigid n) (var n))) t

abbrev pub EquationsHaveKinds : (ℕ → Bool) → List (Mono × Mono) → Type 0
EquationsHaveKinds is_rigid [] = Unit {0}
EquationsHaveKinds is_rigid (e ∷ es) = (HasKinds is_rigid e.0 × HasKinds is_rigid e.1) × EquationsHaveKinds is_rigid es

-- the substitution makes both sides of each equation equal
abbrev pub MakesEqual : Substitution → List (Mono × Mono) → Type 0
MakesEqual f [] = Unit {0}
MakesEqual f (e ∷ es) = (substitute f e.0 ≡ substitute f e.1) × MakesEqual f es

-- the equations as a problem
abbrev pub problem_of : List (Mono × Mono) → List Fact
problem_of [] = []
problem_of (e ∷ es) = Equal (monotype_of e.0) (monotype_of e.1) ∷ problem_of es

abbrev pub LeavesRigid : (ℕ → Bool) → (ℕ → Monotype) → Type 0
LeavesRigid is_rigid r = (n : ℕ) → is_rigid n ≡ true → r n ≡ Var n
