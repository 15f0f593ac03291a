-- Unification problems, and how a constraint on types adds to one.
use Rattle.std.specs.Prelude.{◌≡◌, ℕ, List, [], ◌∷◌, ◌<◌, ◌≤◌}
use Rattle.hm_types.specs.Types.{Var, In, put}
use Rattle.hm_typing.specs.Schemes.{Monotype}

-- a constraint on unifiers: make two types equal, or don't change a rigid variable
pub data Fact : Type 0 where
  Equal : Monotype → Monotype → Fact
  Rigid : ℕ → Fact

abbrev pub Obeys : (ℕ → Monotype) → Fact → Type 0
Obeys r (Equal t u) = put r t ≡ put r u
Obeys r (Rigid a) = r a ≡ Var a

abbrev pub Unifies : (ℕ → Monotype) → List Fact → Type 0
Unifies r [] = Unit {0}
Unifies r (f ∷ fs) = Obeys r f × Unifies r fs

abbrev pub IsBelow : ℕ → Monotype → Type 0
IsBelow n t = (a : ℕ) → In a t → a < n

abbrev pub FactBelow : ℕ → Fact → Type 0
FactBelow n (Equal t u) = IsBelow n t × IsBelow n u
FactBelow n (Rigid a) = a < n

abbrev pub FactsBelow : ℕ → List Fact → Type 0
FactsBelow n [] = Unit {0}
FactsBelow n (f ∷ fs) = FactBelow n f × FactsBelow n fs

-- a most general unifier: every other one is this one followed by the other
pub record MostGeneralUnifier (E : List Fact) : Type 0 where
  pub map : ℕ → Monotype
  pub unifies : Unifies map E
  pub most : (r : ℕ → Monotype) → Unifies r E → (x : ℕ) → put r (map x) ≡ r x
  pub below : (n : ℕ) → FactsBelow n E → (x : ℕ) → x < n → IsBelow n (map x)

-- the problem E' over the variables below n' has the constraints of E and that P holds
pub record Solved (P : (ℕ → Monotype) → Type 0) (n : ℕ) (E : List Fact) (n' : ℕ) (E' : List Fact) : Type 0 where
  pub grows : n ≤ n'
  pub below : FactsBelow n' E'
  pub sound : (r : ℕ → Monotype) → Unifies r E' → Unifies r E × P r
  pub complete : (r : ℕ → Monotype) → Unifies r E → P r → (q : ℕ → Monotype) × ((x : ℕ) → x < n → q x ≡ r x) × Unifies q E'

pub data Answer (P : (ℕ → Monotype) → Type 0) (n : ℕ) (E : List Fact) : Type 0 where
  solved : (n' : ℕ) (E' : List Fact) → Solved P n E n' E' → Answer P n E
  unsolvable : ((r : ℕ → Monotype) → Unifies r E → P r → ⊥) → Answer P n E

-- P depends only on the variables below n
abbrev pub IsLocal : ℕ → ((ℕ → Monotype) → Type 0) → Type 0
IsLocal n P = (r q : ℕ → Monotype) → ((x : ℕ) → x < n → q x ≡ r x) → P r → P q
