-- Type schemes, their instances and their generality (Damas and Milner 1982, section 3), and the canonical scheme of a type.
use Rattle.std.specs.Prelude.{◌≡◌, ℕ, zero, suc, ◌+◌, ◌<◌, Bool, true, false, ◌||◌, ◌==◌, if◌then◌else◌, List, [], ◌∷◌, ◌++◌, length, refl}
use Rattle.std.specs.Coded.{Coded, code_by, coded×, coded_ℕ}
use Rattle.hm_types.specs.declared.Head.{Head}
use Rattle.hm_types.specs.declared.Head.TheVariants.{Named, Arrow, Tuple}
use Rattle.hm_types.specs.declared.Head.TheVariants as head
use Rattle.hm_types.specs.Types.{App as app, done as none, more, Var as leaf}
use Rattle.hm_types.specs.Monotypes.{Mono, Monos, var, rigid, list_of}
use Rattle.hm_types.specs.Codes.{coded_mono}
use Rattle.hm_types.specs.Substitution.{Substitution, substitute, occurs}

-- a type with the variables below `vars` quantified
pub record TypeScheme : Type 0 where
  pub vars : ℕ
  pub body : Mono

abbrev pub coded_scheme : Coded TypeScheme
coded_scheme = code_by (ℕ × Mono) (coded× coded_ℕ coded_mono) (λ s. (s.vars, s.body)) (λ p. record { vars = p.0; body = p.1 }) (λ _. refl)

-- a type is an instance of a closed scheme if it is the body with types in place of the quantified variables, which are all variables of the body
abbrev pub IsInstance : Mono → TypeScheme → Type 0
IsInstance t s = (f : Substitution) × (substitute f s.body ≡ t)

-- the first scheme is at least as general as the second: each instance of the second is one of the first
abbrev pub IsAtLeastAsGeneral : TypeScheme → TypeScheme → Type 0
IsAtLeastAsGeneral general special = (t : Mono) → IsInstance t special → IsInstance t general

-- a type constructor takes this number of arguments (Haskell 98 Report, section 4.1.2). For a named one, its definition says how many
abbrev pub FitsHead : Head → ℕ → Type 0
FitsHead (Named e) n = Unit {0}
FitsHead Arrow n = n ≡ 2
FitsHead head.List n = n ≡ 1
FitsHead head.Unit n = n ≡ 0
FitsHead (Tuple k) n = n ≡ k

abbrev mutual
  -- each head has its number of arguments
  pub HasArities : Mono → Type 0
  HasArities (leaf (var n)) = Unit {0}
  HasArities (leaf (rigid n)) = Unit {0}
  HasArities (app h ts) = FitsHead h (length (list_of ts)) × AllHaveArities ts

  pub AllHaveArities : Monos → Type 0
  AllHaveArities none = Unit {0}
  AllHaveArities (more t ts) = HasArities t × AllHaveArities ts

abbrev mutual
  -- no variable is rigid
  pub HasNoRigid : Mono → Type 0
  HasNoRigid (leaf (var n)) = Unit {0}
  HasNoRigid (leaf (rigid n)) = ⊥
  HasNoRigid (app h ts) = AllHaveNoRigid ts

  pub AllHaveNoRigid : Monos → Type 0
  AllHaveNoRigid none = Unit {0}
  AllHaveNoRigid (more t ts) = HasNoRigid t × AllHaveNoRigid ts

abbrev pub is_among : ℕ → List ℕ → Bool
is_among n [] = false
is_among n (x ∷ xs) = n == x || is_among n xs

abbrev mutual
  -- the variables seen so far, then those of the type, in order of first occurrence
  pub variables_after : List ℕ → Mono → List ℕ
  variables_after seen (leaf (var n)) = if is_among n seen then seen else (seen ++ n ∷ [])
  variables_after seen (leaf (rigid n)) = seen
  variables_after seen (app h ts) = variables_after_all seen ts

  pub variables_after_all : List ℕ → Monos → List ℕ
  variables_after_all seen none = seen
  variables_after_all seen (more t ts) = variables_after_all (variables_after seen t) ts

abbrev pub variables : Mono → List ℕ
variables t = variables_after [] t

-- the place of a number in a list
abbrev pub place : ℕ → List ℕ → ℕ
place n [] = 0
place n (x ∷ xs) = if n == x then 0 else 1 + place n xs

abbrev pub numbering : List ℕ → Substitution
numbering xs = λ n. leaf (var (place n xs))

-- all variables quantified, and numbered in order of first occurrence
abbrev pub canonical_of : Mono → TypeScheme
canonical_of t = record { vars = length (variables t); body = substitute (numbering (variables t)) t }

-- n numbers, from k on
abbrev pub count_up : ℕ → ℕ → List ℕ
count_up from zero = []
count_up from (suc n) = from ∷ count_up (from + 1) n

-- a closed scheme: its variables are 0, 1, 2 .., in order of first occurrence, none is free, each occurs, none is rigid
pub record IsScheme (s : TypeScheme) : Type 0 where
  pub closed : (n : ℕ) → occurs n s.body ≡ true → n < s.vars
  pub used : (n : ℕ) → n < s.vars → occurs n s.body ≡ true
  pub in_order : variables s.body ≡ count_up 0 s.vars
  pub not_rigid : HasNoRigid s.body
  pub arities : HasArities s.body
