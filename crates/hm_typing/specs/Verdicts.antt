-- Verdicts: the units of a module that are type faults under its assumptions, and the modules of a set that are good, skipped or faulty.
-- Why: docs/DECISIONS.md, "Well-formedness", "Decidable units".
use Rattle.std.specs.Prelude.{◌≡◌, ℕ, List, [], ◌∷◌, ◌⊎◌, ◌↔◌, ◌<◌}
use Rattle.hm_types.specs.Types.{In}
use Rattle.hm_typing.specs.Names.{Identifier, IsOneOf}
use Rattle.hm_typing.specs.Schemes.{Monotype, Scheme, Free, closed}
use Rattle.hm_typing.specs.Assumptions.{Assumptions}
use Rattle.hm_typing.specs.Generalisation.{quantify}
use Rattle.hm_typing.specs.Syntax.{Bindings, no_binding, unsigned, signed, matched, names}
use Rattle.hm_typing.specs.Units.{SameUnit, DependsOn}
use Rattle.hm_typing.specs.Typing.{AtDeclared, HasPatternBinding, InUnits, HasClauses}
use Rattle.hm_typing.specs.BindingLists.{HasPrincipalSchemes}
use Rattle.hm_typing.specs.Assignments.{Module, Assignment, outer, IsValid, IsPrincipal}

-- A module, under its assumptions

-- each binding with a name in U is typed as in a typed list, and every signed name has its declared scheme
abbrev pub UnitsHave : (Identifier → Type 0) → Assumptions → (Identifier → Assumptions) → (Identifier → Monotype) → (Identifier → Scheme) → Bindings → Type 0
UnitsHave U A sees ts B no_binding = Unit {0}
UnitsHave U A sees ts B (unsigned x cs ds) = (U x → (B x ≡ quantify A (ts x)) × HasClauses (sees x) cs (ts x)) × UnitsHave U A sees ts B ds
UnitsHave U A sees ts B (signed x s cs ds) = ((B x ≡ closed s) × (U x → AtDeclared A s (λ u. HasClauses (sees x) cs u))) × UnitsHave U A sees ts B ds
UnitsHave U A sees ts B (matched k p cs ds) = (U k → HasPatternBinding A ts B k p (λ t. HasClauses (sees k) cs t)) × UnitsHave U A sees ts B ds

-- the units of the names in U, a set closed under dependence, are typable: closed schemes exist under which each of them is typed
pub record IsTypable (A : Assumptions) (ds : Bindings) (U : Identifier → Type 0) : Type 0 where
  pub schemes : Identifier → Scheme
  pub are_closed : (y : Identifier) (a : ℕ) → ¬ (In (Free a) (schemes y))
  pub units : InUnits A ds schemes (λ sees ts. UnitsHave U A sees ts schemes ds)

-- the unit of x is a type fault: all units on which it depends are typable, but not together with itself
abbrev pub IsTypeFault : Assumptions → Bindings → Identifier → Type 0
IsTypeFault A ds x = IsTypable A ds (DependsOn ds x) × ¬ (IsTypable A ds (λ y. DependsOn ds x y ⊎ SameUnit ds x y))

-- x is in the list, and no earlier name is in its unit
abbrev pub IsFirstIn : Bindings → Identifier → List Identifier → Type 0
IsFirstIn ds x [] = ⊥
IsFirstIn ds x (y ∷ ys) = (x ≡ y) ⊎ (¬ (SameUnit ds x y) × IsFirstIn ds x ys)

-- the names of the faulty units, each by its first name
abbrev pub AreTypeFaults : Assumptions → Bindings → List Identifier → Type 0
AreTypeFaults A ds xs = (x : Identifier) → IsOneOf x xs ↔ (IsFirstIn ds x (names ds) × IsTypeFault A ds x)

pub data Verdict : Type 0 where
  Good : (Identifier → Scheme) → Verdict
  Faulty : List Identifier → Verdict

-- good with its principal schemes, or faulty with its type faults
abbrev pub IsVerdict : Assumptions → Bindings → Verdict → Type 0
IsVerdict A ds (Good B) = HasPrincipalSchemes A ds B
IsVerdict A ds (Faulty []) = ⊥
IsVerdict A ds (Faulty (x ∷ xs)) = AreTypeFaults A ds (x ∷ xs)

-- A set of modules. Those for which WellFormed holds are well-formed

-- the import closure of a module, including the module
pub data InClosure (set : ℕ → Module) : ℕ → ℕ → Type 0 where
  itself : {i : ℕ} → InClosure set i i
  imported : {i j k : ℕ} → IsOneOf j (set i).imports → InClosure set j k → InClosure set i k

-- k is imported by i, directly or not
abbrev pub IsImportedBy : (ℕ → Module) → ℕ → ℕ → Type 0
IsImportedBy set i k = (j : ℕ) × IsOneOf j (set i).imports × InClosure set j k

-- the import closure is well-formed and has a valid assignment
pub record IsGood (set : ℕ → Module) (WellFormed : ℕ → Type 0) (prelude : List Identifier) (table : Assignment) (i : ℕ) : Type 0 where
  pub well_formed : (k : ℕ) → InClosure set i k → WellFormed k
  pub assignment : Assignment
  pub valid : IsValid set (InClosure set i) prelude table assignment

-- a direct import isn't good
abbrev pub IsSkipped : (ℕ → Module) → (ℕ → Type 0) → List Identifier → Assignment → ℕ → Type 0
IsSkipped set WellFormed prelude table i = (j : ℕ) × IsOneOf j (set i).imports × ¬ (IsGood set WellFormed prelude table j)

-- well-formed, with good imports, and faulty with these names under the principal assignment of all imported modules
pub record IsFaulty (set : ℕ → Module) (WellFormed : ℕ → Type 0) (prelude : List Identifier) (table : Assignment) (i : ℕ) (xs : List Identifier) : Type 0 where
  pub imports_good : (j : ℕ) → IsOneOf j (set i).imports → IsGood set WellFormed prelude table j
  pub well_formed : WellFormed i
  pub assignment : Assignment
  pub principal : IsPrincipal set (IsImportedBy set i) prelude table assignment
  pub faults : IsVerdict (outer (set i) assignment) (set i).bindings (Faulty xs)

-- there is no import cycle; each variable in a scope is Prelude's or of an imported module; no variable belongs to two modules
pub record IsLawful (set : ℕ → Module) (prelude : List Identifier) : Type 0 where
  pub rank : ℕ → ℕ
  pub acyclic : (i j : ℕ) → IsOneOf j (set i).imports → rank j < rank i
  pub known : (i : ℕ) (x : Identifier) → IsOneOf x (set i).scope → IsOneOf x prelude ⊎ ((j : ℕ) × IsImportedBy set i j × IsOneOf x (names (set j).bindings))
  pub apart : (i j : ℕ) (x : Identifier) → IsOneOf x (names (set i).bindings) → IsOneOf x (names (set j).bindings) → i ≡ j
  pub not_prelude : (i : ℕ) (x : Identifier) → IsOneOf x (names (set i).bindings) → ¬ (IsOneOf x prelude)
