-- The laws of the crate, as statements.
use Rattle.std.specs.Prelude.{◌≡◌, ℕ, List, [], Bool, true, false, ◌⊎◌, ◌↔◌, ◌<◌, ◌+◌, map}
use Rattle.hm_types.specs.Types.{In, put}
use Rattle.hm_types.specs.Schemes.{TypeScheme, IsAtLeastAsGeneral, HasNoRigid}
use Rattle.hm_types.specs.Monotypes.{Mono}
use Rattle.hm_types.specs.Substitution.{Substitution}
use Rattle.hm_typing.specs.Programs.{scheme_of, monotype_of, program_type, problem_of, EquationsHaveKinds, MakesEqual, LeavesRigid}
use Rattle.hm_typing.specs.Names.{Identifier, IsOneOf, IsDistinct}
use Rattle.hm_typing.specs.Schemes.{Monotype, Scheme, IsAtMostAsGeneral, Free, closed, scheme_put}
use Rattle.hm_typing.specs.Assumptions.{Assumptions, FreeIn, IsClosed, assumptions_put, AreAtMostAsGeneral}
use Rattle.hm_typing.specs.Generalisation.{quantify, quantify_but, KeepsEnough}
use Rattle.hm_typing.specs.Syntax.{Expression, Bindings, names}
use Rattle.hm_typing.specs.Typing.{HasType}
use Rattle.hm_typing.specs.BindingLists.{HasSchemes, HasPrincipalSchemes}
use Rattle.hm_typing.specs.Assignments.{Module, Assignment, outer, IsPrincipal}
use Rattle.hm_typing.specs.Verdicts.{AreTypeFaults, Verdict, Good, Faulty, IsVerdict, InClosure, IsImportedBy, IsGood, IsSkipped, IsFaulty, IsLawful}
use Rattle.hm_typing.specs.SecondForm.{Derives}
use Rattle.hm_typing.specs.Problems.{Fact, Unifies, IsBelow, FactsBelow, MostGeneralUnifier, Solved, Answer}
use Rattle.hm_typing.specs.Orders.{Layout, UnitHas, AreGroups, AreTestsOf, AreNumberedGroups}

-- Typing

-- typing is preserved by more general assumptions
abbrev pub Survives : Type 0
Survives = (e : Expression) (A A' : Assumptions) (t : Monotype) → AreAtMostAsGeneral A A' → HasType A e t → HasType A' e t

-- typing is preserved by substitutions
abbrev pub Substitutes : Type 0
Substitutes = (e : Expression) (r : ℕ → Monotype) (A : Assumptions) (t : Monotype) → HasType A e t → HasType (assumptions_put r A) e (put r t)

-- the two forms of typing agree
abbrev pub FormsAgree : Type 0
FormsAgree = (e : Expression) (A : Assumptions) (t : Monotype) → HasType A e t ↔ Derives A e t

-- Schemes

-- for closed schemes without rigid variables, generality in hm_types is generality here
abbrev pub ProgramsDecideGenerality : Type 0
ProgramsDecideGenerality = (special general : TypeScheme) → HasNoRigid special.body → HasNoRigid general.body → IsAtLeastAsGeneral general special ↔ IsAtMostAsGeneral (scheme_of special) (scheme_of general)

-- equations between types of the code have a unifier, which doesn't change rigid variables, if and only if the problem here has one. Each unifier
-- gives one of the other
abbrev pub ProgramsUnifyAlike : Type 0
ProgramsUnifyAlike =
    (is_rigid : ℕ → Bool) (es : List (Mono × Mono)) → EquationsHaveKinds is_rigid es →
    ((f : Substitution) → MakesEqual f es → (r : ℕ → Monotype) × LeavesRigid is_rigid r × Unifies r (problem_of es) × ((n : ℕ) → is_rigid n ≡ false → r n ≡ monotype_of (f n)))
    × ((r : ℕ → Monotype) → LeavesRigid is_rigid r → Unifies r (problem_of es) → MakesEqual (λ n. program_type is_rigid (r n)) es)

-- Inference

-- each unification problem has a most general unifier, or no unifier
abbrev pub UnificationIsDecided : Type 0
UnificationIsDecided = (E : List Fact) → MostGeneralUnifier E ⊎ ((r : ℕ → Monotype) → ¬ (Unifies r E))

-- the constraint that an expression has a type, added to a unification problem, is again such a problem, or has no solution
abbrev pub EveryExpressionIsAnswered : Type 0
EveryExpressionIsAnswered =
    (e : Expression) (A : Assumptions) (t : Monotype) (n : ℕ) (E : List Fact) →
    ((a : ℕ) → FreeIn a A → a < n) → IsBelow n t → FactsBelow n E → Answer (λ r. HasType (assumptions_put r A) e (put r t)) n E

-- a list under closed assumptions has principal schemes, or none
abbrev pub PrincipalOrNone : Type 0
PrincipalOrNone =
    (ds : Bindings) (A : Assumptions) → IsClosed A →
    ((B : Identifier → Scheme) × HasPrincipalSchemes A ds B) ⊎ ((B : Identifier → Scheme) → ¬ (HasSchemes A ds B))

-- generalisation over any set of variables that has those free in the assumptions after solving, and otherwise only variables of the outer problem,
-- gives the same scheme of an expression
abbrev pub ExpressionsGeneraliseAlike : Type 0
ExpressionsGeneraliseAlike =
    (e : Expression) (A : Assumptions) (n : ℕ) (E : List Fact) (n1 : ℕ) (E1 : List Fact) (kept : ℕ → Bool) →
    ((a : ℕ) → FreeIn a A → a < n) → FactsBelow n E → Solved (λ r. HasType (assumptions_put r A) e (r n)) (n + 1) E n1 E1 →
    (m : MostGeneralUnifier E1) → KeepsEnough A n m.map kept → quantify_but kept (m.map n) ≡ quantify (assumptions_put m.map A) (m.map n)

-- the same for the names of a unit, whose types are the variables from n on
abbrev pub UnitsGeneraliseAlike : Type 0
UnitsGeneraliseAlike =
    (g : Identifier → Bool) (xs : List Identifier) (A : Assumptions) (B : Identifier → Scheme) (ds : Bindings) (place : Identifier → ℕ) (n k : ℕ) (E : List Fact) (n1 : ℕ) (E1 : List Fact) (kept : ℕ → Bool) →
    ((a : ℕ) → FreeIn a A → a < n) → ((y : Identifier) (a : ℕ) → In (Free a) (B y) → a < n) → FactsBelow n E →
    Solved (λ r. UnitHas g xs (assumptions_put r A) (λ y. scheme_put r (B y)) (λ y. r (n + place y)) ds) (n + k) E n1 E1 →
    (m : MostGeneralUnifier E1) → ((y : Identifier) (a : ℕ) → In (Free a) (scheme_put m.map (B y)) → FreeIn a (assumptions_put m.map A)) → KeepsEnough A n m.map kept →
    (y : Identifier) → place y < k → quantify_but kept (m.map (n + place y)) ≡ quantify (assumptions_put m.map A) (m.map (n + place y))

-- The order of units

-- groups of mutual reach, each after all others that it reaches, are an order of a list's units
abbrev pub GroupsGiveOrder : Type 0
GroupsGiveOrder = (ds : Bindings) → IsDistinct (names ds) → (gs : List (List Identifier)) → AreGroups ds gs → (order : Layout ds) × AreTestsOf order.groups gs

-- the groups of a graph over numbered names are groups of mutual reach
abbrev pub NumberedGroupsAreGroups : Type 0
NumberedGroupsAreGroups = (ds : Bindings) (name : ℕ → Identifier) (n : ℕ) (gs : List (List ℕ)) → AreNumberedGroups ds name n gs → AreGroups ds (map (map name) gs)

-- each list has groups
abbrev pub HasGroups : Type 0
HasGroups = (ds : Bindings) → (gs : List (List Identifier)) × AreGroups ds gs

-- Verdicts of a list

-- the type faults of a list can be found
abbrev pub FaultsAreFound : Type 0
FaultsAreFound = (ds : Bindings) (A : Assumptions) → IsDistinct (names ds) → IsClosed A → (xs : List Identifier) × AreTypeFaults A ds xs

-- a list has no type faults if and only if it is typed
abbrev pub TypedWithoutFaults : Type 0
TypedWithoutFaults = (ds : Bindings) (A : Assumptions) → IsDistinct (names ds) → IsClosed A → AreTypeFaults A ds [] ↔ ((B : Identifier → Scheme) × HasSchemes A ds B)

-- a list is good or faulty
abbrev pub HasVerdict : Type 0
HasVerdict = (ds : Bindings) (A : Assumptions) → IsDistinct (names ds) → IsClosed A → (v : Verdict) × IsVerdict A ds v

-- a list isn't both good and faulty
abbrev pub HasOneVerdict : Type 0
HasOneVerdict = (ds : Bindings) (A : Assumptions) → IsDistinct (names ds) → IsClosed A → (B : Identifier → Scheme) (xs : List Identifier) → IsVerdict A ds (Good B) → ¬ (IsVerdict A ds (Faulty xs))

-- Modules

-- principal assignments compose over the import order
abbrev pub Composes : Type 0
Composes =
    (set : ℕ → Module) (M : ℕ → Bool) (prelude : List Identifier) (table : Assignment) (rank : ℕ → ℕ) (S : Assignment) →
    ((i : ℕ) (x : Identifier) → M i ≡ true → IsOneOf x (set i).scope → IsOneOf x prelude ⊎ ((j : ℕ) × (M j ≡ true) × (rank j < rank i) × IsOneOf x (names (set j).bindings))) →
    ((x : Identifier) → IsOneOf x prelude → S x ≡ table x) → ((i : ℕ) → M i ≡ true → HasPrincipalSchemes (outer (set i) S) (set i).bindings (λ x. closed (S x))) → IsPrincipal set (λ i. M i ≡ true) prelude table S

-- if the list of a module has principal schemes under the principal assignment of its imports, the module's closure has a principal assignment, which
-- gives its names these schemes
abbrev pub Extends : Type 0
Extends =
    (set : ℕ → Module) (prelude : List Identifier) (table : Assignment) (i : ℕ) (S : Assignment) (B : Identifier → Scheme) →
    IsLawful set prelude → IsPrincipal set (IsImportedBy set i) prelude table S → HasPrincipalSchemes (outer (set i) S) (set i).bindings B →
    (S' : Assignment) × IsPrincipal set (InClosure set i) prelude table S' × ((x : Identifier) → IsOneOf x (names (set i).bindings) → B x ≡ closed (S' x)) × ((x : Identifier) → ¬ (IsOneOf x (names (set i).bindings)) → S' x ≡ S x)

-- if the imports of a module are good, all that it imports has a principal assignment
abbrev pub ImportsHavePrincipal : Type 0
ImportsHavePrincipal =
    (set : ℕ → Module) (prelude : List Identifier) (well : ℕ → Bool) (table : Assignment) (i : ℕ) →
    IsLawful set prelude → ((j : ℕ) → IsOneOf j (set i).imports → IsGood set (λ k. well k ≡ true) prelude table j) →
    (S : Assignment) × IsPrincipal set (IsImportedBy set i) prelude table S

-- the closure of a good module has a principal assignment
abbrev pub GoodHasPrincipal : Type 0
GoodHasPrincipal =
    (set : ℕ → Module) (prelude : List Identifier) (well : ℕ → Bool) (table : Assignment) (i : ℕ) →
    IsLawful set prelude → IsGood set (λ k. well k ≡ true) prelude table i → (S : Assignment) × IsPrincipal set (InClosure set i) prelude table S

-- Verdicts in a set

-- all imports of a module are good
abbrev pub ImportsAreGood : (ℕ → Module) → (ℕ → Bool) → List Identifier → Assignment → ℕ → Type 0
ImportsAreGood set well prelude table i = (j : ℕ) → IsOneOf j (set i).imports → IsGood set (λ k. well k ≡ true) prelude table j

-- a module is good if and only if it is well-formed, its imports are good, and its list is typed under their principal assignment
abbrev pub GoodWhereTyped : Type 0
GoodWhereTyped =
    (set : ℕ → Module) (prelude : List Identifier) (well : ℕ → Bool) (table : Assignment) (i : ℕ) (S : Assignment) →
    IsLawful set prelude → IsPrincipal set (IsImportedBy set i) prelude table S →
    IsGood set (λ k. well k ≡ true) prelude table i ↔ ((well i ≡ true) × ImportsAreGood set well prelude table i × ((B : Identifier → Scheme) × HasSchemes (outer (set i) S) (set i).bindings B))

-- a module is faulty if and only if it is well-formed, its imports are good, and its list has type faults under their principal assignment, for any
-- such assignment
abbrev pub FaultyWhereFaults : Type 0
FaultyWhereFaults =
    (set : ℕ → Module) (prelude : List Identifier) (well : ℕ → Bool) (table : Assignment) (i : ℕ) (S : Assignment) (xs : List Identifier) →
    IsLawful set prelude → IsDistinct (names (set i).bindings) → IsPrincipal set (IsImportedBy set i) prelude table S →
    IsFaulty set (λ k. well k ≡ true) prelude table i xs ↔ (ImportsAreGood set well prelude table i × (well i ≡ true) × IsVerdict (outer (set i) S) (set i).bindings (Faulty xs))

-- it is decidable whether a module is good
abbrev pub GoodIsDecided : Type 0
GoodIsDecided =
    (set : ℕ → Module) (prelude : List Identifier) (well : ℕ → Bool) (table : Assignment) (i : ℕ) →
    IsLawful set prelude → IsGood set (λ k. well k ≡ true) prelude table i ⊎ ¬ (IsGood set (λ k. well k ≡ true) prelude table i)

-- a well-formed module is good, skipped or faulty
abbrev pub IsOneOfThree : Type 0
IsOneOfThree =
    (set : ℕ → Module) (prelude : List Identifier) (well : ℕ → Bool) (table : Assignment) (i : ℕ) →
    IsLawful set prelude → IsDistinct (names (set i).bindings) → (well i ≡ true) →
    IsGood set (λ k. well k ≡ true) prelude table i ⊎ (IsSkipped set (λ k. well k ≡ true) prelude table i ⊎ ((xs : List Identifier) × IsFaulty set (λ k. well k ≡ true) prelude table i xs))

-- a module isn't both good and skipped
abbrev pub NotGoodAndSkipped : Type 0
NotGoodAndSkipped =
    (set : ℕ → Module) (prelude : List Identifier) (well : ℕ → Bool) (table : Assignment) (i : ℕ) →
    IsGood set (λ k. well k ≡ true) prelude table i → ¬ (IsSkipped set (λ k. well k ≡ true) prelude table i)

-- a module isn't both skipped and faulty
abbrev pub NotSkippedAndFaulty : Type 0
NotSkippedAndFaulty =
    (set : ℕ → Module) (prelude : List Identifier) (well : ℕ → Bool) (table : Assignment) (i : ℕ) (xs : List Identifier) →
    IsSkipped set (λ k. well k ≡ true) prelude table i → ¬ (IsFaulty set (λ k. well k ≡ true) prelude table i xs)

-- a module isn't both good and faulty
abbrev pub NotGoodAndFaulty : Type 0
NotGoodAndFaulty =
    (set : ℕ → Module) (prelude : List Identifier) (well : ℕ → Bool) (table : Assignment) (i : ℕ) (xs : List Identifier) →
    IsLawful set prelude → IsDistinct (names (set i).bindings) → IsGood set (λ k. well k ≡ true) prelude table i → ¬ (IsFaulty set (λ k. well k ≡ true) prelude table i xs)
