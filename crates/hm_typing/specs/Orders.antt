-- An order of the units of a list: each depends only on those before it.
use Rattle.std.specs.Prelude.{◌≡◌, ℕ, List, [], ◌∷◌, Bool, true, false, cond, ◌||◌, ◌⊎◌, ◌↔◌, ◌<◌, ◌++◌}
use Rattle.std.specs.Bool.{Decides}
use Rattle.hm_types.specs.Types.{In}
use Rattle.hm_typing.specs.Names.{IsOneOf, Identifier}
use Rattle.hm_typing.specs.Schemes.{Monotype, monomorphic, Scheme, Free, closed}
use Rattle.hm_typing.specs.Assumptions.{Assumptions, bind_all}
use Rattle.hm_typing.specs.Patterns.{Matches}
use Rattle.hm_typing.specs.Typing.{HasClauses}
use Rattle.hm_typing.specs.Syntax.{Bindings, no_binding, unsigned, signed, matched, matched_names, names}
use Rattle.hm_typing.specs.Mentions.{ClausesMention}
use Rattle.hm_typing.specs.Units.{IsUnsigned, IsSigned, Reaches, SameUnit, AreUnits}

-- each name of the list that the group mentions is in the group, finished or signed
abbrev pub IsReady : Bindings → List Identifier → (Identifier → Bool) → (Identifier → Bool) → Bindings → Type 0
IsReady ds xs finished g no_binding = Unit {0}
IsReady ds xs finished g (unsigned x cs D) = (g x ≡ true → (y : Identifier) → ClausesMention y cs → IsOneOf y xs → (g y ≡ true) ⊎ ((finished y ≡ true) ⊎ IsSigned y ds)) × IsReady ds xs finished g D
IsReady ds xs finished g (signed x s cs D) = IsReady ds xs finished g D
IsReady ds xs finished g (matched k p cs D) =
    ((x : Identifier) → IsOneOf x (matched_names k p) → g x ≡ true → (y : Identifier) → IsOneOf y (matched_names k p) ⊎ ClausesMention y cs → IsOneOf y xs → (g y ≡ true) ⊎ ((finished y ≡ true) ⊎ IsSigned y ds)) × IsReady ds xs finished g D

-- g is one unit, which may come next
pub record IsNext (ds : Bindings) (own : Identifier → Identifier → Bool) (finished g : Identifier → Bool) : Type 0 where
  pub whole : (x y : Identifier) → own x y ≡ true → g x ≡ g y
  pub unit : (x y : Identifier) → g x ≡ true → g y ≡ true → own x y ≡ true
  pub open_yet : (x : Identifier) → g x ≡ true → finished x ≡ false
  pub ready : IsReady ds (names ds) finished g ds

abbrev pub SignedAre : (Identifier → Scheme) → Bindings → Type 0
SignedAre B no_binding = Unit {0}
SignedAre B (unsigned x cs D) = SignedAre B D
SignedAre B (signed x s cs D) = (B x ≡ closed s) × SignedAre B D
SignedAre B (matched k p cs D) = SignedAre B D

abbrev pub IsOrder : (ds : Bindings) → (Identifier → Identifier → Bool) → (Identifier → Bool) → List (Identifier → Bool) → Type 0
IsOrder ds own finished [] = (x : Identifier) → IsUnsigned x ds → finished x ≡ true
IsOrder ds own finished (g ∷ gs) = IsNext ds own finished g × IsOrder ds own (λ y. finished y || g y) gs

-- the units of a list in order, and the declared schemes
pub record Layout (ds : Bindings) : Type 0 where
  pub own : Identifier → Identifier → Bool
  pub units : AreUnits ds own
  pub declared : Identifier → Scheme
  pub are_declared : SignedAre declared ds
  pub are_closed : (y : Identifier) (a : ℕ) → ¬ (In (Free a) (declared y))
  pub groups : List (Identifier → Bool)
  pub order : IsOrder ds own (λ x. false) groups

-- One unit: the bindings of the names in g have the types τ, and the other names of the list have the schemes B

-- the names of the unit with their types, the others with their schemes
abbrev pub within : (Identifier → Bool) → (Identifier → Scheme) → (Identifier → Monotype) → Identifier → Scheme
within g B τ y = cond (g y) (monomorphic (τ y)) (B y)

abbrev pub UnitHas : (Identifier → Bool) → List Identifier → Assumptions → (Identifier → Scheme) → (Identifier → Monotype) → Bindings → Type 0
UnitHas g xs A B τ no_binding = Unit {0}
UnitHas g xs A B τ (unsigned x cs D) = (g x ≡ true → HasClauses (bind_all xs (within g B τ) A) cs (τ x)) × UnitHas g xs A B τ D
UnitHas g xs A B τ (signed x s cs D) = UnitHas g xs A B τ D
UnitHas g xs A B τ (matched k p cs D) = (g k ≡ true → Matches τ p (τ k) × HasClauses (bind_all xs (within g B τ) A) cs (τ k)) × UnitHas g xs A B τ D

-- Groups of mutual reach, as lists of names

-- x is in one of the lists
abbrev pub IsInSome : Identifier → List (List Identifier) → Type 0
IsInSome x [] = ⊥
IsInSome x (g ∷ gs) = IsOneOf x g ⊎ IsInSome x gs

-- no name occurs twice, and each group comes after all others that it reaches
abbrev pub ComeInOrder : Bindings → List (List Identifier) → List (List Identifier) → Type 0
ComeInOrder ds before [] = Unit {0}
ComeInOrder ds before (g ∷ gs) = ((x : Identifier) → IsOneOf x g → ¬ (IsInSome x before) × ((y : Identifier) → Reaches ds x y → IsOneOf y g ⊎ IsInSome y before)) × ComeInOrder ds (g ∷ before) gs

-- the groups of mutual reach of the unsigned names of a list, each after all others that it reaches
pub record AreGroups (ds : Bindings) (gs : List (List Identifier)) : Type 0 where
  pub all : (x : Identifier) → IsUnsigned x ds → IsInSome x gs
  pub whole : (g : List Identifier) → IsOneOf g gs → (x y : Identifier) → IsOneOf x g → IsOneOf y g ↔ (IsUnsigned y ds × SameUnit ds x y)
  pub in_order : ComeInOrder ds [] gs

-- the tests for these lists, in order
abbrev pub AreTestsOf : List (Identifier → Bool) → List (List Identifier) → Type 0
AreTestsOf [] [] = Unit {0}
AreTestsOf [] (g ∷ gs) = ⊥
AreTestsOf (t ∷ ts) [] = ⊥
AreTestsOf (t ∷ ts) (g ∷ gs) = ((y : Identifier) → Decides (t y) (IsOneOf y g)) × AreTestsOf ts gs

-- The same for numbered names, like the groups of a graph. `name` has the name of each number below n

-- g may come after the numbers before: it is the group of its first number, which isn't among them, and all others that this reaches are
pub record NumberedGroup (ds : Bindings) (name : ℕ → Identifier) (n : ℕ) (before g : List ℕ) : Type 0 where
  pub first : ℕ
  pub number : first < n
  pub absent : ¬ (IsOneOf first before)
  pub after : (y : ℕ) → y < n → Reaches ds (name first) (name y) → IsOneOf y before ⊎ Reaches ds (name y) (name first)
  pub members : (y : ℕ) → IsOneOf y g ↔ ((y < n) × ((first ≡ y) ⊎ (Reaches ds (name first) (name y) × Reaches ds (name y) (name first))))

abbrev pub NumberedInOrder : Bindings → (ℕ → Identifier) → ℕ → List ℕ → List (List ℕ) → Type 0
NumberedInOrder ds name n before [] = Unit {0}
NumberedInOrder ds name n before (g ∷ gs) = NumberedGroup ds name n before g × NumberedInOrder ds name n (before ++ g) gs

pub record AreNumberedGroups (ds : Bindings) (name : ℕ → Identifier) (n : ℕ) (gs : List (List ℕ)) : Type 0 where
  pub unsigned_names : (i : ℕ) → i < n → IsUnsigned (name i) ds
  pub named : (x : Identifier) → IsUnsigned x ds → (i : ℕ) × (i < n) × (x ≡ name i)
  pub one_number : (i j : ℕ) → i < n → j < n → name i ≡ name j → i ≡ j
  pub all : (i : ℕ) → i < n → (g : List ℕ) × IsOneOf g gs × IsOneOf i g
  pub in_order : NumberedInOrder ds name n [] gs
