-- The unifiers of a state of the solver, and what its steps do to them.
use Rattle.std.proofs.Common.{◌≡◌, ℕ, zero, suc, ◌+◌, ◌-◌, ◌<◌, ◌≤◌, List, [], ◌∷◌, ◌↔◌, ◌⊎◌, ⊎_elim, Bool, true, false, cond, nat_lt, Result, Ok, Err, OnOk, refl, sym, ap, ap₂, ◌∙◌, subst, arith, inl, inr}
use Rattle.std.proofs.lemmas.Bool.Decides.{nat_tests}
use Rattle.hm_types.specs.Types.{Var, put}
use Rattle.hm_types.specs.Monotypes.{Leaf, Mono, var, rigid}
use Rattle.hm_typing.specs.Schemes.{Monotype}
use Rattle.hm_typing.specs.Problems.{Fact, Unifies, FactsBelow, Solved}
use Rattle.hm_typing.proofs.Solve.{Unifies-local}
use Rattle.hm_unify.specs.Unifier as unifier
use Rattle.hm_unify.specs.Unifier.{Equation, HasUnifier, SameUnifiers}
use Rattle.hm_unify.specs.WellFormed.{IsWellFormed, EquationsAreWellFormed}
use Rattle.hm_unify.specs.Solving.{Solving}
use Rattle.hm_unify.specs.declared.faults.UnifyFault.{UnifyFault}
use Rattle.hm_unify.specs.declared.faults.UnifyFault.TheVariants.{Clash, Memory}
use Rattle.hm_infer_context.specs.Problems.{number, monotype, equal_facts, rigid_facts, problem, bound, HasNone, Answers, given_more}
use Rattle.hm_infer_context.proofs.Leaves.{leaf_at, number-leaf_at, leaf_at-number, back, back_one, there, LeavesRigid, substitute_there, monotype-below}

-- Rigid variables

pub rigid_rest : (n : ℕ) (E : List Fact) (r : ℕ → Monotype) → Unifies r (rigid_facts n E) → Unifies r E
rigid_rest zero E r u = u
rigid_rest (suc n) E r u = rigid_rest n E r u.1

pub rigid_leaves : (n : ℕ) (E : List Fact) (r : ℕ → Monotype) → Unifies r (rigid_facts n E) → LeavesRigid n r
rigid_leaves zero E r u k h = absurd (omega arith)
rigid_leaves (suc n) E r u k h = ⊎_elim (λ e. subst (λ j. r (number (rigid j)) ≡ Var (number (rigid j))) (sym e) u.0) (λ l. rigid_leaves n E r u.1 k l) (Rattle.std.proofs.Common.eq-or-lt_of_le (le h))
  where
    le : k < suc n → k ≤ n
    le l = omega arith

pub rigid_unify : (n : ℕ) (E : List Fact) (r : ℕ → Monotype) → LeavesRigid n r → Unifies r E → Unifies r (rigid_facts n E)
rigid_unify zero E r l u = u
rigid_unify (suc n) E r l u = (l n (omega arith), rigid_unify n E r (λ k h. l k (omega arith)) u)

pub rigid_below : (n m : ℕ) (E : List Fact) → n ≤ m → FactsBelow (m + m) E → FactsBelow (m + m) (rigid_facts n E)
rigid_below zero m E l b = b
rigid_below (suc n) m E l b = (omega arith, rigid_below n m E (omega arith) b)

-- Equations

equal_below : (g : ℕ) (es : List Equation) → EquationsAreWellFormed g es → FactsBelow (g + g) (equal_facts es)
equal_below g [] w = tt
equal_below g (e ∷ es) w = ((monotype-below g e.left w.0.0, monotype-below g e.right w.0.1), equal_below g es w.1)

pub problem_below : (s : Solving) → EquationsAreWellFormed s.given s.equations → FactsBelow (bound s) (problem s)
problem_below s w = rigid_below s.given s.given (equal_facts s.equations) (omega arith) (equal_below s.given s.equations w)

pub unifies_there : (g : ℕ) (es : List Equation) (r : ℕ → Monotype) → LeavesRigid g r → EquationsAreWellFormed g es → Unifies r (equal_facts es) → unifier.Unifies (there r) es
unifies_there g [] r l w u = tt
unifies_there g (e ∷ es) r l w u =
    (substitute_there g r l e.left w.0.0 ∙ (ap back u.0 ∙ sym (substitute_there g r l e.right w.0.1)), unifies_there g es r l w.1 u.1)

pub unifies_from : (g : ℕ) (es : List Equation) (r : ℕ → Monotype) → LeavesRigid g r → EquationsAreWellFormed g es → unifier.Unifies (there r) es → Unifies r (equal_facts es)
unifies_from g [] r l w u = tt
unifies_from g (e ∷ es) r l w u =
    (back_one _ _ (sym (substitute_there g r l e.left w.0.0) ∙ (u.0 ∙ substitute_there g r l e.right w.0.1)), unifies_from g es r l w.1 u.1)

abbrev pub Makes : Mono → Mono → (ℕ → Monotype) → Type 0
Makes left right r = put r (monotype left) ≡ put r (monotype right)

-- an equation was added
pub equation_solved : (g : ℕ) (es fs : List Equation) (left right : Mono) → IsWellFormed g left → IsWellFormed g right → EquationsAreWellFormed g es → EquationsAreWellFormed g fs →
    SameUnifiers fs (record { left = left; right = right } ∷ es) → Solved (Makes left right) (g + g) (rigid_facts g (equal_facts es)) (g + g) (rigid_facts g (equal_facts fs))
equation_solved g es fs left right a b v w same = record {
  grows = omega arith;
  below = rigid_below g g (equal_facts fs) (omega arith) (equal_below g fs w);
  sound = λ r u.
      let l = rigid_leaves g (equal_facts fs) r u in
      let k = (same (there r)).0 (unifies_there g fs r l w (rigid_rest g (equal_facts fs) r u)) in
      let both = unifies_from g (record { left = left; right = right } ∷ es) r l ((a, b), v) k in
      (rigid_unify g (equal_facts es) r l both.1, both.0);
  complete = λ r u p.
      let l = rigid_leaves g (equal_facts es) r u in
      let k = unifies_there g (record { left = left; right = right } ∷ es) r l ((a, b), v) (p, rigid_rest g (equal_facts es) r u) in
      (r, (λ x h. refl), rigid_unify g (equal_facts fs) r l (unifies_from g fs r l w ((same (there r)).1 k)));
}

pub equation_answered : (before after : Solving) (left right : Mono) → IsWellFormed before.given left → IsWellFormed before.given right → EquationsAreWellFormed before.given before.equations → EquationsAreWellFormed after.given after.equations →
    after.given ≡ before.given → SameUnifiers after.equations (record { left = left; right = right } ∷ before.equations) → Solved (Makes left right) (bound before) (problem before) (bound after) (problem after)
equation_answered before after left right a b v w e same =
    subst (λ g. Solved (Makes left right) (bound before) (problem before) (g + g) (rigid_facts g (equal_facts after.equations))) (sym e)
    (equation_solved before.given before.equations after.equations left right a b v (subst (λ g. EquationsAreWellFormed g after.equations) e w) same)

pub equation_refused : (before : Solving) (left right : Mono) → IsWellFormed before.given left → IsWellFormed before.given right → EquationsAreWellFormed before.given before.equations →
    (HasUnifier (record { left = left; right = right } ∷ before.equations) → ⊥) → HasNone (Makes left right) before
equation_refused before left right a b v never r u p =
    let l = rigid_leaves before.given (equal_facts before.equations) r u in
    never (there r, unifies_there before.given (record { left = left; right = right } ∷ before.equations) r l ((a, b), v) (p, rigid_rest before.given (equal_facts before.equations) r u))

-- New variables

-- as r below the bound of g, us at the variables from there on, and rigid variables as they are
guess_at : ℕ → (ℕ → Monotype) → (ℕ → Monotype) → ℕ → Leaf → Monotype
guess_at g r us x (var n) = cond (nat_lt n g) (r x) (us (n - g))
guess_at g r us x (rigid n) = cond (nat_lt n g) (r x) (Var x)

pub guess : ℕ → (ℕ → Monotype) → (ℕ → Monotype) → ℕ → Monotype
guess g r us x = guess_at g r us x (leaf_at x)

pub guess_below : (g : ℕ) (r us : ℕ → Monotype) (x : ℕ) → x < g + g → guess g r us x ≡ r x
unfolding guess guess_at
guess_below g r us x h = at (leaf_at x) (number-leaf_at x)
  where
    at : (l : Leaf) → number l ≡ x → guess_at g r us x l ≡ r x
    at (var n) e = let t : nat_lt n g ≡ true = grind (arith, nat_tests) in ap (λ b. cond b (r x) (us (n - g))) t
    at (rigid n) e = let t : nat_lt n g ≡ true = grind (arith, nat_tests) in ap (λ b. cond b (r x) (Var x)) t

pub guess_new : (g : ℕ) (r us : ℕ → Monotype) (i : ℕ) → guess g r us (number (var (g + i))) ≡ us i
unfolding guess guess_at
guess_new g r us i =
    let t : nat_lt (g + i) g ≡ false = grind (arith, nat_tests) in
    let d : (g + i) - g ≡ i = omega arith in
    ap (guess_at g r us (number (var (g + i)))) (leaf_at-number (var (g + i))) ∙ (ap (λ b. cond b (r (number (var (g + i)))) (us ((g + i) - g))) t ∙ ap us d)

pub guess_rigid : (g : ℕ) (r us : ℕ → Monotype) (k : ℕ) → g ≤ k → guess g r us (number (rigid k)) ≡ Var (number (rigid k))
unfolding guess guess_at
guess_rigid g r us k h =
    let t : nat_lt k g ≡ false = grind (arith, nat_tests) in
    ap (guess_at g r us (number (rigid k))) (leaf_at-number (rigid k)) ∙ ap (λ b. cond b (r (number (rigid k))) (Var (number (rigid k)))) t

pub less_or : (j g : ℕ) → (j < g) ⊎ (g ≤ j)
less_or j g = at (nat_lt j g) refl
  where
    at : (b : Bool) → nat_lt j g ≡ b → (j < g) ⊎ (g ≤ j)
    at true e = inl (grind (arith, nat_tests))
    at false e = inr (grind (arith, nat_tests))

pub guess_leaves : (g k : ℕ) (r us : ℕ → Monotype) → LeavesRigid g r → LeavesRigid (g + k) (guess g r us)
guess_leaves g k r us l j h =
    elim (less_or j g) [
      | inl m ↦ guess_below g r us (number (rigid j)) (omega arith) ∙ l j m
      | inr m ↦ guess_rigid g r us j m
    ]

pub more_rest : (s : Solving) (k : ℕ) (r : ℕ → Monotype) → Unifies r (problem (given_more s k)) → Unifies r (problem s)
more_rest s k r u =
    let l = rigid_leaves (s.given + k) (equal_facts s.equations) r u in
    rigid_unify s.given (equal_facts s.equations) r (λ j h. l j (omega arith)) (rigid_rest (s.given + k) (equal_facts s.equations) r u)

pub guess_unifies : (s : Solving) (k : ℕ) (r us : ℕ → Monotype) → FactsBelow (bound s) (problem s) → Unifies r (problem s) → Unifies (guess s.given r us) (problem (given_more s k))
guess_unifies s k r us b u =
    let g = s.given in
    let q = guess g r us in
    let v = Unifies-local (bound s) (problem s) b r q (λ x h. guess_below g r us x h) u in
    rigid_unify (g + k) (equal_facts s.equations) q (guess_leaves g k r us (rigid_leaves g (equal_facts s.equations) r u)) (rigid_rest g (equal_facts s.equations) q v)

-- what the solver says of an equation
pub equate_answers : {X : Type 0} (before after : Solving) (left right : Mono) (outcome : Result X UnifyFault) → IsWellFormed before.given left → IsWellFormed before.given right → EquationsAreWellFormed before.given before.equations → EquationsAreWellFormed after.given after.equations →
    OnOk outcome (SameUnifiers after.equations (record { left = left; right = right } ∷ before.equations)) → OnOk outcome (after ≡ record before { equations = after.equations }) →
    (outcome ≡ Err Clash → HasUnifier (record { left = left; right = right } ∷ before.equations) → ⊥) → Answers (Makes left right) before after outcome
equate_answers before after left right (Ok x) a b v w same rest clash = equation_answered before after left right a b v w (ap (λ s. s.given) rest) same
equate_answers before after left right (Err Clash) a b v w same rest clash = equation_refused before left right a b v (clash refl)
equate_answers before after left right (Err Memory) a b v w same rest clash = tt
