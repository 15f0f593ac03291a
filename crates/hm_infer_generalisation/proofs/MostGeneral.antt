-- The solution of a state's equations is a most general unifier of its problem.
use Rattle.std.proofs.Common.{◌≡◌, ℕ, zero, suc, ◌+◌, ◌<◌, ◌≤◌, List, [], ◌∷◌, refl, sym, ap, ◌∙◌, subst, arith, inl, inr}
use Rattle.hm_types.specs.Types.{Var, In, put}
use Rattle.hm_types.specs.Monotypes.{Leaf, var, rigid}
use Rattle.hm_typing.specs.Schemes.{Monotype}
use Rattle.hm_typing.specs.Problems.{Fact, Unifies, IsBelow, FactsBelow, MostGeneralUnifier}
use Rattle.hm_unify.specs.Unifier as unifier
use Rattle.hm_unify.specs.Unifier.{Equation, IsAbsorbed, BindsOnly}
use Rattle.hm_unify.specs.Bindings.{solution}
use Rattle.hm_unify.specs.WellFormed.{EquationsAreWellFormed}
use Rattle.hm_unify.proofs.WellFormed.{equations_well_formed_absent, well_formed_solution}
use Rattle.hm_unify.specs.Solving.{Solving}
use Rattle.hm_infer_context.specs.Problems.{number, monotype, equal_facts, rigid_facts, problem}
use Rattle.hm_infer_generalisation.specs.Generalisations.{IsSolution}
use Rattle.hm_infer_context.proofs.Leaves.{leaf_at, number-leaf_at, leaf_at-number, back_one, here, map_at, there, monotype-substitute, substitute_there, monotype-below}
use Rattle.hm_infer_context.proofs.States.{rigid_rest, rigid_leaves, rigid_unify, unifies_there, less_or}

here_number : (es : List Equation) (l : Leaf) → here (solution es) (number l) ≡ map_at (solution es) l
here_number es l = ap (map_at (solution es)) (leaf_at-number l)

pub here_solves : (es : List Equation) → IsSolution es (here (solution es))
here_solves es n = (here_number es (var n), here_number es (rigid n))

unifies_equal : (es fs : List Equation) → unifier.Unifies (solution es) fs → Unifies (here (solution es)) (equal_facts fs)
unifies_equal es [] u = tt
unifies_equal es (e ∷ fs) u = (sym (monotype-substitute (solution es) e.left) ∙ (ap monotype u.0 ∙ monotype-substitute (solution es) e.right), unifies_equal es fs u.1)

-- a variable that was not given is not bound
unbound : (g n : ℕ) (es : List Equation) → EquationsAreWellFormed g es → BindsOnly (solution es) es → g ≤ n → solution es n ≡ Var (var n)
unbound g n es w only h = only n (equations_well_formed_absent g n es h w)

most_at : (s : Solving) → EquationsAreWellFormed s.given s.equations → IsAbsorbed (solution s.equations) s.equations → BindsOnly (solution s.equations) s.equations → (r : ℕ → Monotype) → Unifies r (problem s) → (l : Leaf) → put r (map_at (solution s.equations) l) ≡ r (number l)
most_at s w absorbed only r u (rigid n) = refl
most_at s w absorbed only r u (var n) =
    elim (less_or n s.given) [
      | inl h ↦
          let l = rigid_leaves s.given (equal_facts s.equations) r u in
          let k = unifies_there s.given s.equations r l w (rigid_rest s.given (equal_facts s.equations) r u) in
          back_one _ _ (sym (substitute_there s.given r l (solution s.equations n) (well_formed_solution s.given s.equations w (Var (var n)) h)) ∙ absorbed (there r) k (Var (var n)))
      | inr h ↦ ap (λ t. put r (monotype t)) (unbound s.given n s.equations w only h)
    ]

bound_below : (g n : ℕ) (E : List Fact) → FactsBelow n (rigid_facts g E) → g + g ≤ n
bound_below zero n E b = omega arith
bound_below (suc g) n E b = let h : suc (g + g) < n = b.0 in omega arith

below_at : (s : Solving) → EquationsAreWellFormed s.given s.equations → BindsOnly (solution s.equations) s.equations → (n : ℕ) → FactsBelow n (problem s) → (l : Leaf) → number l < n → IsBelow n (map_at (solution s.equations) l)
below_at s w only n b (rigid k) h a i = subst (λ z. z < n) (sym i) h
below_at s w only n b (var k) h a i =
    elim (less_or k s.given) [
      | inl m ↦
          let c = monotype-below s.given (solution s.equations k) (well_formed_solution s.given s.equations w (Var (var k)) m) a i in
          let d = bound_below s.given n (equal_facts s.equations) b in
          omega arith
      | inr m ↦
          let same : a ≡ number (var k) = subst (λ t. In a (monotype t)) (unbound s.given k s.equations w only m) i in
          subst (λ z. z < n) (sym same) h
    ]

pub most_general : (s : Solving) → EquationsAreWellFormed s.given s.equations → unifier.Unifies (solution s.equations) s.equations → IsAbsorbed (solution s.equations) s.equations → BindsOnly (solution s.equations) s.equations → MostGeneralUnifier (problem s)
most_general s w unifies absorbed only = record {
  map = here (solution s.equations);
  unifies = rigid_unify s.given (equal_facts s.equations) (here (solution s.equations)) (λ k h. here_number s.equations (rigid k)) (unifies_equal s.equations s.equations unifies);
  most = λ r u x. most_at s w absorbed only r u (leaf_at x) ∙ ap r (number-leaf_at x);
  below = λ n b x h. below_at s w only n b (leaf_at x) (subst (λ z. z < n) (sym (number-leaf_at x)) h);
}

-- and it is the solution
pub most_general_solves : (s : Solving) (w : EquationsAreWellFormed s.given s.equations) (u : unifier.Unifies (solution s.equations) s.equations) (a : IsAbsorbed (solution s.equations) s.equations) (o : BindsOnly (solution s.equations) s.equations) → IsSolution s.equations (most_general s w u a o).map
unfolding most_general
most_general_solves s w u a o = here_solves s.equations
