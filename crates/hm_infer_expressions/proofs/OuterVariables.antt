-- Variables that occur in the value of an older one. What a group shares with older variables is free in the assumptions.
use Rattle.std.proofs.Common.{◌≡◌, ℕ, suc, List, Bool, true, false, cond, ◌==◌, inl, inr, ⊎_elim, ◌↔◌, refl, sym, ap, ◌∙◌, subst, ◌+◌, ◌<◌, arith, true≢false}
use Rattle.std.proofs.lemmas.Bool.Decides.{nat_tests}
use Rattle.hm_types.specs.Types.{Var, App, In, put}
use Rattle.hm_types.specs.Monotypes.{Leaf, Mono, var, rigid}
use Rattle.hm_typing.specs.Names.{Identifier, IsOneOf}
use Rattle.hm_typing.specs.Schemes.{Monotype, Scheme, Free, scheme_put}
use Rattle.hm_typing.specs.Assumptions.{Assumptions, FreeIn, assumptions_put}
use Rattle.hm_typing.specs.Decisions.{is_free_in}
use Rattle.hm_typing.specs.Syntax.{Bindings, names}
use Rattle.hm_typing.specs.Problems.{Unifies, FactsBelow, MostGeneralUnifier}
use Rattle.hm_typing.proofs.Types.{put-Var}
use Rattle.hm_typing.proofs.SchemeLaws.{assumptions_put-agree, assumptions_put_Var, assumptions_put_FreeIn, scheme_put-agree, scheme_put_Var, AssumptionsBelow, SchemeBelow}
use Rattle.hm_typing.proofs.Generalising.{agree-put}
use Rattle.hm_typing.proofs.Groups.{over, GroupHas, GroupQ, GroupHas-agree}
use Rattle.hm_typing.proofs.Patterns.{under}
use Rattle.hm_typing.proofs.Units.{GroupHas-put}
use Rattle.hm_unify.specs.Unifier.{Equation}
use Rattle.hm_unify.specs.Bindings.{solution}
use Rattle.hm_unify.specs.Levels.{number_of, value_of, IsOuter, is_outer}
use Rattle.hm_unify.specs.Solving.{Solving}
use Rattle.hm_unify.proofs.Outer.{has_in, in_has, outer_is_tested}
use Rattle.hm_infer_context.specs.Problems.{number, monotype, problem, bound, given_more}
use Rattle.hm_infer_generalisation.specs.Generalisations.{IsSolution, Keeps}
use Rattle.hm_infer_context.proofs.Leaves.{leaf_at, number-leaf_at, map_at}
use Rattle.hm_infer_context.proofs.Outcomes.{SolvedBy}
use Rattle.hm_infer_generalisation.proofs.Quantifying.{here_at, in_monotype, of_monotype}
use Rattle.hm_infer_context.proofs.States.{guess, guess_below, guess_new, guess_unifies, more_rest}
use Rattle.hm_infer_expressions.proofs.Steps.{variable_at}

-- ---- what the solution puts for a variable

value_at : (es : List Equation) (v : Leaf) → monotype (value_of es v) ≡ map_at (solution es) v
value_at es (var n) = refl
value_at es (rigid n) = refl

solved_at : (es : List Equation) (m : ℕ → Monotype) → IsSolution es m → (v : Leaf) → m (number v) ≡ monotype (value_of es v)
solved_at es m sol v = here_at es m sol v ∙ sym (value_at es v)

number_below : (v : Leaf) (g : ℕ) → number_of v < g → number v < g + g
number_below (var n) g h = omega arith
number_below (rigid n) g h = omega arith

below_number : (v : Leaf) (g : ℕ) → number v < g + g → number_of v < g
below_number (var n) g h = omega arith
below_number (rigid n) g h = omega arith

-- an outer variable is in the value of a number below the bound
pub outer_inside : (es : List Equation) (m : ℕ → Monotype) → IsSolution es m → (g : ℕ) (l : Leaf) → IsOuter es g l → (z : ℕ) × ((z < g + g) × In (number l) (m z))
outer_inside es m sol g l o = (
  number o.holder,
  (number_below o.holder g o.before, subst (In (number l)) (sym (solved_at es m sol o.holder)) (in_monotype l (value_of es o.holder) (has_in l (value_of es o.holder) o.held))),
)

-- what is free in assumptions after solving is outer
pub free_is_outer : (es : List Equation) (m : ℕ → Monotype) → IsSolution es m → (A : Assumptions) (g : ℕ) → AssumptionsBelow (g + g) A → (l : Leaf) → FreeIn (number l) (assumptions_put m A) → IsOuter es g l
free_is_outer es m sol A g low l f =
    let h = assumptions_put_FreeIn m (number l) A f in
    let at : number (leaf_at h.0) ≡ h.0 = number-leaf_at h.0 in
    record {
      holder = leaf_at h.0;
      before = below_number (leaf_at h.0) g (let b = low h.0 h.1 in omega (arith, at));
      held = in_has l (value_of es (leaf_at h.0)) (of_monotype l (value_of es (leaf_at h.0)) (subst (In (number l)) (ap m (sym at) ∙ solved_at es m sol (leaf_at h.0)) h.2));
    }

-- ---- another variable for a

abbrev moved : ℕ → ℕ → Monotype
moved a b = cond (b == a) (Var (suc a)) (Var b)

moved_other : (a b : ℕ) → ¬ (b ≡ a) → moved a b ≡ Var b
moved_other a b n = go (b == a) refl
  where
    go : (c : Bool) → (b == a) ≡ c → cond c (Var (suc a)) (Var b) ≡ Var b
    go true e = absurd (n (same e))
      where
        same : (b == a) ≡ true → b ≡ a
        same e = grind (arith, nat_tests)
    go false e = refl

abbrev one_number : Monotype → ℕ
one_number (Var a) = a
one_number (App h ts) = 0

not_moved : (a : ℕ) → ¬ (Var a ≡ moved a a)
not_moved a e = go (a == a) refl e
  where
    go : (c : Bool) → (a == a) ≡ c → Var a ≡ cond c (Var (suc a)) (Var a) → ⊥
    go true d k = let h : a ≡ suc a = ap one_number k in absurd (omega arith)
    go false d k = absurd (other d)
      where
        other : (a == a) ≡ false → ⊥
        other d = grind (arith, nat_tests)

-- ---- a group

module _ (ds : Bindings) (g : Identifier → Bool) (A : Assumptions) (B : Identifier → Scheme) (s0 : Solving) (k : ℕ) (place : Identifier → ℕ) (facts : FactsBelow (bound s0) (problem s0)) (low : AssumptionsBelow (bound s0) A) (few : (y : Identifier) → SchemeBelow (bound s0) (B y))
    (s1 : Solving) (solved : SolvedBy (GroupQ g (names ds) A B (variable_at s0.given place) ds) (given_more s0 k) s1) (m : MostGeneralUnifier (problem s1)) (inner : (y : Identifier) (a : ℕ) → In (Free a) (scheme_put m.map (B y)) → FreeIn a (assumptions_put m.map A)) where
  -- the most general unifier, with another variable for a in the types of the group
  abbrev apart : ℕ → ℕ → Monotype
  apart a = guess s0.given m.map (λ i. put (moved a) (m.map (number (var (s0.given + i)))))

  asked : (a : ℕ) → ¬ (FreeIn a (assumptions_put m.map A)) → GroupQ g (names ds) A B (variable_at s0.given place) ds (apart a)
  asked a never =
      GroupHas-agree ds g (names ds) (assumptions_put (moved a) (assumptions_put m.map A)) (assumptions_put (apart a) A) (over (moved a) (over m.map B)) (over (apart a) B) (under (moved a) (λ y. put m.map (variable_at s0.given place y))) (λ y. put (apart a) (variable_at s0.given place y))
      (assumptions_put-agree (moved a) Var (assumptions_put m.map A) (λ b f. fixed b f) ∙ (assumptions_put_Var (assumptions_put m.map A) ∙ assumptions_put-agree m.map (apart a) A (λ b f. sym (below b (low b f)))))
      (λ y o. scheme_put-agree (moved a) Var (scheme_put m.map (B y)) (λ b i. fixed b (inner y b i)) ∙ (scheme_put_Var (scheme_put m.map (B y)) ∙ scheme_put-agree m.map (apart a) (B y) (λ b i. sym (below b (few y b i)))))
      (λ y o. sym (guess_new s0.given m.map (λ i. put (moved a) (m.map (number (var (s0.given + i))))) (place y))) (λ y o. o)
      (GroupHas-put ds (moved a) g (names ds) (assumptions_put m.map A) (over m.map B) (λ y. put m.map (variable_at s0.given place y)) (solved.sound m.map m.unifies).1)
    where
      fixed : (b : ℕ) → FreeIn b (assumptions_put m.map A) → moved a b ≡ Var b
      fixed b f = moved_other a b (λ e. never (subst (λ z. FreeIn z (assumptions_put m.map A)) e f))

      below : (x : ℕ) → x < bound s0 → apart a x ≡ m.map x
      below x h = guess_below s0.given m.map (λ i. put (moved a) (m.map (number (var (s0.given + i))))) x h

  pub shared_is_free : (a z : ℕ) (y : Identifier) → place y < k → In a (m.map (number (var (s0.given + place y)))) → z < bound s0 → In a (m.map z) → FreeIn a (assumptions_put m.map A)
  shared_is_free a z y ly hy lz hz = go (is_free_in a (assumptions_put m.map A))
    where
      us : ℕ → Monotype
      us = λ i. put (moved a) (m.map (number (var (s0.given + i))))

      clash : ¬ (FreeIn a (assumptions_put m.map A)) → ⊥
      clash never = not_moved a (sym at_outer ∙ at_inner)
        where
          c : (q : ℕ → Monotype) × ((x : ℕ) → x < bound (given_more s0 k) → q x ≡ apart a x) × Unifies q (problem s1)
          c = solved.complete (apart a) (guess_unifies s0 k m.map (λ i. put (moved a) (m.map (number (var (s0.given + i))))) facts (more_rest s0 k m.map (solved.sound m.map m.unifies).0)) (asked a never)

          at_outer : c.0 a ≡ Var a
          at_outer = agree-put c.0 Var (m.map z) (m.most c.0 c.2 z ∙ (c.1 z (omega arith) ∙ (guess_below s0.given m.map (λ i. put (moved a) (m.map (number (var (s0.given + i))))) z lz ∙ sym (put-Var (m.map z))))) a hz

          at_inner : c.0 a ≡ moved a a
          at_inner = agree-put c.0 (moved a) (m.map (number (var (s0.given + place y)))) (m.most c.0 c.2 (number (var (s0.given + place y))) ∙ (c.1 (number (var (s0.given + place y))) (omega arith) ∙ guess_new s0.given m.map (λ i. put (moved a) (m.map (number (var (s0.given + i))))) (place y))) a hy

      go : Dec (FreeIn a (assumptions_put m.map A)) → FreeIn a (assumptions_put m.map A)
      go (yes f) = f
      go (no f) = absurd (clash f)

  -- of the variables of a type of the group those are outer that are free in the assumptions
  pub keeps_outer : IsSolution s1.equations m.map → (y : Identifier) (n : ℕ) → place y < k → s0.given + place y ≡ n → Keeps (is_outer s1.equations s0.given) (solution s1.equations n) (assumptions_put m.map A)
  keeps_outer sol y n ly at l i = (
    λ t.
        let o = outer_inside s1.equations m.map sol s0.given l ((outer_is_tested s1.equations s0.given l).0 t) in
        shared_is_free (number l) o.0 y ly (subst (λ j. In (number l) (m.map (number (var j)))) (sym at) (subst (In (number l)) (sym (sol n).0) (in_monotype l (solution s1.equations n) i))) o.1.0 o.1.1,
    λ f. (outer_is_tested s1.equations s0.given l).1 (free_is_outer s1.equations m.map sol A s0.given low l f),
  )

-- where nothing is free in the assumptions none of these is outer
pub keeps_none : (kept : Leaf → Bool) (t : Mono) (A : Assumptions) → Keeps kept t A → ((a : ℕ) → ¬ (FreeIn a A)) → (l : Leaf) → In l t → kept l ≡ false
keeps_none kept t A keeps shut l i = go (kept l) refl
  where
    go : (b : Bool) → kept l ≡ b → b ≡ false
    go true e = absurd (shut (number l) ((keeps l i).0 e))
    go false e = refl
