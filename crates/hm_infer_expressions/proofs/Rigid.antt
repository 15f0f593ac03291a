-- A declared type is checked with its variables taken as rigid ones; that holds at each instance where none of them escapes.
use Rattle.std.proofs.Common.{◌≡◌, ℕ, Bool, true, false, cond, nat_lt, ⊎_elim, refl, sym, ap, ◌∙◌, subst, subst₂, ◌+◌, ◌-◌, ◌<◌, ◌≤◌, arith}
use Rattle.std.proofs.lemmas.Bool.Decides.{nat_tests}
use Rattle.hm_types.specs.Types.{Var, In, put}
use Rattle.hm_types.specs.Monotypes.{Leaf, var, rigid}
use Rattle.hm_typing.specs.Schemes.{Monotype}
use Rattle.hm_typing.specs.Assumptions.{Assumptions, assumptions_put, FreeIn}
use Rattle.hm_typing.specs.Problems.{Unifies, IsBelow, FactsBelow, MostGeneralUnifier}
use Rattle.hm_typing.proofs.Types.{put-agree, put-put, In-put, put-In}
use Rattle.hm_typing.proofs.SchemeLaws.{assumptions_put-agree, assumptions_put_put, AssumptionsBelow}
use Rattle.hm_typing.proofs.Check.{assumptions_put_unifier}
use Rattle.hm_typing.proofs.Signed.{lift, lift_misses, Unifies-lift, each_lifted}
use Rattle.hm_unify.specs.Solving.{Solving}
use Rattle.hm_unify.specs.declared.faults.UnifyFault.{UnifyFault}
use Rattle.hm_infer_context.specs.Problems.{number, problem, bound, HasNone, Refuses, given_more}
use Rattle.hm_infer_context.proofs.Leaves.{leaf_at, number-leaf_at, leaf_at-number}
use Rattle.hm_infer_context.proofs.States.{guess, guess_below, guess_rigid, guess_unifies, more_rest, rigid_leaves}
use Rattle.hm_infer_context.proofs.Outcomes.{SolvedBy, Carries, pass_on}

-- the number of rigid variable i, from g on
abbrev pub rigid_from : ℕ → ℕ → ℕ
rigid_from g i = number (rigid (g + i))

-- us at the w rigid variables from g on, r elsewhere
abbrev spread_at : ℕ → ℕ → (ℕ → Monotype) → (ℕ → Monotype) → ℕ → Leaf → Monotype
spread_at g w r us y (var n) = r y
spread_at g w r us y (rigid n) = cond (nat_lt n g) (r y) (cond (nat_lt (n - g) w) (us (n - g)) (r y))

spread : ℕ → ℕ → (ℕ → Monotype) → (ℕ → Monotype) → ℕ → Monotype
spread g w r us y = spread_at g w r us y (leaf_at y)

spread_rigid : (g w : ℕ) (r us : ℕ → Monotype) (i : ℕ) → i < w → spread g w r us (rigid_from g i) ≡ us i
unfolding spread
spread_rigid g w r us i h =
    let e : nat_lt (g + i) g ≡ false = grind (arith, nat_tests) in
    let d : (g + i) - g ≡ i = omega arith in
    let f : nat_lt i w ≡ true = grind (arith, nat_tests) in
    ap (spread_at g w r us (rigid_from g i)) (leaf_at-number (rigid (g + i))) ∙ rw (e, d, f)

spread_other : (g w : ℕ) (r us : ℕ → Monotype) (y : ℕ) → ((i : ℕ) → i < w → y ≡ rigid_from g i → ⊥) → spread g w r us y ≡ r y
unfolding spread
spread_other g w r us y out = at (leaf_at y) (number-leaf_at y)
  where
    inside : (n : ℕ) → number (rigid n) ≡ y → nat_lt n g ≡ false → nat_lt (n - g) w ≡ true → ⊥
    inside n e a b = out (n - g) (less b) (sym e ∙ ap (λ k. number (rigid k)) (this a))
      where
        less : nat_lt (n - g) w ≡ true → n - g < w
        less b = grind (arith, nat_tests)

        notless : nat_lt n g ≡ false → g ≤ n
        notless a = grind (arith, nat_tests)

        this : nat_lt n g ≡ false → n ≡ g + (n - g)
        this a = let h = notless a in omega arith

    go : (n : ℕ) → number (rigid n) ≡ y → (b : Bool) → nat_lt n g ≡ b → (c : Bool) → nat_lt (n - g) w ≡ c → cond b (r y) (cond c (us (n - g)) (r y)) ≡ r y
    go n e true a c b = refl
    go n e false a true b = absurd (inside n e a b)
    go n e false a false b = refl

    at : (l : Leaf) → number l ≡ y → spread_at g w r us y l ≡ r y
    at (var n) e = refl
    at (rigid n) e = go n e (nat_lt n g) refl (nat_lt (n - g) w) refl

module _ (J : Assumptions → Monotype → Type 0) (J-put : (r : ℕ → Monotype) (A : Assumptions) (t : Monotype) → J A t → J (assumptions_put r A) (put r t)) where
  -- what is asked holds at each instance of s
  abbrev pub AtInstances : Monotype → Assumptions → (ℕ → Monotype) → Type 0
  AtInstances s A r = (us : ℕ → Monotype) → J (assumptions_put r A) (put us s)

  -- and where the variables of s are the rigid ones from g on
  abbrev pub AtRigidFrom : ℕ → Monotype → Assumptions → (ℕ → Monotype) → Type 0
  AtRigidFrom g s A r = J (assumptions_put r A) (put r (put (λ i. Var (rigid_from g i)) s))

  -- the guess at the rigid variables
  guessed : (s : Monotype) (A : Assumptions) (s0 : Solving) → AssumptionsBelow (bound s0) A → (r : ℕ → Monotype) → AtInstances s A r → AtRigidFrom s0.given s A (guess s0.given r (λ i. Var i))
  guessed s A s0 b r p =
      let g = s0.given in
      let q = guess g r (λ i. Var i) in
      subst₂ J (assumptions_put-agree r q A (λ a f. sym (guess_below g r (λ i. Var i) a (b a f))))
      (put-agree (λ i. Var (rigid_from g i)) (λ i. q (rigid_from g i)) s (λ i k. sym (guess_rigid g r (λ i. Var i) (g + i) (omega arith))) ∙ sym (put-put q (λ i. Var (rigid_from g i)) s))
      (p (λ i. Var (rigid_from g i)))

  pub carries_rigid : (s : Monotype) (A : Assumptions) (s0 : Solving) (w : ℕ) → FactsBelow (bound s0) (problem s0) → AssumptionsBelow (bound s0) A → Carries (AtInstances s A) s0 (AtRigidFrom s0.given s A) (given_more s0 w)
  carries_rigid s A s0 w d b r u p = (guess s0.given r (λ i. Var i), guess_unifies s0 w r (λ i. Var i) d u, guessed s A s0 b r p)

  -- no rigid variable escapes
  pub rigid_solved : (s : Monotype) (A : Assumptions) (s0 s2 : Solving) (w : ℕ) → FactsBelow (bound s0) (problem s0) → AssumptionsBelow (bound s0) A → IsBelow w s → SolvedBy (AtRigidFrom s0.given s A) (given_more s0 w) s2 →
      (m : MostGeneralUnifier (problem s2)) → ((i : ℕ) → i < w → ¬ (FreeIn (rigid_from s0.given i) (assumptions_put m.map A))) → SolvedBy (AtInstances s A) s0 s2
  rigid_solved s A s0 s2 w d b ws a m kept = record {
    grows = (let h = a.grows in omega arith);
    below = a.below;
    sound = λ r u. (
      more_rest s0 w r (a.sound r u).0,
      λ us.
          let g = s0.given in
          let old : Unifies m.map (problem (given_more s0 w)) = (a.sound m.map m.unifies).0 in
          let typed = (a.sound m.map m.unifies).1 in
          let fixed = rigid_leaves (g + w) _ m.map old in
          let v : ℕ → Monotype = spread g w r us in
          subst₂ J
          (assumptions_put-agree v r (assumptions_put m.map A) (λ y f. spread_other g w r us y (λ i h e. kept i h (subst (λ z. FreeIn z (assumptions_put m.map A)) e f))) ∙ assumptions_put_unifier A (problem s2) m r u)
          (ap (put v) (put-put m.map (λ i. Var (rigid_from g i)) s ∙ put-agree (λ i. m.map (rigid_from g i)) (λ i. Var (rigid_from g i)) s (λ i k. fixed (g + i) (let l = ws i k in omega arith))) ∙ (put-put v (λ i. Var (rigid_from g i)) s ∙ put-agree (λ i. v (rigid_from g i)) us s (λ i k. spread_rigid g w r us i (ws i k))))
          (J-put v (assumptions_put m.map A) _ typed),
    );
    complete = λ r u p.
        let g = s0.given in
        let q = guess g r (λ i. Var i) in
        let c = a.complete q (guess_unifies s0 w r (λ i. Var i) d u) (guessed s A s0 b r p) in
        (c.0, (λ x h. c.1 x (omega arith) ∙ guess_below g r (λ i. Var i) x h), c.2);
  }

  -- a rigid variable occurs in the value of an older one
  pub rigid_escapes : (s : Monotype) (A : Assumptions) (s0 s2 : Solving) (w : ℕ) → FactsBelow (bound s0) (problem s0) → AssumptionsBelow (bound s0) A → SolvedBy (AtRigidFrom s0.given s A) (given_more s0 w) s2 →
      (m : MostGeneralUnifier (problem s2)) → (i : ℕ) → i < w → (z : ℕ) → z < bound s0 → In (rigid_from s0.given i) (m.map z) → HasNone (AtInstances s A) s0
  rigid_escapes s A s0 s2 w d b a m i h z lz f r u p =
      let g = s0.given in
      let n = bound s0 in
      let k = bound (given_more s0 w) in
      let r' : ℕ → Monotype = λ x. put (lift n k) (r x) in
      let env : assumptions_put r' A ≡ assumptions_put (lift n k) (assumptions_put r A) = sym (assumptions_put_put (lift n k) r A) in
      let u' : Unifies r' (problem s0) = Unifies-lift n k (problem s0) r d u in
      let p' : AtInstances s A r' = λ us. subst (λ C. J C (put us s)) (sym env) (each_lifted J J-put s (assumptions_put r A) (lift n k) p us) in
      let q = guess g r' (λ j. Var j) in
      let c = a.complete q (guess_unifies s0 w r' (λ j. Var j) d u') (guessed s A s0 b r' p') in
      let value : put c.0 (m.map z) ≡ put (lift n k) (r z) = m.most c.0 c.2 z ∙ (c.1 z (omega arith) ∙ guess_below g r' (λ j. Var j) z lz) in
      let here : In (rigid_from g i) (put c.0 (m.map z)) =
      put-In c.0 (rigid_from g i) (rigid_from g i) (m.map z) f (subst (In (rigid_from g i)) (sym (c.1 (rigid_from g i) (omega arith) ∙ guess_rigid g r' (λ j. Var j) (g + i) (omega arith))) refl) in
      let from = In-put (lift n k) (rigid_from g i) (r z) (subst (In (rigid_from g i)) value here) in
      ⊎_elim (λ l. absurd (omega arith)) (λ l. absurd (omega arith)) (lift_misses n k from.0 (rigid_from g i) from.2)

  -- what is asked at the rigid variables is refused
  pub rigid_refused : (s : Monotype) (A : Assumptions) (s0 : Solving) (w : ℕ) (e : UnifyFault) → FactsBelow (bound s0) (problem s0) → AssumptionsBelow (bound s0) A → Refuses (AtRigidFrom s0.given s A) (given_more s0 w) e → Refuses (AtInstances s A) s0 e
  rigid_refused s A s0 w e d b n = pass_on {P = AtInstances s A} {Q = AtRigidFrom s0.given s A} s0 (given_more s0 w) e (carries_rigid s A s0 w d b) n
