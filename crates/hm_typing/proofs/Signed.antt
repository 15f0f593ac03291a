-- A declared type is checked with rigid variables.
use Rattle.std.proofs.Common.{◌≡◌, ℕ, zero, suc, List, [], ◌∷◌, Bool, true, false, cond, nat_lt, inl, inr, ◌⊎◌, ⊎_elim, refl, sym, ap, ap₂, ◌∙◌, subst, subst₂, ◌+◌, ◌-◌, ◌<◌, ◌≤◌, arith}
use Rattle.std.proofs.lemmas.Bool.Decides.{nat_tests}
use Rattle.hm_types.specs.Types.{Var, In, put}
use Rattle.hm_typing.specs.Schemes.{Monotype}
use Rattle.hm_typing.specs.Assumptions.{Assumptions, assumptions_put, FreeIn}
use Rattle.hm_typing.specs.Decisions.{is_free_in}
use Rattle.hm_typing.specs.Problems.{Fact, Equal, Rigid, Unifies, IsBelow, FactsBelow, MostGeneralUnifier, Solved, Answer, solved, unsolvable}
use Rattle.hm_typing.proofs.Types.{put-agree, put-put}
use Rattle.hm_typing.proofs.SchemeLaws.{split, split_below, split_from, assumptions_put-agree, assumptions_put_put, AssumptionsBelow, assumptions_bound, assumptions_put_FreeIn, FreeIn_put}
use Rattle.hm_typing.proofs.Solve.{FactsBelow-more, Unifies-local}
use Rattle.hm_typing.proofs.Check.{assumptions_put_unifier}

pub rigids : ℕ → ℕ → List Fact → List Fact
rigids n zero E = E
rigids n (suc w) E = Rigid (n + w) ∷ rigids n w E

pub rigids_below : (n w : ℕ) (E : List Fact) → FactsBelow n E → FactsBelow (n + w) (rigids n w E)
unfolding rigids
rigids_below n zero E b = FactsBelow-more n (n + zero) E (omega arith) b
rigids_below n (suc w) E b = (omega arith, FactsBelow-more (n + w) (n + suc w) (rigids n w E) (omega arith) (rigids_below n w E b))

pub rigids_rest : (n w : ℕ) (E : List Fact) (r : ℕ → Monotype) → Unifies r (rigids n w E) → Unifies r E
unfolding rigids
rigids_rest n zero E r u = u
rigids_rest n (suc w) E r u = rigids_rest n w E r u.1

pub rigids_fixed : (n w : ℕ) (E : List Fact) (r : ℕ → Monotype) → Unifies r (rigids n w E) → (i : ℕ) → i < w → r (n + i) ≡ Var (n + i)
unfolding rigids
rigids_fixed n zero E r u i h = absurd (omega arith)
rigids_fixed n (suc w) E r u i h = ⊎_elim (λ e. subst (λ j. r (n + j) ≡ Var (n + j)) (sym e) u.0) (λ k. rigids_fixed n w E r u.1 i k) (Rattle.std.proofs.Common.eq-or-lt_of_le (le h))
  where
    le : i < suc w → i ≤ w
    le k = omega arith

pub rigids_unify : (n w : ℕ) (E : List Fact) (r : ℕ → Monotype) → Unifies r E → ((i : ℕ) → i < w → r (n + i) ≡ Var (n + i)) → Unifies r (rigids n w E)
unfolding rigids
rigids_unify n zero E r u f = u
rigids_unify n (suc w) E r u f = (f w (omega arith), rigids_unify n w E r u (λ i h. f i (omega arith)))

-- a rigid variable is free in A
pub escapes : (n w : ℕ) (A : Assumptions) → ((i : ℕ) × (i < w) × FreeIn (n + i) A) ⊎ ((i : ℕ) → i < w → ¬ (FreeIn (n + i) A))
escapes n zero A = inr (λ i h f. absurd (omega arith))
escapes n (suc w) A = go (is_free_in (n + w) A) (escapes n w A)
  where
    go : Dec (FreeIn (n + w) A) → ((i : ℕ) × (i < w) × FreeIn (n + i) A) ⊎ ((i : ℕ) → i < w → ¬ (FreeIn (n + i) A)) → ((i : ℕ) × (i < suc w) × FreeIn (n + i) A) ⊎ ((i : ℕ) → i < suc w → ¬ (FreeIn (n + i) A))
    go (yes f) e = inl (w, omega arith, f)
    go (no m) (inl e) = inl (e.0, (let h = e.1 in omega arith), e.2)
    go (no m) (inr e) = inr (λ i h f. ⊎_elim (λ k. m (subst (λ j. FreeIn (n + j) A) k f)) (λ k. e i k f) (Rattle.std.proofs.Common.eq-or-lt_of_le (le i h)))
      where
        le : (i : ℕ) → i < suc w → i ≤ w
        le i k = omega arith

-- variables from n on are moved up by k
abbrev pub lift : ℕ → ℕ → ℕ → Monotype
lift n k a = cond (nat_lt a n) (Var a) (Var (k + a))

pub lift_below : (n k a : ℕ) → a < n → lift n k a ≡ Var a
lift_below n k a h = let e : nat_lt a n ≡ true = grind (arith, nat_tests) in ap (λ b. cond b (Var a) (Var (k + a))) e

pub lift_misses : (n k a c : ℕ) → In c (lift n k a) → (c < n) ⊎ (k + n ≤ c)
lift_misses n k a c i = at (nat_lt a n) refl i
  where
    at : (b : Bool) → nat_lt a n ≡ b → In c (cond b (Var a) (Var (k + a))) → (c < n) ⊎ (k + n ≤ c)
    at true e j = subst (λ d. (d < n) ⊎ (k + n ≤ d)) (sym j) (inl (less e))
      where
        less : nat_lt a n ≡ true → a < n
        less e = grind (arith, nat_tests)
    at false e j = subst (λ d. (d < n) ⊎ (k + n ≤ d)) (sym j) (inr (more e))
      where
        more : nat_lt a n ≡ false → k + n ≤ k + a
        more e = grind (arith, nat_tests)

pub Unifies-lift : (n k : ℕ) (E : List Fact) (r : ℕ → Monotype) → FactsBelow n E → Unifies r E → Unifies (λ x. put (lift n k) (r x)) E
Unifies-lift n k [] r b u = tt
Unifies-lift n k (Equal t s ∷ E) r b u = (sym (put-put (lift n k) r t) ∙ (ap (put (lift n k)) u.0 ∙ put-put (lift n k) r s), Unifies-lift n k E r b.1 u.1)
Unifies-lift n k (Rigid a ∷ E) r b u = (ap (put (lift n k)) u.0 ∙ lift_below n k a b.0, Unifies-lift n k E r b.1 u.1)

-- us at the w variables from n on, r elsewhere
abbrev pub between : ℕ → ℕ → (ℕ → Monotype) → (ℕ → Monotype) → ℕ → Monotype
between n w r us y = cond (nat_lt y n) (r y) (cond (nat_lt (y - n) w) (us (y - n)) (r y))

pub between_rigid : (n w : ℕ) (r us : ℕ → Monotype) (i : ℕ) → i < w → between n w r us (n + i) ≡ us i
between_rigid n w r us i h =
    let e : nat_lt (n + i) n ≡ false = grind (arith, nat_tests) in
    let d : (n + i) - n ≡ i = omega arith in
    let f : nat_lt i w ≡ true = grind (arith, nat_tests) in
    rw (e, d, f)

pub between_other : (n w : ℕ) (r us : ℕ → Monotype) (y : ℕ) → ((i : ℕ) → i < w → y ≡ n + i → ⊥) → between n w r us y ≡ r y
between_other n w r us y out = go (nat_lt y n) refl (nat_lt (y - n) w) refl
  where
    inside : nat_lt y n ≡ false → nat_lt (y - n) w ≡ true → ⊥
    inside e f = out (y - n) (less f) (this e)
      where
        less : nat_lt (y - n) w ≡ true → y - n < w
        less f = grind (arith, nat_tests)

        notless : nat_lt y n ≡ false → n ≤ y
        notless e = grind (arith, nat_tests)

        this : nat_lt y n ≡ false → y ≡ n + (y - n)
        this e = let h = notless e in omega arith

    go : (b : Bool) → nat_lt y n ≡ b → (c : Bool) → nat_lt (y - n) w ≡ c → cond b (r y) (cond c (us (y - n)) (r y)) ≡ r y
    go true e c f = refl
    go false e true f = absurd (inside e f)
    go false e false f = refl

module _ (J : Assumptions → Monotype → Type 0) (J-put : (r : ℕ → Monotype) (A : Assumptions) (t : Monotype) → J A t → J (assumptions_put r A) (put r t)) where
  abbrev pub AtEach : Monotype → Assumptions → (ℕ → Monotype) → Type 0
  AtEach s A r = (us : ℕ → Monotype) → J (assumptions_put r A) (put us s)

  abbrev pub AtRigid : ℕ → Monotype → Assumptions → (ℕ → Monotype) → Type 0
  AtRigid n s A r = J (assumptions_put r A) (put r (put (λ i. Var (n + i)) s))

  -- what holds at each instance holds after a further substitution at each
  pub each_lifted : (s : Monotype) (A : Assumptions) (q : ℕ → Monotype) → ((us : ℕ → Monotype) → J A (put us s)) → (us : ℕ → Monotype) → J (assumptions_put q A) (put us s)
  each_lifted s A q j us =
      let b = assumptions_bound A in
      let n = b.0 in
      subst₂ J (assumptions_put-agree (split n q us) q A (λ a f. split_below n q us a (b.1 a f))) (put-put (split n q us) (λ i. Var (n + i)) s ∙ put-agree _ us s (λ i k. split_from n q us i))
      (J-put (split n q us) A (put (λ i. Var (n + i)) s) (j (λ i. Var (n + i))))

  -- the guess at the rigid variables
  pub rigid_guess : (s : Monotype) (A : Assumptions) (n w : ℕ) (E : List Fact) → AssumptionsBelow n A → FactsBelow n E → (r : ℕ → Monotype) → Unifies r E → AtEach s A r →
      (q : ℕ → Monotype) × ((x : ℕ) → x < n → q x ≡ r x) × Unifies q (rigids n w E) × AtRigid n s A q × ((i : ℕ) → q (n + i) ≡ Var (n + i))
  rigid_guess s A n w E b d r u p =
      let fr : ℕ → Monotype = λ i. Var (n + i) in
      let q : ℕ → Monotype = split n r fr in
      let agree : (x : ℕ) → x < n → q x ≡ r x = λ x h. split_below n r fr x h in (
        q,
        agree,
        rigids_unify n w E q (Unifies-local n E d r q agree u) (λ i h. split_from n r fr i),
        subst₂ J (assumptions_put-agree r q A (λ a f. sym (agree a (b a f)))) (put-agree _ _ s (λ i k. sym (split_from n r fr i)) ∙ sym (put-put q (λ i. Var (n + i)) s)) (p (λ i. Var (n + i))),
        λ i. split_from n r fr i,
      )

  pub signed_solved : (s : Monotype) (A : Assumptions) (n w : ℕ) (E : List Fact) (n1 : ℕ) (E1 : List Fact) → AssumptionsBelow n A → FactsBelow n E → IsBelow w s →
      Solved (AtRigid n s A) (n + w) (rigids n w E) n1 E1 → (m : MostGeneralUnifier E1) →
      ((i : ℕ) × (i < w) × FreeIn (n + i) (assumptions_put m.map A)) ⊎ ((i : ℕ) → i < w → ¬ (FreeIn (n + i) (assumptions_put m.map A))) → Answer (AtEach s A) n E
  signed_solved s A n w E n1 E1 b d ws a m (inr kept) = solved n1 E1 (record {
    grows = (let g = a.grows in omega arith);
    below = a.below;
    sound = λ r u. (
      rigids_rest n w E r (a.sound r u).0,
      λ us.
          let old : Unifies m.map (rigids n w E) = (a.sound m.map m.unifies).0 in
          let typed = (a.sound m.map m.unifies).1 in
          let v : ℕ → Monotype = between n w r us in
          subst₂ J
          (assumptions_put-agree v r (assumptions_put m.map A) (λ y f. between_other n w r us y (λ i h e. kept i h (subst (λ z. FreeIn z (assumptions_put m.map A)) e f))) ∙ assumptions_put_unifier A E1 m r u)
          (ap (put v) (put-put m.map (λ i. Var (n + i)) s ∙ put-agree _ _ s (λ i k. rigids_fixed n w E m.map old i (ws i k))) ∙ (put-put v (λ i. Var (n + i)) s ∙ put-agree _ us s (λ i k. between_rigid n w r us i (ws i k))))
          (J-put v (assumptions_put m.map A) _ typed),
    );
    complete = λ r u p.
        let g = rigid_guess s A n w E b d r u p in
        let c = a.complete g.0 g.2 g.3 in
        (c.0, (λ x h. c.1 x (omega arith) ∙ g.1 x h), c.2);
  })
  signed_solved s A n w E n1 E1 b d ws a m (inl (i, h, f)) = unsolvable (λ r u p.
      let k = n + w in
      let r' : ℕ → Monotype = λ x. put (lift n k) (r x) in
      let env : assumptions_put r' A ≡ assumptions_put (lift n k) (assumptions_put r A) = sym (assumptions_put_put (lift n k) r A) in
      let g = rigid_guess s A n w E b d r' (Unifies-lift n k E r d u) (λ us. subst (λ C. J C (put us s)) (sym env) (each_lifted s (assumptions_put r A) (lift n k) p us)) in
      let c = a.complete g.0 g.2 g.3 in
      let same : assumptions_put c.0 (assumptions_put m.map A) ≡ assumptions_put (lift n k) (assumptions_put r A) =
      assumptions_put_unifier A E1 m c.0 c.2 ∙ (assumptions_put-agree c.0 r' A (λ y z. c.1 y (let l = b y z in omega arith) ∙ g.1 y (b y z)) ∙ env) in
      let here : FreeIn (n + i) (assumptions_put (lift n k) (assumptions_put r A)) =
      subst (FreeIn (n + i)) same (FreeIn_put c.0 (n + i) (n + i) (assumptions_put m.map A) f (subst (In (n + i)) (sym (c.1 (n + i) (omega arith) ∙ g.4 i)) refl)) in
      let from = assumptions_put_FreeIn (lift n k) (n + i) (assumptions_put r A) here in
      ⊎_elim (λ l. absurd (omega arith)) (λ l. absurd (omega arith)) (lift_misses n k from.0 (n + i) from.2))

  pub signed : (solve : (E : List Fact) → MostGeneralUnifier E ⊎ ((r : ℕ → Monotype) → Unifies r E → ⊥)) → (s : Monotype) (A : Assumptions) (n w : ℕ) (E : List Fact) → AssumptionsBelow n A → FactsBelow n E → IsBelow w s →
      Answer (AtRigid n s A) (n + w) (rigids n w E) → Answer (AtEach s A) n E
  signed solve s A n w E b d ws (solved n1 E1 a) = go (solve E1)
    where
      go : MostGeneralUnifier E1 ⊎ ((r : ℕ → Monotype) → Unifies r E1 → ⊥) → Answer (AtEach s A) n E
      go (inl m) = signed_solved s A n w E n1 E1 b d ws a m (escapes n w (assumptions_put m.map A))
      go (inr never) = unsolvable (λ r u p. let g = rigid_guess s A n w E b d r u p in let c = a.complete g.0 g.2 g.3 in never c.0 c.2)
  signed solve s A n w E b d ws (unsolvable never) = unsolvable (λ r u p. let g = rigid_guess s A n w E b d r u p in never g.0 g.2 g.3)
