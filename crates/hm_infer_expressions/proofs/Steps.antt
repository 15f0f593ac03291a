-- A group of a list is solved: what is left of the list is asked of the schemes that the group got. It is hm_typing's step over the program's states, whose type variables are numbered by places.
use Rattle.std.proofs.Common.{◌≡◌, ℕ, List, Bool, true, false, cond, ◌||◌, inl, inr, ◌⊎◌, ⊎_elim, refl, sym, ap, ap₂, ◌∙◌, subst, subst₂, ◌+◌, ◌<◌, ◌≤◌, arith, true≢false}
use Rattle.hm_types.specs.Types.{Var, In, put}
use Rattle.hm_types.specs.Monotypes.{var}
use Rattle.hm_typing.specs.Names.{IsOneOf, Identifier}
use Rattle.hm_typing.specs.Schemes.{Monotype, Scheme, Free, instance, IsInstance, monomorphic, scheme_put, IsAtMostAsGeneral}
use Rattle.hm_typing.specs.Assumptions.{Assumptions, assumptions_put, FreeIn, AreAtMostAsGeneral, bind_all}
use Rattle.hm_typing.specs.Decisions.{is_free_in}
use Rattle.hm_typing.specs.Generalisation.{quantify}
use Rattle.hm_typing.specs.Syntax.{Bindings, no_binding, unsigned, signed, matched, matched_names, names}
use Rattle.hm_typing.specs.Units.{IsSigned, AreUnits}
use Rattle.hm_typing.specs.SecondForm.{DeriveClauses, seen_at}
use Rattle.hm_typing.specs.Problems.{Unifies, FactsBelow, MostGeneralUnifier, IsLocal}
use Rattle.hm_typing.specs.Orders.{within, IsReady, IsNext, SignedAre}
use Rattle.hm_typing.proofs.SchemeLaws.{scheme_put_mono, scheme_put-agree, scheme_put_put, assumptions_put-agree, AssumptionsBelow, SchemeBelow, assumptions_bound, FreeIn_put, scheme_put_In}
use Rattle.hm_typing.proofs.Bind.{Has-bind_all, bind_all-agree, assumptions_put-bind_all, FreeIn-bind_all-in, FreeIn-bind_all-out}
use Rattle.hm_typing.proofs.Quantified.{In_quantify}
use Rattle.hm_typing.proofs.Check.{open_with, open_with-free, quantified_put, assumptions_put_unifier, assumptions_put-below, let-covers}
use Rattle.hm_typing.proofs.More.{DeriveClauses-more}
use Rattle.hm_typing.proofs.Put.{Matches-put, DeriveClauses-put}
use Rattle.hm_typing.proofs.Local.{IsOneOf-left, IsOneOf-right}
use Rattle.hm_typing.proofs.Matching.{own_name, Matches-named, AreTogether, together}
use Rattle.hm_typing.proofs.Bridge.{more-all, fresh, own_signed}
use Rattle.hm_typing.proofs.Groups.{over, GroupHas, GroupQ, Remaining, Stage, AreSchemes, signed_same, cond_true, cond_false, group_guess, Remaining-more}
use Rattle.hm_unify.specs.Solving.{Solving}
use Rattle.hm_infer_context.specs.Problems.{number, problem, bound, given_more}
use Rattle.hm_infer_context.proofs.States.{guess, guess_below, guess_new, guess_unifies, more_rest}
use Rattle.hm_infer_context.proofs.Outcomes.{SolvedBy}

bool_cases : (b : Bool) → (b ≡ true) ⊎ (b ≡ false)
bool_cases true = inl refl
bool_cases false = inr refl

not_both : (b : Bool) → b ≡ true → b ≡ false → ⊥
not_both b e f = true≢false (sym e ∙ f)

-- the type of a name of the group: one of the variables that were given for it
abbrev pub variable_at : ℕ → (Identifier → ℕ) → Identifier → Monotype
variable_at first place y = Var (number (var (first + place y)))

-- a group at other types for names that are not in it
pub GroupHas-in : (D : Bindings) (own : Identifier → Identifier → Bool) (g : Identifier → Bool) (xs : List Identifier) (A A' : Assumptions) (B C : Identifier → Scheme) (τ ρ : Identifier → Monotype) → A ≡ A' → ((y : Identifier) → IsOneOf y xs → B y ≡ C y) → ((y : Identifier) → g y ≡ true → τ y ≡ ρ y) →
    ((x y : Identifier) → own x y ≡ true → g x ≡ g y) → AreTogether own D → GroupHas g xs A B τ D → GroupHas g xs A' C ρ D
GroupHas-in no_binding own g xs A A' B C τ ρ e b t whole to h = tt
GroupHas-in (unsigned x cs D) own g xs A A' B C τ ρ e b t whole to h = (
  (λ gx. subst₂ (λ Γ v. DeriveClauses Γ cs v) (bind_all-agree xs _ _ A A' (λ y o. seen y (b y o) (bool_cases (g y))) e) (t x gx) (h.0 gx)),
  GroupHas-in D own g xs A A' B C τ ρ e b t whole to h.1,
)
  where
    seen : (y : Identifier) → B y ≡ C y → (g y ≡ true) ⊎ (g y ≡ false) → cond (g y) (monomorphic (τ y)) (B y) ≡ cond (g y) (monomorphic (ρ y)) (C y)
    seen y k (inl i) = cond_true (g y) _ _ i ∙ (ap monomorphic (t y i) ∙ sym (cond_true (g y) _ _ i))
    seen y k (inr i) = cond_false (g y) _ _ i ∙ (k ∙ sym (cond_false (g y) _ _ i))
GroupHas-in (signed x s cs D) own g xs A A' B C τ ρ e b t whole to h = GroupHas-in D own g xs A A' B C τ ρ e b t whole to h
GroupHas-in (matched k p cs D) own g xs A A' B C τ ρ e b t whole to h = (
  (λ gk.
      let at : (x : Identifier) → IsOneOf x (matched_names k p) → τ x ≡ ρ x = λ x o. t x (sym (whole k x (to.0 k x (own_name k p) o)) ∙ gk) in (
        Matches-named k p τ ρ at (h.0 gk).0,
        subst₂ (λ Γ v. DeriveClauses Γ cs v) (bind_all-agree xs _ _ A A' (λ y o. seen y (b y o) (bool_cases (g y))) e) (t k gk) (h.0 gk).1,
      )),
  GroupHas-in D own g xs A A' B C τ ρ e b t whole to.1 h.1,
)
  where
    seen : (y : Identifier) → B y ≡ C y → (g y ≡ true) ⊎ (g y ≡ false) → cond (g y) (monomorphic (τ y)) (B y) ≡ cond (g y) (monomorphic (ρ y)) (C y)
    seen y j (inl i) = cond_true (g y) _ _ i ∙ (ap monomorphic (t y i) ∙ sym (cond_true (g y) _ _ i))
    seen y j (inr i) = cond_false (g y) _ _ i ∙ (j ∙ sym (cond_false (g y) _ _ i))

-- the schemes after a group
abbrev pub made : (Identifier → Bool) → Assumptions → ℕ → (Identifier → ℕ) → (Identifier → Scheme) → (s1 : Solving) → MostGeneralUnifier (problem s1) → Identifier → Scheme
made g A first place B s1 m y = cond (g y) (quantify (assumptions_put m.map A) (m.map (number (var (first + place y))))) (B y)

or_true : (a b : Bool) → (a || b) ≡ true → (a ≡ true) ⊎ (b ≡ true)
or_true true b e = inl refl
or_true false b e = inr e

-- the guess at a group's question, without its answer
pub group_asked : (ds : Bindings) (own : Identifier → Identifier → Bool) → AreUnits ds own → (finished g : Identifier → Bool) → IsNext ds own finished g → (A : Assumptions) (s0 : Solving) (k : ℕ) (B : Identifier → Scheme) (place : Identifier → ℕ) (named : ℕ → Identifier) → ((x : Identifier) → g x ≡ true → (place x < k) × (named (place x) ≡ x)) →
    AreSchemes ds A (bound s0) (problem s0) B → AssumptionsBelow (bound s0) A → FactsBelow (bound s0) (problem s0) → (Body : Assumptions → (ℕ → Monotype) → Type 0) (r : ℕ → Monotype) → Unifies r (problem s0) → Stage own ds Body A finished B r →
    (q : ℕ → Monotype) × Unifies q (problem (given_more s0 k)) × GroupQ g (names ds) A B (variable_at s0.given place) ds q
group_asked ds own units finished g next A s0 k B place named placed schemes low facts Body r u p = (q0, guess_unifies s0 k r (λ i. τ (named i)) facts u, asked0)
  where
    τ : Identifier → Monotype
    τ z = instance (p.0 z) Var

    known : (y : Identifier) → (finished y ≡ true) ⊎ IsSigned y ds → p.0 y ≡ scheme_put r (B y)
    known y (inl f) = p.1.0 y f
    known y (inr i) = signed_same ds own (names ds) finished (assumptions_put r A) B p.0 r schemes.declared p.1.1.0 y i

    q0 : ℕ → Monotype
    q0 = guess s0.given r (λ i. τ (named i))

    agree0 : (x : ℕ) → x < bound s0 → q0 x ≡ r x
    agree0 x h = guess_below s0.given r (λ i. τ (named i)) x h

    asked0 : GroupQ g (names ds) A B (variable_at s0.given place) ds q0
    asked0 = GroupHas-in ds own g (names ds) (assumptions_put r A) (assumptions_put q0 A) (over r B) (over q0 B) τ (λ y. put q0 (variable_at s0.given place y))
        (assumptions_put-agree r q0 A (λ x f. sym (agree0 x (low x f)))) (λ y o. scheme_put-agree r q0 (B y) (λ x i. sym (agree0 x (schemes.below y x i))))
        (λ y gy. sym (guess_new s0.given r (λ i. τ (named i)) (place y) ∙ ap τ (placed y gy).1)) next.whole (together ds own units)
        (group_guess ds own finished g next (assumptions_put r A) (over r B) p.0 Var ds next.ready known p.1.1.0)

module _ (ds : Bindings) (own : Identifier → Identifier → Bool) (units : AreUnits ds own) (finished g : Identifier → Bool) (next : IsNext ds own finished g)
    (A : Assumptions) (s0 : Solving) (k : ℕ) (B : Identifier → Scheme) (place : Identifier → ℕ) (named : ℕ → Identifier) (placed : (x : Identifier) → g x ≡ true → (place x < k) × (named (place x) ≡ x))
    (schemes : AreSchemes ds A (bound s0) (problem s0) B) (low : AssumptionsBelow (bound s0) A) (facts : FactsBelow (bound s0) (problem s0))
    (s1 : Solving) (s : SolvedBy (GroupQ g (names ds) A B (variable_at s0.given place) ds) (given_more s0 k) s1)
    (Body : Assumptions → (ℕ → Monotype) → Type 0) (body_more : (r : ℕ → Monotype) (C C' : Assumptions) → AreAtMostAsGeneral C C' → Body C r → Body C' r) (body_local : (C : Assumptions) → IsLocal (bound s0) (Body C)) where
  abbrev after : Identifier → Bool
  after y = finished y || g y

  signed_out : (y : Identifier) → IsSigned y ds → g y ≡ false
  signed_out y i = ⊎_elim (λ e. absurd (not_both _ (next.unit y y e e) (own_signed ds own units y y i))) (λ e. e) (bool_cases (g y))

  finished_out : (y : Identifier) → finished y ≡ true → g y ≡ false
  finished_out y f = ⊎_elim (λ e. absurd (not_both _ f (next.open_yet y e))) (λ e. e) (bool_cases (g y))

  pub step_guess : (r : ℕ → Monotype) → Unifies r (problem s0) → Stage own ds Body A finished B r →
      (q : ℕ → Monotype) × ((x : ℕ) → x < bound s0 → q x ≡ r x) × Unifies q (problem s1) × ((m : MostGeneralUnifier (problem s1)) → Stage own ds Body A after (made g A s0.given place B s1 m) q)
  step_guess r u p = (q, agree, a.2, stage)
    where
      B' : Identifier → Scheme
      B' = p.0

      rA : Assumptions
      rA = assumptions_put r A

      limit : (c : ℕ) × AssumptionsBelow c (bind_all (names ds) B' rA)
      limit = assumptions_bound (bind_all (names ds) B' rA)

      c : ℕ
      c = limit.0

      τ : Identifier → Monotype
      τ z = instance (B' z) (fresh c)

      known : (y : Identifier) → (finished y ≡ true) ⊎ IsSigned y ds → B' y ≡ scheme_put r (B y)
      known y (inl f) = p.1.0 y f
      known y (inr i) = signed_same ds own (names ds) finished rA B B' r schemes.declared p.1.1.0 y i

      asked : GroupHas g (names ds) rA (over r B) τ ds
      asked = group_guess ds own finished g next rA (over r B) B' (fresh c) ds next.ready known p.1.1.0

      q0 : ℕ → Monotype
      q0 = guess s0.given r (λ i. τ (named i))

      agree0 : (x : ℕ) → x < bound s0 → q0 x ≡ r x
      agree0 x h = guess_below s0.given r (λ i. τ (named i)) x h

      at0 : (y : Identifier) → g y ≡ true → q0 (number (var (s0.given + place y))) ≡ τ y
      at0 y gy = guess_new s0.given r (λ i. τ (named i)) (place y) ∙ ap τ (placed y gy).1

      asked0 : GroupQ g (names ds) A B (variable_at s0.given place) ds q0
      asked0 = GroupHas-in ds own g (names ds) rA (assumptions_put q0 A) (over r B) (over q0 B) τ (λ y. put q0 (variable_at s0.given place y))
          (assumptions_put-agree r q0 A (λ x f. sym (agree0 x (low x f)))) (λ y o. scheme_put-agree r q0 (B y) (λ x i. sym (agree0 x (schemes.below y x i))))
          (λ y gy. sym (at0 y gy)) next.whole (together ds own units) asked

      a : (q : ℕ → Monotype) × ((x : ℕ) → x < bound (given_more s0 k) → q x ≡ q0 x) × Unifies q (problem s1)
      a = s.complete q0 (guess_unifies s0 k r (λ i. τ (named i)) facts u) asked0

      q : ℕ → Monotype
      q = a.0

      agree : (x : ℕ) → x < bound s0 → q x ≡ r x
      agree x h = a.1 x (omega arith) ∙ agree0 x h

      env : rA ≡ assumptions_put q A
      env = assumptions_put-agree r q A (λ x f. sym (agree x (low x f)))

      at_name : (y : Identifier) → g y ≡ true → q (number (var (s0.given + place y))) ≡ τ y
      at_name y gy = a.1 (number (var (s0.given + place y))) (let h = (placed y gy).0 in omega arith) ∙ at0 y gy

      stage : (m : MostGeneralUnifier (problem s1)) → Stage own ds Body A after (made g A s0.given place B s1 m) q
      stage m = (B'', (agreed, (subst (λ C. Remaining own (names ds) after C B'' ds) env remaining, body)))
        where
          new : Identifier → Scheme
          new = made g A s0.given place B s1 m

          B'' : Identifier → Scheme
          B'' y = cond (g y) (scheme_put q (new y)) (B' y)

          covers : (y : Identifier) → IsOneOf y (names ds) → IsAtMostAsGeneral (B' y) (B'' y)
          covers y o = ⊎_elim
              (λ e. subst (IsAtMostAsGeneral (B' y)) (ap (scheme_put q) (sym (cond_true (g y) _ _ e)) ∙ sym (cond_true (g y) _ _ e))
              (let-covers A (number (var (s0.given + place y))) (problem s1) m q a.2 (B' y) c (λ x i. limit.1 x (FreeIn-bind_all-in (names ds) B' rA x y o i)) (λ x f. limit.1 x (FreeIn-bind_all-out (names ds) B' rA x (subst (FreeIn x) (sym env) f))) (at_name y e)))
              (λ e. subst (IsAtMostAsGeneral (B' y)) (sym (cond_false (g y) _ _ e)) (λ t i. i))
              (bool_cases (g y))

          agreed : (x : Identifier) → after x ≡ true → B'' x ≡ scheme_put q (new x)
          agreed x e = ⊎_elim
              (λ f. cond_false (g x) _ _ (finished_out x f) ∙ (p.1.0 x f ∙ (scheme_put-agree r q (B x) (λ y i. sym (agree y (schemes.below x y i))) ∙ ap (scheme_put q) (sym (cond_false (g x) _ _ (finished_out x f))))))
              (λ f. cond_true (g x) _ _ f)
              (or_true (finished x) (g x) e)

          remaining : Remaining own (names ds) after rA B'' ds
          remaining = Remaining-more ds ds own finished g units next.whole rA B' B'' (λ y e. cond_false (g y) _ _ e) covers signed_out (λ y i. i) (together ds own units) p.1.1.0

          body : Body (bind_all (names ds) B'' (assumptions_put q A)) q
          body = body_local _ r q agree (body_more r _ _ (subst (λ C. AreAtMostAsGeneral (bind_all (names ds) B' rA) (bind_all (names ds) B'' C)) env (more-all (names ds) B' B'' rA rA covers (λ x t h. h))) p.1.1.1)

  -- the schemes made stay good
  pub made_schemes : (m : MostGeneralUnifier (problem s1)) → AreSchemes ds A (bound s1) (problem s1) (made g A s0.given place B s1 m)
  made_schemes m = record {
    below = λ y. below y (g y);
    inner = λ r u y a i. inner r u y a (g y) i;
    declared = declared ds (λ y i. signed_out y i) schemes.declared;
  }
    where
      grown : bound s0 ≤ bound s1
      grown = let h = s.grows in omega arith

      below : (y : Identifier) (b : Bool) → SchemeBelow (bound s1) (cond b (quantify (assumptions_put m.map A) (m.map (number (var (s0.given + place y))))) (B y))
      below y true a i = assumptions_put-below (bound s1) A m.map (λ x f. lt (low x f)) (m.below (bound s1) s.below) a (In_quantify (assumptions_put m.map A) (m.map (number (var (s0.given + place y)))) a i)
        where
          lt : {x : ℕ} → x < bound s0 → x < bound s1
          lt {x} h = omega (arith, grown)
      below y false a i = let h = schemes.below y a i in omega (arith, grown)

      inner : (r : ℕ → Monotype) → Unifies r (problem s1) → (y : Identifier) (a : ℕ) (b : Bool) → In (Free a) (scheme_put r (cond b (quantify (assumptions_put m.map A) (m.map (number (var (s0.given + place y))))) (B y))) → FreeIn a (assumptions_put r A)
      inner r u y a true i =
          let h = scheme_put_In r a (quantify (assumptions_put m.map A) (m.map (number (var (s0.given + place y))))) i in
          subst (FreeIn a) (assumptions_put_unifier A (problem s1) m r u) (FreeIn_put r h.0 a (assumptions_put m.map A) (In_quantify (assumptions_put m.map A) (m.map (number (var (s0.given + place y)))) h.0 h.1) h.2)
      inner r u y a false i = schemes.inner r (more_rest s0 k r (s.sound r u).0) y a i

      declared : (D : Bindings) → ((y : Identifier) → IsSigned y D → g y ≡ false) → SignedAre B D → SignedAre (made g A s0.given place B s1 m) D
      declared no_binding f d = tt
      declared (unsigned x cs D) f d = declared D f d
      declared (signed x t cs D) f d = (cond_false (g x) _ _ (f x (inl refl)) ∙ d.0, declared D (λ y i. f y (inr i)) d.1)
      declared (matched v q cs D) f d = declared D f d

  module _ (m : MostGeneralUnifier (problem s1)) (r : ℕ → Monotype) (u : Unifies r (problem s1)) (B' : Identifier → Scheme) (pinned : (x : Identifier) → after x ≡ true → B' x ≡ scheme_put r (made g A s0.given place B s1 m x)) where
    opening : (ℕ → Monotype) → ℕ → Monotype
    opening us a = open_with (is_free_in a (assumptions_put m.map A)) r us a

    is_after : (x : Identifier) → (finished x ≡ true) ⊎ (g x ≡ true) → after x ≡ true
    is_after x (inl e) = ap (λ b. b || g x) e
    is_after x (inr e) = go (finished x)
      where
        go : (b : Bool) → (b || g x) ≡ true
        go true = refl
        go false = e

    kept : (x : Identifier) → finished x ≡ true → B' x ≡ scheme_put r (B x)
    kept x f = pinned x (is_after x (inl f)) ∙ ap (scheme_put r) (cond_false (g x) _ _ (finished_out x f))

    type_at : (us : ℕ → Monotype) (y : Identifier) → IsOneOf y (names ds) → g y ≡ true → put (λ a. open_with (is_free_in a (assumptions_put m.map A)) r us a) (put m.map (variable_at s0.given place y)) ≡ instance (B' y) us
    type_at us y o e =
        sym (quantified_put (assumptions_put m.map A) (m.map (number (var (s0.given + place y)))) r us)
        ∙ ap (λ σ. instance σ us) (ap (scheme_put r) (sym (cond_true (g y) _ _ e)) ∙ sym (pinned y (is_after y (inr e))))

    other_at : (us : ℕ → Monotype) (y : Identifier) → B' y ≡ scheme_put r (B y) → scheme_put (λ a. open_with (is_free_in a (assumptions_put m.map A)) r us a) (scheme_put m.map (B y)) ≡ B' y
    other_at us y e =
        scheme_put-agree _ r (scheme_put m.map (B y)) (λ a i. open_with-free (is_free_in a (assumptions_put m.map A)) r us a (schemes.inner m.map (more_rest s0 k m.map (s.sound m.map m.unifies).0) y a i))
        ∙ (scheme_put_put r m.map (B y) ∙ (scheme_put-agree _ r (B y) (λ a i. m.most r u a) ∙ sym e))

    env_at : (us : ℕ → Monotype) → assumptions_put (λ a. open_with (is_free_in a (assumptions_put m.map A)) r us a) (assumptions_put m.map A) ≡ assumptions_put r A
    env_at us = assumptions_put-agree _ r (assumptions_put m.map A) (λ a f. open_with-free (is_free_in a (assumptions_put m.map A)) r us a f) ∙ assumptions_put_unifier A (problem s1) m r u

    -- what a binding sees at its instance covers what it was checked with
    sees_at : (us : ℕ → Monotype) (x y : Identifier) → g x ≡ true → IsOneOf y (names ds) → (g y ≡ true) ⊎ ((g y ≡ false) × (B' y ≡ scheme_put r (B y))) →
        scheme_put (λ a. open_with (is_free_in a (assumptions_put m.map A)) r us a) (within g (over m.map B) (λ z. put m.map (variable_at s0.given place z)) y) ≡ seen_at own B' us x y
    sees_at us x y gx o (inl gy) =
        ap (scheme_put _) (cond_true (g y) _ _ gy) ∙ (scheme_put_mono _ (put m.map (variable_at s0.given place y)) ∙ (ap monomorphic (type_at us y o gy) ∙ sym (cond_true (own x y) _ _ (next.unit x y gx gy))))
    sees_at us x y gx o (inr (gy, e)) =
        ap (scheme_put _) (cond_false (g y) _ _ gy) ∙ (other_at us y e ∙ sym (cond_false (own x y) _ _ (outside (bool_cases (own x y)))))
      where
        outside : (own x y ≡ true) ⊎ (own x y ≡ false) → own x y ≡ false
        outside (inl k) = absurd (not_both _ (sym (next.whole x y k) ∙ gx) gy)
        outside (inr k) = k

    pub remaining_sound : (D : Bindings) → GroupHas g (names ds) (assumptions_put m.map A) (over m.map B) (λ y. put m.map (variable_at s0.given place y)) D → IsReady ds (names ds) finished g D → AreTogether own D → ((y : Identifier) → IsOneOf y (names D) → IsOneOf y (names ds)) →
        ((y : Identifier) → IsSigned y ds → B' y ≡ scheme_put r (B y)) → Remaining own (names ds) after (assumptions_put r A) B' D → Remaining own (names ds) finished (assumptions_put r A) B' D
    remaining_sound no_binding h k to sub sg p = tt
    remaining_sound (unsigned x cs D) h k to sub sg p = (
      (λ f us. ⊎_elim
          (λ gx. DeriveClauses-more cs _ _ _
          (λ y i t z. Has-bind_all (names ds) _ (seen_at own B' us x) (assumptions_put r A) (assumptions_put r A) y
          (λ o v. subst (IsInstance v) (sees_at us x y gx o (⊎_elim inl (λ w. inr (⊎_elim (λ e. (finished_out y e, kept y e)) (λ e. (signed_out y e, sg y e)) w)) (k.0 gx y i o))))
          (λ o v j. j) t z)
          (subst₂ (λ C v. DeriveClauses C cs v)
          (assumptions_put-bind_all _ (names ds) _ _ ∙ ap (bind_all (names ds) _) (env_at us))
          (type_at us x (sub x (inl refl)) gx)
          (DeriveClauses-put cs (λ a. open_with (is_free_in a (assumptions_put m.map A)) r us a) _ _ (h.0 gx))))
          (λ gx. p.0 (ap₂ ◌||◌ f gx) us)
          (bool_cases (g x))),
      remaining_sound D h.1 k.1 to (λ y o. sub y (inr o)) sg p.1,
    )
    remaining_sound (signed x t cs D) h k to sub sg p = (p.0, remaining_sound D h k to (λ y o. sub y (inr o)) sg p.1)
    remaining_sound (matched v w cs D) h ready to sub sg p = (
      (λ f us. ⊎_elim
          (λ gv.
          let at : (x : Identifier) → IsOneOf x (matched_names v w) → put (λ a. open_with (is_free_in a (assumptions_put m.map A)) r us a) (put m.map (variable_at s0.given place x)) ≡ instance (B' x) us =
          λ x o. type_at us x (sub x (IsOneOf-left x (matched_names v w) (names D) o)) (sym (next.whole v x (to.0 v x (own_name v w) o)) ∙ gv) in (
            Matches-named v w _ _ at (Matches-put w (λ a. open_with (is_free_in a (assumptions_put m.map A)) r us a) _ _ (h.0 gv).0),
            DeriveClauses-more cs _ _ _
                (λ y i t z. Has-bind_all (names ds) _ (seen_at own B' us v) (assumptions_put r A) (assumptions_put r A) y
                (λ o u. subst (IsInstance u) (sees_at us v y gv o (⊎_elim inl (λ e. inr (⊎_elim (λ c. (finished_out y c, kept y c)) (λ c. (signed_out y c, sg y c)) e)) (ready.0 v (own_name v w) gv y (inr i) o))))
                (λ o u j. j) t z)
                (subst₂ (λ C u. DeriveClauses C cs u)
                (assumptions_put-bind_all _ (names ds) _ _ ∙ ap (bind_all (names ds) _) (env_at us))
                (at v (own_name v w))
                (DeriveClauses-put cs (λ a. open_with (is_free_in a (assumptions_put m.map A)) r us a) _ _ (h.0 gv).1)),
          ))
          (λ gv. p.0 (ap₂ ◌||◌ f gv) us)
          (bool_cases (g v))),
      remaining_sound D h.1 ready.1 to.1 (λ y o. sub y (IsOneOf-right y (matched_names v w) (names D) o)) sg p.1,
    )

  -- what is left after the group, and the group, are what was left before
  pub step_back : (m : MostGeneralUnifier (problem s1)) (r : ℕ → Monotype) → Unifies r (problem s1) → (B' : Identifier → Scheme) → ((x : Identifier) → after x ≡ true → B' x ≡ scheme_put r (made g A s0.given place B s1 m x)) → Remaining own (names ds) after (assumptions_put r A) B' ds →
      ((x : Identifier) → finished x ≡ true → B' x ≡ scheme_put r (B x)) × Remaining own (names ds) finished (assumptions_put r A) B' ds
  step_back m r u B' pinned p =
      let sg : (y : Identifier) → IsSigned y ds → B' y ≡ scheme_put r (B y) =
      λ y i. signed_same ds own (names ds) after (assumptions_put r A) (made g A s0.given place B s1 m) B' r (made_schemes m).declared p y i ∙ ap (scheme_put r) (cond_false (g y) _ _ (signed_out y i)) in
      ((λ x f. kept m r u B' pinned x f), remaining_sound m r u B' pinned ds (s.sound m.map m.unifies).1 next.ready (together ds own units) (λ y o. o) sg p)
