-- A declaration list is checked unit after unit.
use Rattle.std.proofs.Common.{◌≡◌, ℕ, List, Bool, true, false, cond, ◌||◌, inl, inr, ◌⊎◌, ⊎_elim, refl, sym, ap, ap₂, ◌∙◌, subst, subst₂, ◌+◌, ◌<◌, ◌≤◌, arith, true≢false}
use Rattle.hm_types.specs.Types.{In, put}
use Rattle.hm_typing.specs.Names.{IsOneOf, Identifier}
use Rattle.hm_typing.specs.Schemes.{Monotype, Scheme, Free, instance, IsInstance, monomorphic, scheme_put, IsAtMostAsGeneral, closed}
use Rattle.hm_typing.specs.Assumptions.{Assumptions, assumptions_put, FreeIn, AreAtMostAsGeneral, bind_all}
use Rattle.hm_typing.specs.Decisions.{is_free_in}
use Rattle.hm_typing.specs.Generalisation.{quantify}
use Rattle.hm_typing.specs.Syntax.{Bindings, no_binding, unsigned, signed, matched, matched_names, names}
use Rattle.hm_typing.specs.Units.{IsSigned, AreUnits}
use Rattle.hm_typing.specs.Patterns.{Matches}
use Rattle.hm_typing.specs.SecondForm.{DeriveClauses, seen_at}
use Rattle.hm_typing.specs.Problems.{Fact, Unifies, FactsBelow, MostGeneralUnifier, Solved, Answer, solved, unsolvable, IsLocal}
use Rattle.hm_typing.specs.Orders.{within, IsReady, IsNext, SignedAre}
use Rattle.hm_typing.proofs.SchemeLaws.{split, split_below, split_from, scheme_put_mono, scheme_put-agree, scheme_put_put, assumptions_put-agree, AssumptionsBelow, SchemeBelow, assumptions_bound, FreeIn_put, scheme_put_In}
use Rattle.hm_typing.proofs.Bind.{Has-bind_all, bind_all-agree, assumptions_put-bind_all, scheme_put_closed, FreeIn-bind_all-in, FreeIn-bind_all-out}
use Rattle.hm_typing.proofs.Quantified.{In_quantify}
use Rattle.hm_typing.proofs.Solve.{Unifies-local}
use Rattle.hm_typing.proofs.Check.{open_with, open_with-free, quantified_put, assumptions_put_unifier, assumptions_put-below, let-covers}
use Rattle.hm_typing.proofs.More.{DeriveClauses-more}
use Rattle.hm_typing.proofs.Put.{Matches-put, DeriveClauses-put}
use Rattle.hm_typing.proofs.Local.{IsOneOf-left, IsOneOf-right, names_block, put-block}
use Rattle.hm_typing.proofs.Matching.{own_name, Matches-named, AreTogether, together}
use Rattle.hm_typing.proofs.Bridge.{more-all, fresh, own_signed}
use Rattle.hm_typing.proofs.Names.{code, by_number, by_number_code}

-- a family of schemes with a substitution in it
abbrev pub over : (ℕ → Monotype) → (Identifier → Scheme) → Identifier → Scheme
over r B y = scheme_put r (B y)

-- the bindings of the group have their types
abbrev pub GroupHas : (Identifier → Bool) → List Identifier → Assumptions → (Identifier → Scheme) → (Identifier → Monotype) → Bindings → Type 0
GroupHas g xs A B τ no_binding = Unit {0}
GroupHas g xs A B τ (unsigned x cs D) = (g x ≡ true → DeriveClauses (bind_all xs (within g B τ) A) cs (τ x)) × GroupHas g xs A B τ D
GroupHas g xs A B τ (signed x s cs D) = GroupHas g xs A B τ D
GroupHas g xs A B τ (matched k p cs D) = (g k ≡ true → Matches τ p (τ k) × DeriveClauses (bind_all xs (within g B τ) A) cs (τ k)) × GroupHas g xs A B τ D

abbrev pub GroupQ : (Identifier → Bool) → List Identifier → Assumptions → (Identifier → Scheme) → (Identifier → Monotype) → Bindings → (ℕ → Monotype) → Type 0
GroupQ g xs A B τ D r = GroupHas g xs (assumptions_put r A) (over r B) (λ y. put r (τ y)) D

-- what is left to ask: of the unsigned names that are not done, and of the signed ones
abbrev pub Remaining : (Identifier → Identifier → Bool) → List Identifier → (Identifier → Bool) → Assumptions → (Identifier → Scheme) → Bindings → Type 0
Remaining own xs finished A B no_binding = Unit {0}
Remaining own xs finished A B (unsigned x cs D) = (finished x ≡ false → (us : ℕ → Monotype) → DeriveClauses (bind_all xs (seen_at own B us x) A) cs (instance (B x) us)) × Remaining own xs finished A B D
Remaining own xs finished A B (signed x s cs D) = ((B x ≡ closed s) × ((us : ℕ → Monotype) → DeriveClauses (bind_all xs (seen_at own B us x) A) cs (instance (B x) us))) × Remaining own xs finished A B D
Remaining own xs finished A B (matched k p cs D) =
    (finished k ≡ false → (us : ℕ → Monotype) → Matches (λ x. instance (B x) us) p (instance (B k) us) × DeriveClauses (bind_all xs (seen_at own B us k) A) cs (instance (B k) us)) × Remaining own xs finished A B D

-- some schemes, those given for what is done, answer what is left and type the body
abbrev pub Stage : (Identifier → Identifier → Bool) → Bindings → (Assumptions → (ℕ → Monotype) → Type 0) → Assumptions → (Identifier → Bool) → (Identifier → Scheme) → (ℕ → Monotype) → Type 0
Stage own ds Body A finished B r = (B' : Identifier → Scheme) × (((x : Identifier) → finished x ≡ true → B' x ≡ scheme_put r (B x)) × (Remaining own (names ds) finished (assumptions_put r A) B' ds × Body (bind_all (names ds) B' (assumptions_put r A)) r))

-- what holds of the schemes so far
pub record AreSchemes (ds : Bindings) (A : Assumptions) (n : ℕ) (E : List Fact) (B : Identifier → Scheme) : Type 0 where
  pub below : (y : Identifier) → SchemeBelow n (B y)
  pub inner : (r : ℕ → Monotype) → Unifies r E → (y : Identifier) (a : ℕ) → In (Free a) (scheme_put r (B y)) → FreeIn a (assumptions_put r A)
  pub declared : SignedAre B ds

-- a signed name has one scheme
pub signed_same : (D : Bindings) (own : Identifier → Identifier → Bool) (xs : List Identifier) (finished : Identifier → Bool) (A : Assumptions) (B B' : Identifier → Scheme) (r : ℕ → Monotype) → SignedAre B D → Remaining own xs finished A B' D → (y : Identifier) → IsSigned y D → B' y ≡ scheme_put r (B y)
signed_same no_binding own xs finished A B B' r s m y i = absurd i
signed_same (unsigned x cs D) own xs finished A B B' r s m y i = signed_same D own xs finished A B B' r s m.1 y i
signed_same (signed x t cs D) own xs finished A B B' r s m y (inl e) = subst (λ z. B' z ≡ scheme_put r (B z)) (sym e) (m.0.0 ∙ (sym (scheme_put_closed r t) ∙ ap (scheme_put r) (sym s.0)))
signed_same (signed x t cs D) own xs finished A B B' r s m y (inr i) = signed_same D own xs finished A B B' r s.1 m.1 y i
signed_same (matched k p cs D) own xs finished A B B' r s m y i = signed_same D own xs finished A B B' r s m.1 y i

bool_cases : (b : Bool) → (b ≡ true) ⊎ (b ≡ false)
bool_cases true = inl refl
bool_cases false = inr refl

not_both : (b : Bool) → b ≡ true → b ≡ false → ⊥
not_both b e f = true≢false (sym e ∙ f)

pub cond_true : {X : Type 0} (b : Bool) (x y : X) → b ≡ true → cond b x y ≡ x
cond_true true x y e = refl
cond_true false x y e = absurd (true≢false (sym e))

pub cond_false : {X : Type 0} (b : Bool) (x y : X) → b ≡ false → cond b x y ≡ y
cond_false true x y e = absurd (true≢false e)
cond_false false x y e = refl

-- the guess for a group
module _ (ds : Bindings) (own : Identifier → Identifier → Bool) (finished g : Identifier → Bool) (next : IsNext ds own finished g) (A' : Assumptions) (B B' : Identifier → Scheme) (us : ℕ → Monotype) where
  -- what a binding of the group sees in the guess, it sees in the group's question
  guess_seen : (x y : Identifier) → g x ≡ true → (g y ≡ true) ⊎ (B' y ≡ B y) → (t : Monotype) → IsInstance t (seen_at own B' us x y) → IsInstance t (within g B (λ z. instance (B' z) us) y)
  guess_seen x y gx k t = at (bool_cases (own x y))
    where
      at : (own x y ≡ true) ⊎ (own x y ≡ false) → IsInstance t (seen_at own B' us x y) → IsInstance t (within g B (λ z. instance (B' z) us) y)
      at (inl e) i = subst (IsInstance t) (cond_true (own x y) _ _ e ∙ sym (cond_true (g y) _ _ (sym (next.whole x y e) ∙ gx))) i
      at (inr e) i = ⊎_elim (λ gy. absurd (not_both _ (next.unit x y gx gy) e))
          (λ b. ⊎_elim (λ gy. absurd (not_both _ (next.unit x y gx gy) e)) (λ gy. subst (IsInstance t) (cond_false (own x y) _ _ e ∙ (b ∙ sym (cond_false (g y) _ _ gy))) i) (bool_cases (g y))) k

  pub group_guess : (D : Bindings) → IsReady ds (names ds) finished g D → ((y : Identifier) → (finished y ≡ true) ⊎ IsSigned y ds → B' y ≡ B y) → Remaining own (names ds) finished A' B' D → GroupHas g (names ds) A' B (λ z. instance (B' z) us) D
  group_guess no_binding k f m = tt
  group_guess (unsigned x cs D) k f m = (
    (λ gx. DeriveClauses-more cs _ _ _ (λ y i. Has-bind_all (names ds) (seen_at own B' us x) (within g B (λ z. instance (B' z) us)) A' A' y (λ o t. guess_seen x y gx (⊎_elim inl (λ h. inr (f y h)) (k.0 gx y i o)) t) (λ o t h. h)) (m.0 (next.open_yet x gx) us)),
    group_guess D k.1 f m.1,
  )
  group_guess (signed x s cs D) k f m = group_guess D k f m.1
  group_guess (matched v p cs D) k f m = (
    (λ gv. let h = m.0 (next.open_yet v gv) us in (
      h.0,
      DeriveClauses-more cs _ _ _ (λ y i. Has-bind_all (names ds) (seen_at own B' us v) (within g B (λ z. instance (B' z) us)) A' A' y (λ o t. guess_seen v y gv (⊎_elim inl (λ e. inr (f y e)) (k.0 v (own_name v p) gv y (inr i) o)) t) (λ o t e. e)) h.1,
    )),
    group_guess D k.1 f m.1,
  )

-- a group at other types for names that are not of the list
pub GroupHas-agree : (D : Bindings) (g : Identifier → Bool) (xs : List Identifier) (A A' : Assumptions) (B C : Identifier → Scheme) (τ ρ : Identifier → Monotype) → A ≡ A' → ((y : Identifier) → IsOneOf y xs → B y ≡ C y) → ((y : Identifier) → IsOneOf y xs → τ y ≡ ρ y) → ((y : Identifier) → IsOneOf y (names D) → IsOneOf y xs) → GroupHas g xs A B τ D → GroupHas g xs A' C ρ D
GroupHas-agree no_binding g xs A A' B C τ ρ e b t sub h = tt
GroupHas-agree (unsigned x cs D) g xs A A' B C τ ρ e b t sub h = (
  (λ gx. subst₂ (λ Γ v. DeriveClauses Γ cs v) (bind_all-agree xs _ _ A A' (λ y o. ap₂ (λ v w. cond (g y) (monomorphic v) w) (t y o) (b y o)) e) (t x (sub x (inl refl))) (h.0 gx)),
  GroupHas-agree D g xs A A' B C τ ρ e b t (λ y o. sub y (inr o)) h.1,
)
GroupHas-agree (signed x s cs D) g xs A A' B C τ ρ e b t sub h = GroupHas-agree D g xs A A' B C τ ρ e b t (λ y o. sub y (inr o)) h
GroupHas-agree (matched k p cs D) g xs A A' B C τ ρ e b t sub h = (
  (λ gk.
      let at : (x : Identifier) → IsOneOf x (matched_names k p) → τ x ≡ ρ x = λ x o. t x (sub x (IsOneOf-left x (matched_names k p) (names D) o)) in (
        Matches-named k p τ ρ at (h.0 gk).0,
        subst₂ (λ Γ v. DeriveClauses Γ cs v) (bind_all-agree xs _ _ A A' (λ y o. ap₂ (λ v w. cond (g y) (monomorphic v) w) (t y o) (b y o)) e) (at k (own_name k p)) (h.0 gk).1,
      )),
  GroupHas-agree D g xs A A' B C τ ρ e b t (λ y o. sub y (IsOneOf-right y (matched_names k p) (names D) o)) h.1,
)

-- what is left stays answered where the group has better schemes
pub Remaining-more : (D ds : Bindings) (own : Identifier → Identifier → Bool) (finished g : Identifier → Bool) → AreUnits ds own → ((x y : Identifier) → own x y ≡ true → g x ≡ g y) → (A' : Assumptions) (B' B'' : Identifier → Scheme) →
    ((y : Identifier) → g y ≡ false → B'' y ≡ B' y) → ((y : Identifier) → IsOneOf y (names ds) → IsAtMostAsGeneral (B' y) (B'' y)) → ((y : Identifier) → IsSigned y D → g y ≡ false) → ((y : Identifier) → IsSigned y D → IsSigned y ds) → AreTogether own D →
    Remaining own (names ds) finished A' B' D → Remaining own (names ds) (λ y. finished y || g y) A' B'' D
Remaining-more no_binding ds own finished g units whole A' B' B'' keep cov sg sd to m = tt
Remaining-more (unsigned x cs D) ds own finished g units whole A' B' B'' keep cov sg sd to m = (
  (λ e us. step e us (both_false (finished x) (g x) e)),
  Remaining-more D ds own finished g units whole A' B' B'' keep cov sg sd to m.1,
)
  where
    both_false : (a b : Bool) → (a || b) ≡ false → (a ≡ false) × (b ≡ false)
    both_false true b e = absurd (true≢false e)
    both_false false b e = (refl, e)

    sees : (us : ℕ → Monotype) (y : Identifier) → g x ≡ false → IsOneOf y (names ds) → (b : Bool) → own x y ≡ b → IsAtMostAsGeneral (cond b (monomorphic (instance (B' y) us)) (B' y)) (cond b (monomorphic (instance (B'' y) us)) (B'' y))
    sees us y gx o true e = λ t i. subst (λ σ. IsInstance t (monomorphic (instance σ us))) (sym (keep y (sym (whole x y e) ∙ gx))) i
    sees us y gx o false e = cov y o

    step : (finished x || g x) ≡ false → (us : ℕ → Monotype) → (finished x ≡ false) × (g x ≡ false) → DeriveClauses (bind_all (names ds) (seen_at own B'' us x) A') cs (instance (B'' x) us)
    step e us p = subst (λ σ. DeriveClauses (bind_all (names ds) (seen_at own B'' us x) A') cs (instance σ us)) (sym (keep x p.1))
        (DeriveClauses-more cs _ _ _ (λ y i. Has-bind_all (names ds) (seen_at own B' us x) (seen_at own B'' us x) A' A' y (λ o t. sees us y p.1 o (own x y) refl t) (λ o t h. h)) (m.0 p.0 us))
Remaining-more (signed x s cs D) ds own finished g units whole A' B' B'' keep cov sg sd to m = (
  (
    keep x (sg x (inl refl)) ∙ m.0.0,
    λ us. subst (λ σ. DeriveClauses (bind_all (names ds) (seen_at own B'' us x) A') cs (instance σ us)) (sym (keep x (sg x (inl refl))))
        (DeriveClauses-more cs _ _ _ (λ y i. Has-bind_all (names ds) (seen_at own B' us x) (seen_at own B'' us x) A' A' y (λ o t. sees us y o (own x y) (own_signed ds own units x y (sd x (inl refl))) t) (λ o t h. h)) (m.0.1 us)),
  ),
  Remaining-more D ds own finished g units whole A' B' B'' keep cov (λ y i. sg y (inr i)) (λ y i. sd y (inr i)) to m.1,
)
  where
    sees : (us : ℕ → Monotype) (y : Identifier) → IsOneOf y (names ds) → (b : Bool) → b ≡ false → IsAtMostAsGeneral (cond b (monomorphic (instance (B' y) us)) (B' y)) (cond b (monomorphic (instance (B'' y) us)) (B'' y))
    sees us y o true e = absurd (true≢false e)
    sees us y o false e = cov y o
Remaining-more (matched v p cs D) ds own finished g units whole A' B' B'' keep cov sg sd to m = (
  (λ e us. step us (both_false (finished v) (g v) e)),
  Remaining-more D ds own finished g units whole A' B' B'' keep cov sg sd to.1 m.1,
)
  where
    both_false : (a b : Bool) → (a || b) ≡ false → (a ≡ false) × (b ≡ false)
    both_false true b e = absurd (true≢false e)
    both_false false b e = (refl, e)

    sees : (us : ℕ → Monotype) (y : Identifier) → g v ≡ false → IsOneOf y (names ds) → (b : Bool) → own v y ≡ b → IsAtMostAsGeneral (cond b (monomorphic (instance (B' y) us)) (B' y)) (cond b (monomorphic (instance (B'' y) us)) (B'' y))
    sees us y gv o true e = λ t i. subst (λ σ. IsInstance t (monomorphic (instance σ us))) (sym (keep y (sym (whole v y e) ∙ gv))) i
    sees us y gv o false e = cov y o

    same : (us : ℕ → Monotype) → g v ≡ false → (x : Identifier) → IsOneOf x (matched_names v p) → instance (B' x) us ≡ instance (B'' x) us
    same us gv x o = ap (λ σ. instance σ us) (sym (keep x (sym (whole v x (to.0 v x (own_name v p) o)) ∙ gv)))

    step : (us : ℕ → Monotype) → (finished v ≡ false) × (g v ≡ false) → Matches (λ x. instance (B'' x) us) p (instance (B'' v) us) × DeriveClauses (bind_all (names ds) (seen_at own B'' us v) A') cs (instance (B'' v) us)
    step us q = let h = m.0 q.0 us in (
      Matches-named v p _ _ (same us q.1) h.0,
      subst (DeriveClauses (bind_all (names ds) (seen_at own B'' us v) A') cs) (same us q.1 v (own_name v p))
          (DeriveClauses-more cs _ _ _ (λ y i. Has-bind_all (names ds) (seen_at own B' us v) (seen_at own B'' us v) A' A' y (λ o t. sees us y q.1 o (own v y) refl t) (λ o t e. e)) h.1),
    )

-- the schemes after a group
abbrev pub made : (Identifier → Bool) → Assumptions → ℕ → (Identifier → Scheme) → (E : List Fact) → MostGeneralUnifier E → Identifier → Scheme
made g A n B E m y = cond (g y) (quantify (assumptions_put m.map A) (m.map (n + code y))) (B y)

or_true : (a b : Bool) → (a || b) ≡ true → (a ≡ true) ⊎ (b ≡ true)
or_true true b e = inl refl
or_true false b e = inr e

module _ (ds : Bindings) (own : Identifier → Identifier → Bool) (units : AreUnits ds own) (finished g : Identifier → Bool) (next : IsNext ds own finished g)
    (A : Assumptions) (n k : ℕ) (E : List Fact) (B : Identifier → Scheme) (schemes : AreSchemes ds A n E B) (few : (x : Identifier) → IsOneOf x (names ds) → code x < k) (low : AssumptionsBelow n A) (facts : FactsBelow n E)
    (n1 : ℕ) (E1 : List Fact) (s : Solved (GroupQ g (names ds) A B (names_block n k) ds) (n + k) E n1 E1)
    (Body : Assumptions → (ℕ → Monotype) → Type 0) (body_more : (r : ℕ → Monotype) (C C' : Assumptions) → AreAtMostAsGeneral C C' → Body C r → Body C' r) (body_local : (C : Assumptions) → IsLocal n (Body C)) where
  abbrev after : Identifier → Bool
  after y = finished y || g y

  signed_out : (y : Identifier) → IsSigned y ds → g y ≡ false
  signed_out y i = ⊎_elim (λ e. absurd (not_both _ (next.unit y y e e) (own_signed ds own units y y i))) (λ e. e) (bool_cases (g y))

  finished_out : (y : Identifier) → finished y ≡ true → g y ≡ false
  finished_out y f = ⊎_elim (λ e. absurd (not_both _ f (next.open_yet y e))) (λ e. e) (bool_cases (g y))

  pub step_guess : (r : ℕ → Monotype) → Unifies r E → Stage own ds Body A finished B r →
      (q : ℕ → Monotype) × ((x : ℕ) → x < n → q x ≡ r x) × Unifies q E1 × ((m : MostGeneralUnifier E1) → Stage own ds Body A after (made g A n B E1 m) q)
  step_guess r u p = (q, agree, a.2, stage)
    where
      B' : Identifier → Scheme
      B' = p.0

      rA : Assumptions
      rA = assumptions_put r A

      bound : (c : ℕ) × AssumptionsBelow c (bind_all (names ds) B' rA)
      bound = assumptions_bound (bind_all (names ds) B' rA)

      c : ℕ
      c = bound.0

      τ : Identifier → Monotype
      τ z = instance (B' z) (fresh c)

      known : (y : Identifier) → (finished y ≡ true) ⊎ IsSigned y ds → B' y ≡ scheme_put r (B y)
      known y (inl f) = p.1.0 y f
      known y (inr i) = signed_same ds own (names ds) finished rA B B' r schemes.declared p.1.1.0 y i

      asked : GroupHas g (names ds) rA (over r B) τ ds
      asked = group_guess ds own finished g next rA (over r B) B' (fresh c) ds next.ready known p.1.1.0

      q0 : ℕ → Monotype
      q0 = split n r (by_number τ)

      agree0 : (x : ℕ) → x < n → q0 x ≡ r x
      agree0 x h = split_below n r (by_number τ) x h

      asked0 : GroupQ g (names ds) A B (names_block n k) ds q0
      asked0 = GroupHas-agree ds g (names ds) rA (assumptions_put q0 A) (over r B) (over q0 B) τ (λ y. put q0 (names_block n k y))
          (assumptions_put-agree r q0 A (λ x f. sym (agree0 x (low x f)))) (λ y o. scheme_put-agree r q0 (B y) (λ x i. sym (agree0 x (schemes.below y x i))))
          (λ y o. sym (put-block n k q0 (code y) (few y o) ∙ (split_from n r (by_number τ) (code y) ∙ by_number_code τ y))) (λ y o. o) asked

      a : (q : ℕ → Monotype) × ((x : ℕ) → x < n + k → q x ≡ q0 x) × Unifies q E1
      a = s.complete q0 (Unifies-local n E facts r q0 agree0 u) asked0

      q : ℕ → Monotype
      q = a.0

      agree : (x : ℕ) → x < n → q x ≡ r x
      agree x h = a.1 x (omega arith) ∙ agree0 x h

      env : rA ≡ assumptions_put q A
      env = assumptions_put-agree r q A (λ x f. sym (agree x (low x f)))

      at_name : (y : Identifier) → IsOneOf y (names ds) → q (n + code y) ≡ τ y
      at_name y o = a.1 (n + code y) (let h = few y o in omega arith) ∙ (split_from n r (by_number τ) (code y) ∙ by_number_code τ y)

      stage : (m : MostGeneralUnifier E1) → Stage own ds Body A after (made g A n B E1 m) q
      stage m = (B'', (agreed, (subst (λ C. Remaining own (names ds) after C B'' ds) env remaining, body)))
        where
          new : Identifier → Scheme
          new = made g A n B E1 m

          B'' : Identifier → Scheme
          B'' y = cond (g y) (scheme_put q (new y)) (B' y)

          covers : (y : Identifier) → IsOneOf y (names ds) → IsAtMostAsGeneral (B' y) (B'' y)
          covers y o = ⊎_elim
              (λ e. subst (IsAtMostAsGeneral (B' y)) (ap (scheme_put q) (sym (cond_true (g y) _ _ e)) ∙ sym (cond_true (g y) _ _ e))
              (let-covers A (n + code y) E1 m q a.2 (B' y) c (λ x i. bound.1 x (FreeIn-bind_all-in (names ds) B' rA x y o i)) (λ x f. bound.1 x (FreeIn-bind_all-out (names ds) B' rA x (subst (FreeIn x) (sym env) f))) (at_name y o)))
              (λ e. subst (IsAtMostAsGeneral (B' y)) (sym (cond_false (g y) _ _ e)) (λ t i. i))
              (bool_cases (g y))

          agreed : (x : Identifier) → after x ≡ true → B'' x ≡ scheme_put q (new x)
          agreed x e = ⊎_elim
              (λ f. cond_false (g x) _ _ (finished_out x f) ∙ (p.1.0 x f ∙ (scheme_put-agree r q (B x) (λ y i. sym (agree y (schemes.below x y i))) ∙ ap (scheme_put q) (sym (cond_false (g x) _ _ (finished_out x f))))))
              (λ f. cond_true (g x) _ _ f)
              (or_true (finished x) (g x) e)

          remaining : Remaining own (names ds) after rA B'' ds
          remaining = Remaining-more ds ds own finished g units next.whole rA B' B'' (λ y e. cond_false (g y) _ _ e) covers signed_out (λ y i. i) (together ds own units) p.1.1.0

          body : Body (bind_all (names ds) B'' (assumptions_put q A)) q
          body = body_local _ r q agree (body_more r _ _ (subst (λ C. AreAtMostAsGeneral (bind_all (names ds) B' rA) (bind_all (names ds) B'' C)) env (more-all (names ds) B' B'' rA rA covers (λ x t h. h))) p.1.1.1)

  -- the schemes made stay good
  pub made_schemes : (m : MostGeneralUnifier E1) → AreSchemes ds A n1 E1 (made g A n B E1 m)
  made_schemes m = record {
    below = λ y. below y (g y);
    inner = λ r u y a i. inner r u y a (g y) i;
    declared = declared ds (λ y i. signed_out y i) schemes.declared;
  }
    where
      grown : n ≤ n1
      grown = let h = s.grows in omega arith

      below : (y : Identifier) (b : Bool) → SchemeBelow n1 (cond b (quantify (assumptions_put m.map A) (m.map (n + code y))) (B y))
      below y true a i = assumptions_put-below n1 A m.map (λ x f. lt (low x f)) (m.below n1 s.below) a (In_quantify (assumptions_put m.map A) (m.map (n + code y)) a i)
        where
          lt : {x : ℕ} → x < n → x < n1
          lt {x} h = omega (arith, grown)
      below y false a i = let h = schemes.below y a i in omega (arith, grown)

      inner : (r : ℕ → Monotype) → Unifies r E1 → (y : Identifier) (a : ℕ) (b : Bool) → In (Free a) (scheme_put r (cond b (quantify (assumptions_put m.map A) (m.map (n + code y))) (B y))) → FreeIn a (assumptions_put r A)
      inner r u y a true i =
          let h = scheme_put_In r a (quantify (assumptions_put m.map A) (m.map (n + code y))) i in
          subst (FreeIn a) (assumptions_put_unifier A E1 m r u) (FreeIn_put r h.0 a (assumptions_put m.map A) (In_quantify (assumptions_put m.map A) (m.map (n + code y)) h.0 h.1) h.2)
      inner r u y a false i = schemes.inner r (s.sound r u).0 y a i

      declared : (D : Bindings) → ((y : Identifier) → IsSigned y D → g y ≡ false) → SignedAre B D → SignedAre (made g A n B E1 m) D
      declared no_binding f d = tt
      declared (unsigned x cs D) f d = declared D f d
      declared (signed x t cs D) f d = (cond_false (g x) _ _ (f x (inl refl)) ∙ d.0, declared D (λ y i. f y (inr i)) d.1)
      declared (matched v q cs D) f d = declared D f d

  module _ (m : MostGeneralUnifier E1) (r : ℕ → Monotype) (u : Unifies r E1) (B' : Identifier → Scheme) (pinned : (x : Identifier) → after x ≡ true → B' x ≡ scheme_put r (made g A n B E1 m x)) where
    is_after : (x : Identifier) → (finished x ≡ true) ⊎ (g x ≡ true) → after x ≡ true
    is_after x (inl e) = ap (λ b. b || g x) e
    is_after x (inr e) = go (finished x)
      where
        go : (b : Bool) → (b || g x) ≡ true
        go true = refl
        go false = e

    kept : (x : Identifier) → finished x ≡ true → B' x ≡ scheme_put r (B x)
    kept x f = pinned x (is_after x (inl f)) ∙ ap (scheme_put r) (cond_false (g x) _ _ (finished_out x f))

    type_at : (us : ℕ → Monotype) (y : Identifier) → IsOneOf y (names ds) → g y ≡ true → put (λ a. open_with (is_free_in a (assumptions_put m.map A)) r us a) (put m.map (names_block n k y)) ≡ instance (B' y) us
    type_at us y o e =
        ap (put (λ a. open_with (is_free_in a (assumptions_put m.map A)) r us a)) (put-block n k m.map (code y) (few y o))
        ∙ (sym (quantified_put (assumptions_put m.map A) (m.map (n + code y)) r us)
        ∙ ap (λ σ. instance σ us) (ap (scheme_put r) (sym (cond_true (g y) _ _ e)) ∙ sym (pinned y (is_after y (inr e)))))

    other_at : (us : ℕ → Monotype) (y : Identifier) → B' y ≡ scheme_put r (B y) → scheme_put (λ a. open_with (is_free_in a (assumptions_put m.map A)) r us a) (scheme_put m.map (B y)) ≡ B' y
    other_at us y e =
        scheme_put-agree _ r (scheme_put m.map (B y)) (λ a i. open_with-free (is_free_in a (assumptions_put m.map A)) r us a (schemes.inner m.map (s.sound m.map m.unifies).0 y a i))
        ∙ (scheme_put_put r m.map (B y) ∙ (scheme_put-agree _ r (B y) (λ a i. m.most r u a) ∙ sym e))

    env_at : (us : ℕ → Monotype) → assumptions_put (λ a. open_with (is_free_in a (assumptions_put m.map A)) r us a) (assumptions_put m.map A) ≡ assumptions_put r A
    env_at us = assumptions_put-agree _ r (assumptions_put m.map A) (λ a f. open_with-free (is_free_in a (assumptions_put m.map A)) r us a f) ∙ assumptions_put_unifier A E1 m r u

    -- what a binding sees at its instance covers what it was checked with
    sees_at : (us : ℕ → Monotype) (x y : Identifier) → g x ≡ true → IsOneOf y (names ds) → (g y ≡ true) ⊎ ((g y ≡ false) × (B' y ≡ scheme_put r (B y))) →
        scheme_put (λ a. open_with (is_free_in a (assumptions_put m.map A)) r us a) (within g (over m.map B) (λ z. put m.map (names_block n k z)) y) ≡ seen_at own B' us x y
    sees_at us x y gx o (inl gy) =
        ap (scheme_put _) (cond_true (g y) _ _ gy) ∙ (scheme_put_mono _ (put m.map (names_block n k y)) ∙ (ap monomorphic (type_at us y o gy) ∙ sym (cond_true (own x y) _ _ (next.unit x y gx gy))))
    sees_at us x y gx o (inr (gy, e)) =
        ap (scheme_put _) (cond_false (g y) _ _ gy) ∙ (other_at us y e ∙ sym (cond_false (own x y) _ _ (outside (bool_cases (own x y)))))
      where
        outside : (own x y ≡ true) ⊎ (own x y ≡ false) → own x y ≡ false
        outside (inl k) = absurd (not_both _ (sym (next.whole x y k) ∙ gx) gy)
        outside (inr k) = k

    pub remaining_sound : (D : Bindings) → GroupHas g (names ds) (assumptions_put m.map A) (over m.map B) (λ y. put m.map (names_block n k y)) D → IsReady ds (names ds) finished g D → AreTogether own D → ((y : Identifier) → IsOneOf y (names D) → IsOneOf y (names ds)) →
        ((y : Identifier) → IsSigned y ds → B' y ≡ scheme_put r (B y)) → Remaining own (names ds) after (assumptions_put r A) B' D → Remaining own (names ds) finished (assumptions_put r A) B' D
    remaining_sound no_binding h k to sub sg p = tt
    remaining_sound (unsigned x cs D) h k to sub sg p = (
      (λ f us. ⊎_elim
          (λ gx. DeriveClauses-more cs _ _ _
          (λ y i t z. Has-bind_all (names ds) _ (seen_at own B' us x) (assumptions_put r A) (assumptions_put r A) y
          (λ o v. subst (IsInstance v) (sees_at us x y gx o (⊎_elim inl (λ w. inr (⊎_elim (λ e. (finished_out y e, kept y e)) (λ e. (signed_out y e, sg y e)) w)) (k.0 gx y i o))))
          (λ o v j. j) t z)
          (subst₂ (λ C v. DeriveClauses C cs v)
          (assumptions_put-bind_all _ (names ds) _ _ ∙ ap (bind_all (names ds) _) (env_at us))
          (type_at us x (sub x (inl refl)) gx)
          (DeriveClauses-put cs (λ a. open_with (is_free_in a (assumptions_put m.map A)) r us a) _ _ (h.0 gx))))
          (λ gx. p.0 (ap₂ ◌||◌ f gx) us)
          (bool_cases (g x))),
      remaining_sound D h.1 k.1 to (λ y o. sub y (inr o)) sg p.1,
    )
    remaining_sound (signed x t cs D) h k to sub sg p = (p.0, remaining_sound D h k to (λ y o. sub y (inr o)) sg p.1)
    remaining_sound (matched v w cs D) h ready to sub sg p = (
      (λ f us. ⊎_elim
          (λ gv.
          let at : (x : Identifier) → IsOneOf x (matched_names v w) → put (λ a. open_with (is_free_in a (assumptions_put m.map A)) r us a) (put m.map (names_block n k x)) ≡ instance (B' x) us =
          λ x o. type_at us x (sub x (IsOneOf-left x (matched_names v w) (names D) o)) (sym (next.whole v x (to.0 v x (own_name v w) o)) ∙ gv) in (
            Matches-named v w _ _ at (Matches-put w (λ a. open_with (is_free_in a (assumptions_put m.map A)) r us a) _ _ (h.0 gv).0),
            DeriveClauses-more cs _ _ _
                (λ y i t z. Has-bind_all (names ds) _ (seen_at own B' us v) (assumptions_put r A) (assumptions_put r A) y
                (λ o u. subst (IsInstance u) (sees_at us v y gv o (⊎_elim inl (λ e. inr (⊎_elim (λ c. (finished_out y c, kept y c)) (λ c. (signed_out y c, sg y c)) e)) (ready.0 v (own_name v w) gv y (inr i) o))))
                (λ o u j. j) t z)
                (subst₂ (λ C u. DeriveClauses C cs u)
                (assumptions_put-bind_all _ (names ds) _ _ ∙ ap (bind_all (names ds) _) (env_at us))
                (at v (own_name v w))
                (DeriveClauses-put cs (λ a. open_with (is_free_in a (assumptions_put m.map A)) r us a) _ _ (h.0 gv).1)),
          ))
          (λ gv. p.0 (ap₂ ◌||◌ f gv) us)
          (bool_cases (g v))),
      remaining_sound D h.1 ready.1 to.1 (λ y o. sub y (IsOneOf-right y (matched_names v w) (names D) o)) sg p.1,
    )

  pub step_sound : (m : MostGeneralUnifier E1) (r : ℕ → Monotype) → Unifies r E1 → Stage own ds Body A after (made g A n B E1 m) r → Stage own ds Body A finished B r
  step_sound m r u p =
      let sg : (y : Identifier) → IsSigned y ds → p.0 y ≡ scheme_put r (B y) =
      λ y i. signed_same ds own (names ds) after (assumptions_put r A) (made g A n B E1 m) p.0 r (made_schemes m).declared p.1.1.0 y i ∙ ap (scheme_put r) (cond_false (g y) _ _ (signed_out y i)) in
      (p.0, ((λ x f. kept m r u p.0 p.1.0 x f), (remaining_sound m r u p.0 p.1.0 ds (s.sound m.map m.unifies).1 next.ready (together ds own units) (λ y o. o) sg p.1.1.0, p.1.1.1)))

  -- the stage is answered by the next
  pub step : (m : MostGeneralUnifier E1) → Answer (Stage own ds Body A after (made g A n B E1 m)) n1 E1 → Answer (Stage own ds Body A finished B) n E
  step m (solved n2 E2 t) = solved n2 E2 (record {
    grows = (let a = s.grows in let b = t.grows in omega arith);
    below = t.below;
    sound = λ r u. (let a = t.sound r u in ((s.sound r a.0).0, step_sound m r a.0 a.1));
    complete = λ r u p.
        let q = step_guess r u p in
        let a = t.complete q.0 q.2 (q.3 m) in
        (a.0, (λ x h. a.1 x (let l = s.grows in omega arith) ∙ q.1 x h), a.2);
  })
  step m (unsolvable never) = unsolvable (λ r u p. let q = step_guess r u p in never q.0 q.2 (q.3 m))
