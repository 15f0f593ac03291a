-- A declaration list is checked, its units in an order in which each depends on those before it.
use Rattle.std.proofs.Common.{◌≡◌, ℕ, List, [], ◌∷◌, Bool, true, false, ◌||◌, inl, inr, ◌⊎◌, ⊎_elim, refl, sym, ap, ◌∙◌, subst, subst₂, ◌+◌, ◌<◌, ◌≤◌, arith, true≢false}
use Rattle.std.proofs.lemmas.Bool.Decides.{same_from_decides}
use Rattle.hm_types.specs.Types.{Var, put}
use Rattle.hm_typing.specs.Names.{IsOneOf, IsDistinct, Identifier}
use Rattle.hm_typing.specs.Schemes.{Monotype, Scheme, instance, scheme_put, closed}
use Rattle.hm_typing.specs.Assumptions.{Assumptions, assumptions_put, AreAtMostAsGeneral, bind_all}
use Rattle.hm_typing.specs.Syntax.{Bindings, no_binding, unsigned, signed, matched, matched_names, names}
use Rattle.hm_typing.specs.Units.{IsUnsigned, IsSigned, AreUnits}
use Rattle.hm_typing.specs.Typing.{HasLocal}
use Rattle.hm_typing.specs.SecondForm.{DerivedSchemes, DeriveClauses, DeriveBindings, seen_at}
use Rattle.hm_typing.specs.Problems.{Fact, Unifies, FactsBelow, MostGeneralUnifier, Answer, solved, unsolvable, IsLocal}
use Rattle.hm_typing.specs.Orders.{IsNext, SignedAre, IsOrder, Layout}
use Rattle.hm_typing.proofs.SchemeLaws.{split, split_below, split_from, scheme_put-agree, assumptions_put-agree, AssumptionsBelow, SchemeBelow}
use Rattle.hm_typing.proofs.Bind.{is_one_of, bind_all-agree, assumptions_put-bind_all, scheme_put_closed, instance_closed, FreeIn-bind_all}
use Rattle.hm_typing.proofs.Solve.{Unifies-local, same, both}
use Rattle.hm_typing.proofs.Check.{below_more}
use Rattle.hm_typing.proofs.Local.{names_block, put-block}
use Rattle.hm_typing.proofs.Matching.{one_of, own_name}
use Rattle.hm_typing.proofs.Bridge.{own_signed}
use Rattle.hm_typing.proofs.Groups.{over, GroupQ, Remaining, Stage, AreSchemes, signed_same, group_guess, GroupHas-agree, made, made_schemes, step, step_guess, cond_false}
use Rattle.hm_typing.proofs.Names.{code, by_number, by_number_code}

abbrev pub SignedHas : Assumptions → Bindings → Type 0
SignedHas C no_binding = Unit {0}
SignedHas C (unsigned x cs D) = SignedHas C D
SignedHas C (signed x s cs D) = ((us : ℕ → Monotype) → DeriveClauses C cs (put us s)) × SignedHas C D
SignedHas C (matched k p cs D) = SignedHas C D

pub kind_of : (ds : Bindings) (y : Identifier) → IsOneOf y (names ds) → IsUnsigned y ds ⊎ IsSigned y ds
kind_of no_binding y o = absurd o
kind_of (unsigned x cs ds) y (inl e) = inl (inl e)
kind_of (unsigned x cs ds) y (inr o) = ⊎_elim (λ u. inl (inr u)) inr (kind_of ds y o)
kind_of (signed x s cs ds) y (inl e) = inr (inl e)
kind_of (signed x s cs ds) y (inr o) = ⊎_elim inl (λ u. inr (inr u)) (kind_of ds y o)
kind_of (matched k p cs ds) y o = ⊎_elim (λ q. inl (inl q)) (λ q. ⊎_elim (λ u. inl (inr u)) inr (kind_of ds y q)) (one_of y (matched_names k p) (names ds) o)

-- the guess at a group's question, without its answer
pub asked_guess : (ds : Bindings) (own : Identifier → Identifier → Bool) (finished g : Identifier → Bool) → IsNext ds own finished g → (A : Assumptions) (n k : ℕ) (E : List Fact) (B : Identifier → Scheme) → AreSchemes ds A n E B → ((x : Identifier) → IsOneOf x (names ds) → code x < k) → AssumptionsBelow n A → FactsBelow n E →
    (Body : Assumptions → (ℕ → Monotype) → Type 0) (r : ℕ → Monotype) → Unifies r E → Stage own ds Body A finished B r → (q : ℕ → Monotype) × Unifies q E × GroupQ g (names ds) A B (names_block n k) ds q
asked_guess ds own finished g next A n k E B schemes few low facts Body r u p = (q0, Unifies-local n E facts r q0 agree0 u, asked0)
  where
    B' : Identifier → Scheme
    B' = p.0

    τ : Identifier → Monotype
    τ z = instance (B' z) Var

    known : (y : Identifier) → (finished y ≡ true) ⊎ IsSigned y ds → B' y ≡ scheme_put r (B y)
    known y (inl f) = p.1.0 y f
    known y (inr i) = signed_same ds own (names ds) finished (assumptions_put r A) B B' r schemes.declared p.1.1.0 y i

    q0 : ℕ → Monotype
    q0 = split n r (by_number τ)

    agree0 : (x : ℕ) → x < n → q0 x ≡ r x
    agree0 x h = split_below n r (by_number τ) x h

    asked0 : GroupQ g (names ds) A B (names_block n k) ds q0
    asked0 = GroupHas-agree ds g (names ds) (assumptions_put r A) (assumptions_put q0 A) (over r B) (over q0 B) τ (λ y. put q0 (names_block n k y))
        (assumptions_put-agree r q0 A (λ x f. sym (agree0 x (low x f)))) (λ y o. scheme_put-agree r q0 (B y) (λ x i. sym (agree0 x (schemes.below y x i))))
        (λ y o. sym (put-block n k q0 (code y) (few y o) ∙ (split_from n r (by_number τ) (code y) ∙ by_number_code τ y))) (λ y o. o)
        (group_guess ds own finished g next (assumptions_put r A) (over r B) B' Var ds next.ready known p.1.1.0)

module _ (ds : Bindings) (own : Identifier → Identifier → Bool) (units : AreUnits ds own) (A : Assumptions) (Body : Assumptions → (ℕ → Monotype) → Type 0) where
  -- the last question: the signed bindings, and the body
  abbrev pub Last : (Identifier → Scheme) → (ℕ → Monotype) → Type 0
  Last B r = SignedHas (assumptions_put r (bind_all (names ds) B A)) ds × Body (assumptions_put r (bind_all (names ds) B A)) r

  module _ (finished : Identifier → Bool) (B : Identifier → Scheme) (done : (x : Identifier) → IsUnsigned x ds → finished x ≡ true) (are : SignedAre B ds) (r : ℕ → Monotype) where
    sees_last : (B' : Identifier → Scheme) → ((y : Identifier) → IsOneOf y (names ds) → B' y ≡ scheme_put r (B y)) → (us : ℕ → Monotype) (x : Identifier) → IsSigned x ds → bind_all (names ds) (seen_at own B' us x) (assumptions_put r A) ≡ assumptions_put r (bind_all (names ds) B A)
    sees_last B' e us x i = bind_all-agree (names ds) _ (over r B) _ _ (λ y o. cond_false (own x y) _ _ (own_signed ds own units x y i) ∙ e y o) refl ∙ sym (assumptions_put-bind_all r (names ds) B A)

    to_last : (D : Bindings) (B' : Identifier → Scheme) → ((y : Identifier) → IsOneOf y (names ds) → B' y ≡ scheme_put r (B y)) → ((y : Identifier) → IsSigned y D → IsSigned y ds) → Remaining own (names ds) finished (assumptions_put r A) B' D → SignedHas (assumptions_put r (bind_all (names ds) B A)) D
    to_last no_binding B' e sub m = tt
    to_last (unsigned x cs D) B' e sub m = to_last D B' e sub m.1
    to_last (signed x s cs D) B' e sub m = (
      (λ us. subst₂ (λ C v. DeriveClauses C cs v) (sees_last B' e us x (sub x (inl refl))) (ap (λ σ. instance σ us) m.0.0 ∙ instance_closed s us) (m.0.1 us)),
      to_last D B' e (λ y i. sub y (inr i)) m.1,
    )
    to_last (matched k p cs D) B' e sub m = to_last D B' e sub m.1

    from_last : (D : Bindings) → ((y : Identifier) → IsSigned y D → IsSigned y ds) → ((y : Identifier) → IsUnsigned y D → IsUnsigned y ds) → SignedAre B D → SignedHas (assumptions_put r (bind_all (names ds) B A)) D → Remaining own (names ds) finished (assumptions_put r A) (over r B) D
    from_last no_binding sub sup d h = tt
    from_last (unsigned x cs D) sub sup d h = ((λ f. absurd (true≢false (sym (done x (sup x (inl refl))) ∙ f))), from_last D sub (λ y i. sup y (inr i)) d h)
    from_last (signed x s cs D) sub sup d h =
        let declared : scheme_put r (B x) ≡ closed s = ap (scheme_put r) d.0 ∙ scheme_put_closed r s in (
          (declared, λ us. subst₂ (λ C v. DeriveClauses C cs v) (sym (sees_last (over r B) (λ y o. refl) us x (sub x (inl refl)))) (sym (ap (λ σ. instance σ us) declared ∙ instance_closed s us)) (h.0 us)),
          from_last D (λ y i. sub y (inr i)) sup d.1 h.1,
        )
    from_last (matched k p cs D) sub sup d h = ((λ f. absurd (true≢false (sym (done k (sup k (inl (own_name k p)))) ∙ f))), from_last D sub (λ y i. sup y (inr i)) d h)

    pub last_stage : Last B r → Stage own ds Body A finished B r
    last_stage h = (over r B, ((λ x f. refl), (from_last ds (λ y i. i) (λ y i. i) are h.0, subst (λ C. Body C r) (assumptions_put-bind_all r (names ds) B A) h.1)))

    pub stage_last : Stage own ds Body A finished B r → Last B r
    stage_last p =
        let e : (y : Identifier) → IsOneOf y (names ds) → p.0 y ≡ scheme_put r (B y) = λ y o. ⊎_elim (λ h. p.1.0 y (done y h)) (λ i. signed_same ds own (names ds) finished (assumptions_put r A) B p.0 r are p.1.1.0 y i) (kind_of ds y o) in
        (to_last ds p.0 e (λ y i. i) p.1.1.0, subst (λ C. Body C r) (bind_all-agree (names ds) _ (over r B) _ _ e refl ∙ sym (assumptions_put-bind_all r (names ds) B A)) p.1.1.1)

  pub local_more : (n m : ℕ) (P : (ℕ → Monotype) → Type 0) → n ≤ m → IsLocal n P → IsLocal m P
  local_more n m P l p r q a = p r q (λ x h. a x (omega arith))

  pub bind_all-below : (n : ℕ) (B : Identifier → Scheme) → ((y : Identifier) → SchemeBelow n (B y)) → AssumptionsBelow n A → AssumptionsBelow n (bind_all (names ds) B A)
  bind_all-below n B b low a f = ⊎_elim (λ h. b h.0 a h.2) (λ h. low a h) (FreeIn-bind_all (names ds) B A a f)

  module _ (solve : (E : List Fact) → MostGeneralUnifier E ⊎ ((r : ℕ → Monotype) → Unifies r E → ⊥)) (n0 : ℕ) (body_more : (r : ℕ → Monotype) (C C' : Assumptions) → AreAtMostAsGeneral C C' → Body C r → Body C' r) (body_local : (C : Assumptions) → IsLocal n0 (Body C))
      (few : (k : ℕ) × ((x : Identifier) → IsOneOf x (names ds) → code x < k))
      (group : (g : Identifier → Bool) (B : Identifier → Scheme) (n : ℕ) (E : List Fact) → AssumptionsBelow n A → ((y : Identifier) → SchemeBelow n (B y)) → FactsBelow n E → Answer (GroupQ g (names ds) A B (names_block n few.0) ds) (n + few.0) E)
      (signeds : (C : Assumptions) (n : ℕ) (E : List Fact) → AssumptionsBelow n C → FactsBelow n E → Answer (λ r. SignedHas (assumptions_put r C) ds) n E)
      (body : (C : Assumptions) (n : ℕ) (E : List Fact) → n0 ≤ n → AssumptionsBelow n C → FactsBelow n E → Answer (λ r. Body (assumptions_put r C) r) n E) where
    after_group : (finished g : Identifier → Bool) → IsNext ds own finished g → (B : Identifier → Scheme) (n : ℕ) (E : List Fact) → AreSchemes ds A n E B → n0 ≤ n → AssumptionsBelow n A → FactsBelow n E →
        Answer (GroupQ g (names ds) A B (names_block n few.0) ds) (n + few.0) E →
        ((n1 : ℕ) (E1 : List Fact) (m : MostGeneralUnifier E1) → AreSchemes ds A n1 E1 (made g A n B E1 m) → n ≤ n1 → FactsBelow n1 E1 → Answer (Stage own ds Body A (λ y. finished y || g y) (made g A n B E1 m)) n1 E1) →
        Answer (Stage own ds Body A finished B) n E
    after_group finished g next B n E schemes l low facts (unsolvable never) k = unsolvable (λ r u p. let q = asked_guess ds own finished g next A n few.0 E B schemes few.1 low facts Body r u p in never q.0 q.1 q.2)
    after_group finished g next B n E schemes l low facts (solved n1 E1 s) k = go (solve E1)
      where
        at : (C : Assumptions) → IsLocal n (Body C)
        at C = local_more n0 n (Body C) l (body_local C)

        grown : n ≤ n1
        grown = let h = s.grows in omega arith

        go : MostGeneralUnifier E1 ⊎ ((r : ℕ → Monotype) → Unifies r E1 → ⊥) → Answer (Stage own ds Body A finished B) n E
        go (inl m) = step ds own units finished g next A n few.0 E B schemes few.1 low facts n1 E1 s Body body_more at m
            (k n1 E1 m (made_schemes ds own units finished g next A n few.0 E B schemes few.1 low facts n1 E1 s Body body_more at m) grown s.below)
        go (inr never) = unsolvable (λ r u p. let q = step_guess ds own units finished g next A n few.0 E B schemes few.1 low facts n1 E1 s Body body_more at r u p in never q.0 q.2)

    pub check_stage : (gs : List (Identifier → Bool)) (finished : Identifier → Bool) → IsOrder ds own finished gs → (B : Identifier → Scheme) (n : ℕ) (E : List Fact) → AreSchemes ds A n E B → n0 ≤ n → AssumptionsBelow n A → FactsBelow n E → Answer (Stage own ds Body A finished B) n E
    check_stage [] finished done B n E schemes l low facts =
        let C = bind_all (names ds) B A in
        let lowC : AssumptionsBelow n C = bind_all-below n B schemes.below low in
        same n E (λ r h. last_stage finished B done schemes.declared r h) (λ r h. stage_last finished B done schemes.declared r h)
        (both n E (λ r q a h. subst (λ C'. Body C' q) (assumptions_put-agree r q C (λ x f. sym (a x (lowC x f)))) (body_local (assumptions_put r C) r q (λ x k. a x (omega arith)) h))
        (signeds C n E lowC facts)
        (λ n1 E1 g f. body C n1 E1 (omega arith) (below_more n n1 C g lowC) f))
    check_stage (g ∷ gs) finished o B n E schemes l low facts =
        after_group finished g o.0 B n E schemes l low facts (group g B n E low schemes.below facts)
        (λ n1 E1 m are h f. check_stage gs (λ y. finished y || g y) o.1 (made g A n B E1 m) n1 E1 are (omega arith) (below_more n n1 A h low) f)

-- the whole list: some schemes type it, and its body

abbrev pub ListQ : Bindings → (Assumptions → (ℕ → Monotype) → Type 0) → Assumptions → (ℕ → Monotype) → Type 0
ListQ ds Body A r = HasLocal (assumptions_put r A) ds (λ B. DerivedSchemes (assumptions_put r A) ds B) (λ C. Body C r)

pub to_remaining : (D : Bindings) (own : Identifier → Identifier → Bool) (xs : List Identifier) (A : Assumptions) (B : Identifier → Scheme) → DeriveBindings A own xs B D → Remaining own xs (λ x. false) A B D
to_remaining no_binding own xs A B d = tt
to_remaining (unsigned x cs D) own xs A B d = ((λ e. d.0), to_remaining D own xs A B d.1)
to_remaining (signed x s cs D) own xs A B d = (d.0, to_remaining D own xs A B d.1)
to_remaining (matched k p cs D) own xs A B d = ((λ e. d.0), to_remaining D own xs A B d.1)

pub from_remaining : (D : Bindings) (own : Identifier → Identifier → Bool) (xs : List Identifier) (A : Assumptions) (B : Identifier → Scheme) → Remaining own xs (λ x. false) A B D → DeriveBindings A own xs B D
from_remaining no_binding own xs A B d = tt
from_remaining (unsigned x cs D) own xs A B d = (d.0 refl, from_remaining D own xs A B d.1)
from_remaining (signed x s cs D) own xs A B d = (d.0, from_remaining D own xs A B d.1)
from_remaining (matched k p cs D) own xs A B d = (d.0 refl, from_remaining D own xs A B d.1)

-- there is one grouping into units
pub same_units : (ds : Bindings) (own other : Identifier → Identifier → Bool) → AreUnits ds own → AreUnits ds other → other ≡ own
same_units ds own other a b = mathlib.Core.Path.fun_ext (λ x. mathlib.Core.Path.fun_ext (λ y. same_from_decides (other x y) (own x y) (b.1 x y) (a.1 x y)))

pub ListQ-Stage : (ds : Bindings) (Body : Assumptions → (ℕ → Monotype) → Type 0) (A : Assumptions) (L : Layout ds) (r : ℕ → Monotype) → ListQ ds Body A r → Stage L.own ds Body A (λ x. false) L.declared r
ListQ-Stage ds Body A L r p =
    let d = p.listed in
    (p.schemes, ((λ x e. absurd (true≢false (sym e))), (subst (λ own. Remaining own (names ds) (λ x. false) (assumptions_put r A) p.schemes ds) (same_units ds L.own d.own L.units d.units) (to_remaining ds d.own (names ds) (assumptions_put r A) p.schemes d.bindings), p.body)))

pub Stage-ListQ : (ds : Bindings) (Body : Assumptions → (ℕ → Monotype) → Type 0) (A : Assumptions) (L : Layout ds) (r : ℕ → Monotype) → Stage L.own ds Body A (λ x. false) L.declared r → ListQ ds Body A r
Stage-ListQ ds Body A L r p = record { schemes = p.0; listed = record { own = L.own; units = L.units; bindings = from_remaining ds L.own (names ds) (assumptions_put r A) p.0 p.1.1.0 }; body = p.1.1.1 }

pub is_distinct : (xs : List Identifier) → Dec (IsDistinct xs)
is_distinct [] = yes tt
is_distinct (x ∷ xs) = go (is_one_of x xs) (is_distinct xs)
  where
    go : Dec (IsOneOf x xs) → Dec (IsDistinct xs) → Dec (IsDistinct (x ∷ xs))
    go (yes o) d = no (λ h. h.0 o)
    go (no n) (yes d) = yes (n, d)
    go (no n) (no m) = no (λ h. m h.1)
