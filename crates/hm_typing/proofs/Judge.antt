-- A unit is typed in the end where the set of it and of all that it depends on is typable.
use Rattle.std.proofs.Common.{◌≡◌, ℕ, List, [], ◌∷◌, Bool, true, false, cond, ◌||◌, inl, inr, ◌⊎◌, ⊎_elim, refl, sym, ap, ◌∙◌, subst, subst₂, true≢false}
use Rattle.hm_types.specs.Types.{put}
use Rattle.hm_typing.specs.Names.{IsOneOf, IsDistinct, Identifier}
use Rattle.hm_typing.specs.Schemes.{Monotype, Scheme, instance}
use Rattle.hm_typing.specs.Assumptions.{IsClosed, Assumptions, bind_all}
use Rattle.hm_typing.specs.Decisions.{is_free_in}
use Rattle.hm_typing.specs.Generalisation.{quantify}
use Rattle.hm_typing.specs.Syntax.{Bindings, no_binding, unsigned, signed, matched, matched_names, names}
use Rattle.hm_typing.specs.Units.{IsUnsigned, BindingMentions, Reaches, directly, through, SameUnit, DependsOn, seen, AreUnits}
use Rattle.hm_typing.specs.Verdicts.{UnitsHave}
use Rattle.hm_typing.specs.SecondForm.{DeriveClauses}
use Rattle.hm_typing.specs.Problems.{Fact, Unifies, MostGeneralUnifier}
use Rattle.hm_typing.specs.Orders.{Layout, IsOrder}
use Rattle.hm_typing.proofs.Put.{Matches-put, DeriveClauses-put}
use Rattle.hm_typing.proofs.Matching.{own_name, Matches-named, AreTogether}
use Rattle.hm_typing.proofs.Quantified.{opened, quantified_instance}
use Rattle.hm_typing.proofs.Bridge.{own_unsigned, one_kind, unsigned_name, env_seen, DeriveClauses-Has}
use Rattle.hm_typing.proofs.Units.{AreClosed, DerivesOf, IsDown, Unit_typed, check_unit, State, skipped, untyped, typed}

-- a list has P everywhere, or Q somewhere
pub search_list : {P Q : Identifier → Type 0} (xs : List Identifier) → ((x : Identifier) → P x ⊎ Q x) → ((x : Identifier) → IsOneOf x xs → P x) ⊎ ((x : Identifier) × Q x)
search_list [] f = inl (λ x o. absurd o)
search_list {P} {Q} (y ∷ ys) f = go (f y) (search_list ys f)
  where
    go : P y ⊎ Q y → ((x : Identifier) → IsOneOf x ys → P x) ⊎ ((x : Identifier) × Q x) → ((x : Identifier) → IsOneOf x (y ∷ ys) → P x) ⊎ ((x : Identifier) × Q x)
    go (inr q) r = inr (y, q)
    go (inl p) (inr q) = inr q
    go (inl p) (inl h) = inl (λ x o. ⊎_elim (λ e. subst P (sym e) p) (λ k. h x k) o)

pub bools : (b : Bool) → (b ≡ true) ⊎ (b ≡ false)
bools true = inl refl
bools false = inr refl

pub opposite : {b : Bool} → b ≡ true → b ≡ false → ⊥
opposite e f = true≢false (sym e ∙ f)

-- Reaching

pub Reaches-trans : (ds : Bindings) {x y z : Identifier} → Reaches ds x y → Reaches ds y z → Reaches ds x z
Reaches-trans ds (directly r) q = through r q
Reaches-trans ds (through r p) q = through r (Reaches-trans ds p q)

pub Reaches-unsigned : (ds : Bindings) {x y : Identifier} → Reaches ds x y → IsUnsigned y ds
Reaches-unsigned ds (directly r) = r.1
Reaches-unsigned ds (through r p) = Reaches-unsigned ds p

-- the unit of x and what it depends on
abbrev pub Closure : Bindings → Identifier → Identifier → Type 0
Closure ds x y = DependsOn ds x y ⊎ SameUnit ds x y

-- The two forms of a set of bindings, under closed schemes

module _ (ds : Bindings) (own : Identifier → Identifier → Bool) (units : AreUnits ds own) (A : Assumptions) (shutA : IsClosed A) (U : Identifier → Type 0) (down : IsDown ds own U) where
  pub quantified_of : (D : Bindings) (sees : Identifier → Assumptions) (ts : Identifier → Monotype) (B : Identifier → Scheme) → AreTogether own D → UnitsHave U A sees ts B D → (y : Identifier) → IsUnsigned y D → U y → B y ≡ quantify A (ts y)
  quantified_of no_binding sees ts B to b y i u = absurd i
  quantified_of (unsigned x cs D) sees ts B to b y (inl e) u = subst (λ z. B z ≡ quantify A (ts z)) (sym e) (b.0 (subst U e u)).0
  quantified_of (unsigned x cs D) sees ts B to b y (inr i) u = quantified_of D sees ts B to b.1 y i u
  quantified_of (signed x s cs D) sees ts B to b y i u = quantified_of D sees ts B to b.1 y i u
  quantified_of (matched k p cs D) sees ts B to b y (inl o) u = (b.0 (down.whole y k (to.0 y k o (own_name k p)) u)).quantified y o
  quantified_of (matched k p cs D) sees ts B to b y (inr i) u = quantified_of D sees ts B to.1 b.1 y i u

  pub derives_of : (D : Bindings) (ts : Identifier → Monotype) (B : Identifier → Scheme) → AreClosed B → ((y : Identifier) → IsUnsigned y ds → U y → B y ≡ quantify A (ts y)) → UnitsHave U A (λ x. bind_all (names ds) (seen own ts B x) A) ts B D → DerivesOf U A own (names ds) B D
  derives_of no_binding ts B shut q b = tt
  derives_of (signed x s cs D) ts B shut q b = (b.0.0, derives_of D ts B shut q b.1)
  derives_of (unsigned x cs D) ts B shut q b = (
    (λ u us. subst₂ (λ C v. DeriveClauses C cs v)
        (env_seen own ts B x (names ds) A us (λ y o a i. absurd (shut y a i)) (λ y e. q y ((units.1 x y).0 e).1 (down.whole x y e u)))
        (quantified_instance A (ts x) us ∙ ap (λ σ. instance σ us) (sym (b.0 u).0))
        (DeriveClauses-put cs (λ a. opened (is_free_in a A) us a) _ _ (DeriveClauses-Has cs _ _ (b.0 u).1))),
    derives_of D ts B shut q b.1,
  )
  derives_of (matched k p cs D) ts B shut q b = (
    (λ u us.
        let at : (x : Identifier) → IsOneOf x (matched_names k p) → put (λ a. opened (is_free_in a A) us a) (ts x) ≡ instance (B x) us = λ x o. quantified_instance A (ts x) us ∙ ap (λ σ. instance σ us) (sym ((b.0 u).quantified x o)) in (
          Matches-named k p _ _ at (Matches-put p (λ a. opened (is_free_in a A) us a) ts (ts k) (b.0 u).fits),
          subst₂ (λ C v. DeriveClauses C cs v)
              (env_seen own ts B k (names ds) A us (λ y o a i. absurd (shut y a i)) (λ y e. q y ((units.1 k y).0 e).1 (down.whole k y e u)))
              (at k (own_name k p))
              (DeriveClauses-put cs (λ a. opened (is_free_in a A) us a) _ _ (DeriveClauses-Has cs _ _ (b.0 u).right_sides)),
        )),
    derives_of D ts B shut q b.1,
  )

pub reach_typed : (ds : Bindings) (own : Identifier → Identifier → Bool) (status : Identifier → Bool) → IsDown ds own (λ x. status x ≡ true) → {v w : Identifier} → status v ≡ true → Reaches ds v w → status w ≡ true
reach_typed ds own status down s (directly r) = down.mentioned _ _ s r.0 r.1
reach_typed ds own status down s (through r p) = reach_typed ds own status down (down.mentioned _ _ s r.0 r.1) p

-- what is known in the end
pub record Judged (ds : Bindings) (A : Assumptions) (own : Identifier → Identifier → Bool) : Type 1 where
  pub finished : Identifier → Bool
  pub status : Identifier → Bool
  pub schemes : Identifier → Scheme
  pub state : State ds A own finished status schemes
  pub all : (x : Identifier) → IsUnsigned x ds → finished x ≡ true

module _ (solve : (E : List Fact) → MostGeneralUnifier E ⊎ ((r : ℕ → Monotype) → Unifies r E → ⊥)) (layout : (ds : Bindings) → IsDistinct (names ds) → Layout ds) (ds : Bindings) (own : Identifier → Identifier → Bool) (units : AreUnits ds own) (A : Assumptions) (shutA : IsClosed A) (mentions : (x y : Identifier) → Dec (BindingMentions x y ds)) where
  -- the next unit depends on typed ones alone, or on one that isn't
  abbrev Blocked : (Identifier → Bool) → (Identifier → Bool) → Identifier → Identifier → Type 0
  Blocked g status x y = (g x ≡ true) × BindingMentions x y ds × IsUnsigned y ds × (g y ≡ false) × (status y ≡ false)

  blocked_at : (g status : Identifier → Bool) (x y : Identifier) → (g x ≡ true → BindingMentions x y ds → IsUnsigned y ds → g y ≡ false → status y ≡ true) ⊎ Blocked g status x y
  blocked_at g status x y = go (bools (status y)) (bools (g x)) (mentions x y) (bools (own y y)) (bools (g y))
    where
      go : (status y ≡ true) ⊎ (status y ≡ false) → (g x ≡ true) ⊎ (g x ≡ false) → Dec (BindingMentions x y ds) → (own y y ≡ true) ⊎ (own y y ≡ false) → (g y ≡ true) ⊎ (g y ≡ false) →
          (g x ≡ true → BindingMentions x y ds → IsUnsigned y ds → g y ≡ false → status y ≡ true) ⊎ Blocked g status x y
      go (inl s) _ _ _ _ = inl (λ a b c d. s)
      go (inr s) (inr h) _ _ _ = inl (λ a b c d. absurd (opposite a h))
      go (inr s) (inl h) (no m) _ _ = inl (λ a b c d. absurd (m b))
      go (inr s) (inl h) (yes m) (inr o) _ = inl (λ a b c d. absurd (opposite (own_unsigned ds own units y c) o))
      go (inr s) (inl h) (yes m) (inl o) (inl k) = inl (λ a b c d. absurd (opposite k d))
      go (inr s) (inl h) (yes m) (inl o) (inr k) = inr (h, m, ((units.1 y y).0 o).0, k, s)

  pub judge : (gs : List (Identifier → Bool)) (finished status : Identifier → Bool) (B : Identifier → Scheme) → IsOrder ds own finished gs → State ds A own finished status B → Judged ds A own
  judge [] finished status B all state = record { finished = finished; status = status; schemes = B; state = state; all = all }
  judge (g ∷ gs) finished status B o state =
      ⊎_elim
      (λ free.
      let f : (x y : Identifier) → g x ≡ true → BindingMentions x y ds → IsUnsigned y ds → g y ≡ false → status y ≡ true =
      λ x y gx m u gy. free x (member x gx) y (unsigned_name ds y u) gx m u gy in
      ⊎_elim (λ t. judge gs (λ y. finished y || g y) (λ y. status y || g y) (λ y. cond (g y) (t.schemes y) (B y)) o.1 (typed ds A own units finished g o.0 status B state f t))
      (λ never. judge gs (λ y. finished y || g y) status B o.1 (untyped ds A own units finished g o.0 status B state f never))
      (check_unit solve layout ds A shutA g B state.shut))
      (λ b. judge gs (λ y. finished y || g y) status B o.1 (skipped ds A own units finished g o.0 status B state (λ U B' down d x gx u. never b U B' down d x gx u)))
      (search_list {P = λ x. (y : Identifier) → IsOneOf y (names ds) → g x ≡ true → BindingMentions x y ds → IsUnsigned y ds → g y ≡ false → status y ≡ true} {Q = λ x. (y : Identifier) × Blocked g status x y} (names ds) (λ x. search_list (names ds) (λ y. blocked_at g status x y)))
    where
      member : (x : Identifier) → g x ≡ true → IsOneOf x (names ds)
      member x gx = unsigned_name ds x ((units.1 x x).0 (o.0.unit x x gx gx)).0

      never : (x : Identifier) × ((y : Identifier) × Blocked g status x y) → (U : Identifier → Type 0) (B' : Identifier → Scheme) → IsDown ds own U → DerivesOf U A own (names ds) B' ds → (x : Identifier) → g x ≡ true → U x → ⊥
      never b U B' down d x gx u =
          let k = b.1.1 in
          let ub = down.mentioned b.0 b.1.0 (down.whole x b.0 (o.0.unit x b.0 gx k.0) u) k.1 k.2 in
          let before = ⊎_elim (λ e. absurd (opposite e k.3)) (λ r. ⊎_elim (λ e. e) (λ i. absurd (one_kind ds units.0 b.1.0 i k.2)) r) (Rattle.hm_typing.proofs.Units.mention_of ds A own units finished g o.0 b.0 b.1.0 k.0 k.1 (unsigned_name ds b.1.0 k.2)) in
          opposite (state.most U B' down d b.1.0 before ub).0 k.4
