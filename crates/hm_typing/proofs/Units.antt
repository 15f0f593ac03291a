-- The units of a list are judged one after the other, also behind one that doesn't type.
use Rattle.std.proofs.Common.{◌≡◌, ℕ, List, [], Bool, true, false, cond, ◌||◌, inl, inr, ◌⊎◌, ⊎_elim, refl, sym, ap, ◌∙◌, subst, subst₂, ◌+◌, ◌<◌, arith, true≢false}
use mathlib.Core.Path.{fun_ext}
use Rattle.hm_types.specs.Types.{Var, In, put}
use Rattle.hm_typing.specs.Names.{IsOneOf, IsDistinct, Identifier}
use Rattle.hm_typing.specs.Schemes.{Monotype, Scheme, Free, instance, IsInstance, monomorphic, IsAtMostAsGeneral, closed}
use Rattle.hm_typing.specs.Assumptions.{IsClosed, Assumptions, assumptions_put, FreeIn, bind_all}
use Rattle.hm_typing.specs.Generalisation.{quantify}
use Rattle.hm_typing.specs.Syntax.{Bindings, no_binding, unsigned, signed, matched, matched_names, names}
use Rattle.hm_typing.specs.Mentions.{ClausesMention}
use Rattle.hm_typing.specs.Units.{IsUnsigned, IsSigned, BindingMentions, AreUnits}
use Rattle.hm_typing.specs.Patterns.{Matches}
use Rattle.hm_typing.specs.SecondForm.{DeriveClauses, seen_at}
use Rattle.hm_typing.specs.Problems.{Fact, Unifies, MostGeneralUnifier, Answer, solved, unsolvable}
use Rattle.hm_typing.specs.Orders.{within, Layout, IsNext, IsReady, SignedAre}
use Rattle.hm_typing.proofs.SchemeLaws.{scheme_put-agree, scheme_put_Var, instance_quantify}
use Rattle.hm_typing.proofs.Bind.{Has-bind_all, bind_all-agree}
use Rattle.hm_typing.proofs.Quantified.{In_quantify}
use Rattle.hm_typing.proofs.More.{DeriveClauses-more}
use Rattle.hm_typing.proofs.Put.{Matches-put, DeriveClauses-put}
use Rattle.hm_typing.proofs.Matching.{own_name, Matches-named, AreTogether, together}
use Rattle.hm_typing.proofs.Local.{names_block, put-block, block-below, names_bound}
use Rattle.hm_typing.proofs.Groups.{over, GroupHas, GroupQ, GroupHas-agree, cond_true, cond_false}
use Rattle.hm_typing.proofs.Lists.{kind_of}
use Rattle.hm_typing.proofs.Infer.{assumptions_put-within, check_group}
use Rattle.hm_typing.proofs.Patterns.{under}
use Rattle.hm_typing.proofs.Principal.{assumptions_put_closed}
use Rattle.hm_typing.proofs.Bridge.{own_signed, unsigned_name}
use Rattle.hm_typing.proofs.Names.{code, by_number, by_number_code}

cases : (b : Bool) → (b ≡ true) ⊎ (b ≡ false)
cases true = inl refl
cases false = inr refl

clash : {b : Bool} → b ≡ true → b ≡ false → ⊥
clash e f = true≢false (sym e ∙ f)

abbrev pub AreClosed : (Identifier → Scheme) → Type 0
AreClosed B = (y : Identifier) (a : ℕ) → ¬ (In (Free a) (B y))

pub over_closed : (r : ℕ → Monotype) (B : Identifier → Scheme) → AreClosed B → over r B ≡ B
over_closed r B c = fun_ext (λ y. scheme_put-agree r Var (B y) (λ a i. absurd (c y a i)) ∙ scheme_put_Var (B y))

pub GroupHas-put : (D : Bindings) (w : ℕ → Monotype) (g : Identifier → Bool) (xs : List Identifier) (A : Assumptions) (B : Identifier → Scheme) (τ : Identifier → Monotype) → GroupHas g xs A B τ D → GroupHas g xs (assumptions_put w A) (over w B) (under w τ) D
GroupHas-put no_binding w g xs A B τ h = tt
GroupHas-put (unsigned x cs D) w g xs A B τ h = ((λ gx. subst (λ Γ. DeriveClauses Γ cs (put w (τ x))) (assumptions_put-within w g xs B τ A) (DeriveClauses-put cs w _ (τ x) (h.0 gx))), GroupHas-put D w g xs A B τ h.1)
GroupHas-put (signed x s cs D) w g xs A B τ h = GroupHas-put D w g xs A B τ h
GroupHas-put (matched k p cs D) w g xs A B τ h = (
  (λ gk. (Matches-put p w τ (τ k) (h.0 gk).0, subst (λ Γ. DeriveClauses Γ cs (put w (τ k))) (assumptions_put-within w g xs B τ A) (DeriveClauses-put cs w _ (τ k) (h.0 gk).1))),
  GroupHas-put D w g xs A B τ h.1,
)

-- the bindings of the names in U at each instance, and every signed name has its scheme
abbrev pub DerivesOf : (Identifier → Type 0) → Assumptions → (Identifier → Identifier → Bool) → List Identifier → (Identifier → Scheme) → Bindings → Type 0
DerivesOf U A own xs B no_binding = Unit {0}
DerivesOf U A own xs B (unsigned x cs D) = (U x → (us : ℕ → Monotype) → DeriveClauses (bind_all xs (seen_at own B us x) A) cs (instance (B x) us)) × DerivesOf U A own xs B D
DerivesOf U A own xs B (signed x s cs D) = (B x ≡ closed s) × DerivesOf U A own xs B D
DerivesOf U A own xs B (matched k p cs D) = (U k → (us : ℕ → Monotype) → Matches (λ x. instance (B x) us) p (instance (B k) us) × DeriveClauses (bind_all xs (seen_at own B us k) A) cs (instance (B k) us)) × DerivesOf U A own xs B D

-- U has what its members mention, and whole units
pub record IsDown (ds : Bindings) (own : Identifier → Identifier → Bool) (U : Identifier → Type 0) : Type 0 where
  pub mentioned : (x y : Identifier) → U x → BindingMentions x y ds → IsUnsigned y ds → U y
  pub whole : (x y : Identifier) → own x y ≡ true → U x → U y

-- one unit under closed schemes: its principal types, or none
pub record Unit_typed (ds : Bindings) (A : Assumptions) (g : Identifier → Bool) (B : Identifier → Scheme) : Type 0 where
  pub schemes : Identifier → Scheme
  pub shut : AreClosed schemes
  pub each : (us : ℕ → Monotype) → GroupHas g (names ds) A B (λ y. instance (schemes y) us) ds
  pub most : (τ : Identifier → Monotype) → GroupHas g (names ds) A B τ ds → (x : Identifier) → IsOneOf x (names ds) → IsInstance (τ x) (schemes x)

module _ (solve : (E : List Fact) → MostGeneralUnifier E ⊎ ((r : ℕ → Monotype) → Unifies r E → ⊥)) (layout : (ds : Bindings) → IsDistinct (names ds) → Layout ds) (ds : Bindings) (A : Assumptions) (shutA : IsClosed A) where
  pub check_unit : (g : Identifier → Bool) (B : Identifier → Scheme) → AreClosed B → Unit_typed ds A g B ⊎ ((τ : Identifier → Monotype) → ¬ (GroupHas g (names ds) A B τ ds))
  check_unit g B shutB = go answer
    where
      xs : List Identifier
      xs = names ds

      few : (k : ℕ) × ((x : Identifier) → IsOneOf x xs → code x < k)
      few = names_bound xs

      Q : (ℕ → Monotype) → Type 0
      Q r = GroupQ g xs A B (names_block 0 few.0) ds r

      answer : Answer Q (0 + few.0) []
      answer = check_group solve layout ds g xs A B (names_block 0 few.0) (0 + few.0) [] (λ a f. absurd (shutA a f)) (λ y a i. absurd (shutB y a i)) (λ y. block-below 0 few.0 (code y)) tt

      at_block : (r : ℕ → Monotype) (y : Identifier) → IsOneOf y xs → put r (names_block 0 few.0 y) ≡ r (code y)
      at_block r y o = put-block 0 few.0 r (code y) (few.1 y o) ∙ ap r (omega arith)

      ask : (τ : Identifier → Monotype) → GroupHas g xs A B τ ds → Q (by_number τ)
      ask τ h = GroupHas-agree ds g xs A (assumptions_put (by_number τ) A) B (over (by_number τ) B) τ _ (sym (assumptions_put_closed (by_number τ) A shutA)) (λ y o. ap (λ f. f y) (sym (over_closed (by_number τ) B shutB))) (λ y o. sym (at_block (by_number τ) y o ∙ by_number_code τ y)) (λ y o. o) h

      go : Answer Q (0 + few.0) [] → Unit_typed ds A g B ⊎ ((τ : Identifier → Monotype) → ¬ (GroupHas g xs A B τ ds))
      go (unsolvable never) = inr (λ τ h. never _ tt (ask τ h))
      go (solved n1 E1 s) = ⊎_elim (λ m. inl (typed m)) (λ never. inr (λ τ h. let c = s.complete (by_number τ) tt (ask τ h) in never c.0 c.2)) (solve E1)
        where
          typed : MostGeneralUnifier E1 → Unit_typed ds A g B
          typed m = record {
            schemes = λ y. quantify A (m.map (code y));
            shut = λ y a i. shutA a (In_quantify A (m.map (code y)) a i);
            each = λ us. GroupHas-agree ds g xs _ A (over us (over m.map B)) B _ (λ y. instance (quantify A (m.map (code y))) us)
                (assumptions_put_closed us (assumptions_put m.map A) (λ a f. shutA a (subst (FreeIn a) (assumptions_put_closed m.map A shutA) f)) ∙ assumptions_put_closed m.map A shutA)
                (λ y o. ap (λ f. f y) (ap (over us) (over_closed m.map B shutB) ∙ over_closed us B shutB))
                (λ y o. ap (put us) (at_block m.map y o) ∙ sym (instance_quantify A us (m.map (code y)) (λ a f. absurd (shutA a f))))
                (λ y o. o)
                (GroupHas-put ds us g xs (assumptions_put m.map A) (over m.map B) (λ y. put m.map (names_block 0 few.0 y)) (s.sound m.map m.unifies).1);
            most = λ τ h x o.
                let c = s.complete (by_number τ) tt (ask τ h) in
                (c.0, sym (by_number_code τ x) ∙ (sym (c.1 (code x) (let l = few.1 x o in omega arith)) ∙ (sym (m.most c.0 c.2 (code x)) ∙ sym (instance_quantify A c.0 (m.map (code x)) (λ a f. absurd (shutA a f))))));
          }

-- what is known after some units were judged: status x says that the unit of x is typed, with all that it depends on
pub record State (ds : Bindings) (A : Assumptions) (own : Identifier → Identifier → Bool) (finished status : Identifier → Bool) (B : Identifier → Scheme) : Type 1 where
  pub shut : AreClosed B
  pub declared : SignedAre B ds
  pub sub : (x : Identifier) → status x ≡ true → finished x ≡ true
  pub seen_before : (x y : Identifier) → finished x ≡ true → BindingMentions x y ds → IsUnsigned y ds → finished y ≡ true
  pub down : IsDown ds own (λ x. status x ≡ true)
  pub sound : DerivesOf (λ x. status x ≡ true) A own (names ds) B ds
  pub most : (U : Identifier → Type 0) (B' : Identifier → Scheme) → IsDown ds own U → DerivesOf U A own (names ds) B' ds → (x : Identifier) → finished x ≡ true → U x → (status x ≡ true) × IsAtMostAsGeneral (B' x) (B x)

or_left : (a b : Bool) → a ≡ true → (a || b) ≡ true
or_left true b e = refl
or_left false b e = absurd (true≢false (sym e))

or_right : (a b : Bool) → b ≡ true → (a || b) ≡ true
or_right true b e = refl
or_right false b e = e

or_case : (a b : Bool) → (a || b) ≡ true → (a ≡ true) ⊎ (b ≡ true)
or_case true b e = inl refl
or_case false b e = inr e

pub declared_same : (D : Bindings) (U : Identifier → Type 0) (A : Assumptions) (own : Identifier → Identifier → Bool) (xs : List Identifier) (B B' : Identifier → Scheme) → SignedAre B D → DerivesOf U A own xs B' D → (y : Identifier) → IsSigned y D → B' y ≡ B y
declared_same no_binding U A own xs B B' s d y i = absurd i
declared_same (unsigned x cs D) U A own xs B B' s d y i = declared_same D U A own xs B B' s d.1 y i
declared_same (signed x t cs D) U A own xs B B' s d y (inl e) = subst (λ z. B' z ≡ B z) (sym e) (d.0 ∙ sym s.0)
declared_same (signed x t cs D) U A own xs B B' s d y (inr i) = declared_same D U A own xs B B' s.1 d.1 y i
declared_same (matched k p cs D) U A own xs B B' s d y i = declared_same D U A own xs B B' s d.1 y i

module _ (ds : Bindings) (A : Assumptions) (own : Identifier → Identifier → Bool) (units : AreUnits ds own) (finished g : Identifier → Bool) (next : IsNext ds own finished g) where
  out_signed : (w : Identifier) → IsSigned w ds → g w ≡ false
  out_signed w i = ⊎_elim (λ e. absurd (clash (next.unit w w e e) (own_signed ds own units w w i))) (λ e. e) (cases (g w))

  out_finished : (w : Identifier) → finished w ≡ true → g w ≡ false
  out_finished w f = ⊎_elim (λ e. absurd (clash f (next.open_yet w e))) (λ e. e) (cases (g w))

  -- what a binding of the group mentions is of the group or finished, where it has no signature
  ready_mention : (D : Bindings) → IsReady ds (names ds) finished g D → ((z : Identifier) → IsSigned z D → g z ≡ false) → (x y : Identifier) → g x ≡ true → BindingMentions x y D → IsOneOf y (names ds) → (g y ≡ true) ⊎ ((finished y ≡ true) ⊎ IsSigned y ds)
  ready_mention no_binding k f x y gx m o = absurd m
  ready_mention (unsigned z cs D) k f x y gx (inl m) o = k.0 (subst (λ w. g w ≡ true) m.0 gx) y m.1 o
  ready_mention (unsigned z cs D) k f x y gx (inr m) o = ready_mention D k.1 f x y gx m o
  ready_mention (signed z s cs D) k f x y gx (inl m) o = absurd (clash gx (subst (λ w. g w ≡ false) (sym m.0) (f z (inl refl))))
  ready_mention (signed z s cs D) k f x y gx (inr m) o = ready_mention D k (λ w i. f w (inr i)) x y gx m o
  ready_mention (matched z p cs D) k f x y gx (inl m) o = k.0 x m.0 gx y m.1 o
  ready_mention (matched z p cs D) k f x y gx (inr m) o = ready_mention D k.1 f x y gx m o

  pub mention_of : (x y : Identifier) → g x ≡ true → BindingMentions x y ds → IsOneOf y (names ds) → (g y ≡ true) ⊎ ((finished y ≡ true) ⊎ IsSigned y ds)
  mention_of x y gx m o = ready_mention ds next.ready out_signed x y gx m o

  apart : (x y : Identifier) → g x ≡ true → g y ≡ false → own x y ≡ false
  apart x y gx gy = ⊎_elim (λ e. absurd (clash (sym (next.whole x y e) ∙ gx) gy)) (λ e. e) (cases (own x y))

  -- the guess of other schemes, as the group's question
  guess_of : (D : Bindings) (U : Identifier → Type 0) (B B' : Identifier → Scheme) → ((x y : Identifier) → BindingMentions x y D → BindingMentions x y ds) → ((x : Identifier) → g x ≡ true → U x) →
      ((x y : Identifier) → g x ≡ true → BindingMentions x y ds → IsOneOf y (names ds) → g y ≡ false → IsAtMostAsGeneral (B' y) (B y)) → (us : ℕ → Monotype) → DerivesOf U A own (names ds) B' D → GroupHas g (names ds) A B (λ z. instance (B' z) us) D
  guess_of no_binding U B B' sub u c us d = tt
  guess_of (signed x s cs D) U B B' sub u c us d = guess_of D U B B' (λ v w m. sub v w (inr m)) u c us d.1
  guess_of (unsigned x cs D) U B B' sub u c us d = (
    (λ gx. DeriveClauses-more cs _ _ _ (λ y i t h. Has-bind_all (names ds) (seen_at own B' us x) (within g B (λ z. instance (B' z) us)) A A y (λ o v. at gx y i o (cases (g y)) v) (λ o v k. k) t h) (d.0 (u x gx) us)),
    guess_of D U B B' (λ v w m. sub v w (inr m)) u c us d.1,
  )
    where
      at : g x ≡ true → (y : Identifier) → ClausesMention y cs → IsOneOf y (names ds) → (g y ≡ true) ⊎ (g y ≡ false) → IsAtMostAsGeneral (seen_at own B' us x y) (within g B (λ z. instance (B' z) us) y)
      at gx y i o (inl gy) = λ t. subst (IsInstance t) (cond_true (own x y) _ _ (next.unit x y gx gy) ∙ sym (cond_true (g y) _ _ gy))
      at gx y i o (inr gy) = λ t k. subst (IsInstance t) (sym (cond_false (g y) _ _ gy)) (c x y gx (sub x y (inl (refl, i))) o gy t (subst (IsInstance t) (cond_false (own x y) _ _ (apart x y gx gy)) k))
  guess_of (matched k p cs D) U B B' sub u c us d = (
    (λ gk. let e = d.0 (u k gk) us in (
      e.0,
      DeriveClauses-more cs _ _ _ (λ y i t h. Has-bind_all (names ds) (seen_at own B' us k) (within g B (λ z. instance (B' z) us)) A A y (λ o v. at gk y i o (cases (g y)) v) (λ o v q. q) t h) e.1,
    )),
    guess_of D U B B' (λ v w m. sub v w (inr m)) u c us d.1,
  )
    where
      at : g k ≡ true → (y : Identifier) → ClausesMention y cs → IsOneOf y (names ds) → (g y ≡ true) ⊎ (g y ≡ false) → IsAtMostAsGeneral (seen_at own B' us k y) (within g B (λ z. instance (B' z) us) y)
      at gk y i o (inl gy) = λ t. subst (IsInstance t) (cond_true (own k y) _ _ (next.unit k y gk gy) ∙ sym (cond_true (g y) _ _ gy))
      at gk y i o (inr gy) = λ t q. subst (IsInstance t) (sym (cond_false (g y) _ _ gy)) (c k y gk (sub k y (inl (own_name k p, inr i))) o gy t (subst (IsInstance t) (cond_false (own k y) _ _ (apart k y gk gy)) q))

  module _ (status : Identifier → Bool) (B : Identifier → Scheme) (state : State ds A own finished status B) where
    -- what is of no unit judged before is not mentioned there
    quiet : (x y : Identifier) → status x ≡ true → BindingMentions x y ds → IsOneOf y (names ds) → g y ≡ false
    quiet x y s m o = ⊎_elim (λ u. out_finished y (state.seen_before x y (state.sub x s) m u)) (λ i. out_signed y i) (kind_of ds y o)

    seen_after : (x y : Identifier) → finished x || g x ≡ true → BindingMentions x y ds → IsUnsigned y ds → finished y || g y ≡ true
    seen_after x y f m u = ⊎_elim (λ e. or_left (finished y) (g y) (state.seen_before x y e m u))
        (λ gx. ⊎_elim (λ gy. or_right (finished y) (g y) gy) (λ k. ⊎_elim (λ e. or_left (finished y) (g y) e) (λ i. absurd (Rattle.hm_typing.proofs.Bridge.one_kind ds units.0 y i u)) k) (mention_of x y gx m (unsigned_name ds y u)))
        (or_case (finished x) (g x) f)

    -- the unit is not judged, or doesn't type: nothing is added
    pub skipped : ((U : Identifier → Type 0) (B' : Identifier → Scheme) → IsDown ds own U → DerivesOf U A own (names ds) B' ds → (x : Identifier) → g x ≡ true → U x → ⊥) → State ds A own (λ y. finished y || g y) status B
    skipped never = record {
      shut = state.shut;
      declared = state.declared;
      sub = λ x s. or_left (finished x) (g x) (state.sub x s);
      seen_before = seen_after;
      down = state.down;
      sound = state.sound;
      most = λ U B' down d x f u. ⊎_elim (λ e. state.most U B' down d x e u) (λ gx. absurd (never U B' down d x gx u)) (or_case (finished x) (g x) f);
    }

    module _ (free : (x y : Identifier) → g x ≡ true → BindingMentions x y ds → IsUnsigned y ds → g y ≡ false → status y ≡ true) where
      whole_unit : (U : Identifier → Type 0) → IsDown ds own U → (x : Identifier) → g x ≡ true → U x → (y : Identifier) → g y ≡ true → U y
      whole_unit U down x gx u y gy = down.whole x y (next.unit x y gx gy) u

      -- any typing that has the unit answers its question
      pub asked_of : (U : Identifier → Type 0) (B' : Identifier → Scheme) → IsDown ds own U → DerivesOf U A own (names ds) B' ds → (x : Identifier) → g x ≡ true → U x → (us : ℕ → Monotype) → GroupHas g (names ds) A B (λ z. instance (B' z) us) ds
      asked_of U B' down d x gx u us = guess_of ds U B B' (λ v w m. m) (λ y gy. whole_unit U down x gx u y gy)
          (λ v w gv m o gw. ⊎_elim
          (λ n. (state.most U B' down d w (state.sub w (free v w gv m n gw)) (down.mentioned v w (whole_unit U down x gx u v gv) m n)).1)
          (λ i. subst (IsAtMostAsGeneral (B' w)) (declared_same ds U A own (names ds) B B' state.declared d w i) (λ t k. k))
          (kind_of ds w o)) us d

      pub untyped : ((τ : Identifier → Monotype) → ¬ (GroupHas g (names ds) A B τ ds)) → State ds A own (λ y. finished y || g y) status B
      untyped never = skipped (λ U B' down d x gx u. never _ (asked_of U B' down d x gx u Var))

      pub typed : (t : Unit_typed ds A g B) → State ds A own (λ y. finished y || g y) (λ y. status y || g y) (λ y. cond (g y) (t.schemes y) (B y))
      typed t = record {
        shut = λ y. shut y (g y);
        declared = declared ds out_signed state.declared;
        sub = λ x s. ⊎_elim (λ e. or_left (finished x) (g x) (state.sub x e)) (λ e. or_right (finished x) (g x) e) (or_case (status x) (g x) s);
        seen_before = seen_after;
        down = record {
          mentioned = λ x y s m u. ⊎_elim (λ e. or_left (status y) (g y) (state.down.mentioned x y e m u)) (λ gx. ⊎_elim (λ gy. or_right (status y) (g y) gy) (λ gy. or_left (status y) (g y) (free x y gx m u gy)) (cases (g y))) (or_case (status x) (g x) s);
          whole = λ x y o s. ⊎_elim (λ e. or_left (status y) (g y) (state.down.whole x y o e)) (λ gx. or_right (status y) (g y) (sym (next.whole x y o) ∙ gx)) (or_case (status x) (g x) s);
        };
        sound = sound ds (λ x y m. m) out_signed (together ds own units) state.sound (t.each);
        most = λ U B' down d x f u. ⊎_elim
            (λ e. let k = state.most U B' down d x e u in (or_left (status x) (g x) k.0, subst (IsAtMostAsGeneral (B' x)) (sym (cond_false (g x) _ _ (out_finished x e))) k.1))
            (λ gx. (
              or_right (status x) (g x) gx,
              subst (IsAtMostAsGeneral (B' x)) (sym (cond_true (g x) _ _ gx))
                  (λ v i. subst (λ w. IsInstance w (t.schemes x)) (sym i.1) (t.most _ (asked_of U B' down d x gx u i.0) x (member x gx))),
            ))
            (or_case (finished x) (g x) f);
      }
        where
          B2 : Identifier → Scheme
          B2 y = cond (g y) (t.schemes y) (B y)

          member : (x : Identifier) → g x ≡ true → IsOneOf x (names ds)
          member x gx = unsigned_name ds x ((units.1 x x).0 (next.unit x x gx gx)).0

          shut : (y : Identifier) (b : Bool) (a : ℕ) → ¬ (In (Free a) (cond b (t.schemes y) (B y)))
          shut y true = t.shut y
          shut y false = state.shut y

          declared : (D : Bindings) → ((y : Identifier) → IsSigned y D → g y ≡ false) → SignedAre B D → SignedAre B2 D
          declared no_binding f d = tt
          declared (unsigned x cs D) f d = declared D f d
          declared (signed x s cs D) f d = (cond_false (g x) _ _ (f x (inl refl)) ∙ d.0, declared D (λ y i. f y (inr i)) d.1)
          declared (matched k p cs D) f d = declared D f d

          in_group : (us : ℕ → Monotype) (x y : Identifier) → g x ≡ true → (g y ≡ true) ⊎ (g y ≡ false) → within g B (λ z. instance (t.schemes z) us) y ≡ seen_at own B2 us x y
          in_group us x y gx (inl gy) = cond_true (g y) _ _ gy ∙ (ap (λ σ. monomorphic (instance σ us)) (sym (cond_true (g y) _ _ gy)) ∙ sym (cond_true (own x y) _ _ (next.unit x y gx gy)))
          in_group us x y gx (inr gy) = cond_false (g y) _ _ gy ∙ (sym (cond_false (g y) _ _ gy) ∙ sym (cond_false (own x y) _ _ (apart x y gx gy)))

          kept : (us : ℕ → Monotype) (x y : Identifier) → g y ≡ false → seen_at own B us x y ≡ seen_at own B2 us x y
          kept us x y gy = ap (λ σ. cond (own x y) (monomorphic (instance σ us)) σ) (sym (cond_false (g y) _ _ gy))

          sound : (D : Bindings) → ((x y : Identifier) → BindingMentions x y D → BindingMentions x y ds) → ((y : Identifier) → IsSigned y D → g y ≡ false) → AreTogether own D → DerivesOf (λ x. status x ≡ true) A own (names ds) B D →
              ((us : ℕ → Monotype) → GroupHas g (names ds) A B (λ y. instance (t.schemes y) us) D) → DerivesOf (λ x. status x || g x ≡ true) A own (names ds) B2 D
          sound no_binding sub f to d e = tt
          sound (signed x s cs D) sub f to d e = (cond_false (g x) _ _ (f x (inl refl)) ∙ d.0, sound D (λ v w m. sub v w (inr m)) (λ y i. f y (inr i)) to d.1 e)
          sound (unsigned x cs D) sub f to d e = (
            (λ s us. ⊎_elim
                (λ gx. subst₂ (λ Γ v. DeriveClauses Γ cs v) (bind_all-agree (names ds) _ _ A A (λ y o. in_group us x y gx (cases (g y))) refl) (ap (λ σ. instance σ us) (sym (cond_true (g x) _ _ gx))) ((e us).0 gx))
                (λ gx. subst (λ σ. DeriveClauses (bind_all (names ds) (seen_at own B2 us x) A) cs (instance σ us)) (sym (cond_false (g x) _ _ gx))
                (let old = ⊎_elim (λ k. k) (λ k. absurd (clash k gx)) (or_case (status x) (g x) s) in
                DeriveClauses-more cs _ _ _ (λ y i v h. Has-bind_all (names ds) (seen_at own B us x) (seen_at own B2 us x) A A y (λ o w. subst (IsInstance w) (kept us x y (quiet x y old (sub x y (inl (refl, i))) o))) (λ o w k. k) v h) (d.0 old us)))
                (cases (g x))),
            sound D (λ v w m. sub v w (inr m)) f to d.1 (λ us. (e us).1),
          )
          sound (matched k p cs D) sub f to d e = (
            (λ s us. ⊎_elim
                (λ gk.
                let at : (x : Identifier) → IsOneOf x (matched_names k p) → instance (t.schemes x) us ≡ instance (B2 x) us = λ x o. ap (λ σ. instance σ us) (sym (cond_true (g x) _ _ (sym (next.whole k x (to.0 k x (own_name k p) o)) ∙ gk))) in (
                  Matches-named k p _ _ at ((e us).0 gk).0,
                  subst₂ (λ Γ v. DeriveClauses Γ cs v) (bind_all-agree (names ds) _ _ A A (λ y o. in_group us k y gk (cases (g y))) refl) (at k (own_name k p)) ((e us).0 gk).1,
                ))
                (λ gk.
                let old = ⊎_elim (λ q. q) (λ q. absurd (clash q gk)) (or_case (status k) (g k) s) in
                let at : (x : Identifier) → IsOneOf x (matched_names k p) → instance (B x) us ≡ instance (B2 x) us = λ x o. ap (λ σ. instance σ us) (sym (cond_false (g x) _ _ (sym (next.whole k x (to.0 k x (own_name k p) o)) ∙ gk))) in (
                  Matches-named k p _ _ at (d.0 old us).0,
                  subst (DeriveClauses (bind_all (names ds) (seen_at own B2 us k) A) cs) (at k (own_name k p))
                      (DeriveClauses-more cs _ _ _ (λ y i v h. Has-bind_all (names ds) (seen_at own B us k) (seen_at own B2 us k) A A y (λ o w. subst (IsInstance w) (kept us k y (quiet k y old (sub k y (inl (own_name k p, inr i))) o))) (λ o w q. q) v h) (d.0 old us).1),
                ))
                (cases (g k))),
            sound D (λ v w m. sub v w (inr m)) f to.1 d.1 (λ us. (e us).1),
          )
