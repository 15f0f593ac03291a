-- What was judged, as hm_typing's states.
use Rattle.std.proofs.Common.{◌≡◌, List, Bool, true, false, ◌||◌, inl, inr, ◌⊎◌, ⊎_elim, refl, sym, subst}
use Rattle.hm_typing.specs.Names.{Identifier, IsOneOf}
use Rattle.hm_typing.specs.Schemes.{Scheme}
use Rattle.hm_typing.specs.Assumptions.{Assumptions}
use Rattle.hm_typing.specs.Syntax.{Bindings, no_binding, unsigned, signed, matched, names}
use Rattle.hm_typing.specs.Units.{BindingMentions, IsSigned}
use Rattle.hm_typing.specs.Orders.{IsNext, IsReady, Layout, SignedAre}
use Rattle.hm_typing.proofs.Bridge.{one_kind, unsigned_name}
use Rattle.hm_typing.proofs.Judge.{opposite}
use Rattle.hm_typing.proofs.Lists.{kind_of}
use Rattle.hm_typing.proofs.Units as unit
use Rattle.hm_typing.proofs.Units.{DerivesOf, IsDown, State, mention_of}
use Rattle.hm_infer.specs.JudgedUnits.{IsBlocked, IsFreeToJudge, Units, no_units, typed_unit, untyped_unit, blocked_unit}

nothing_derived : (D : Bindings) (A : Assumptions) (own : Identifier → Identifier → Bool) (xs : List Identifier) (B : Identifier → Scheme) → SignedAre B D → DerivesOf (λ x. false ≡ true) A own xs B D
nothing_derived no_binding A own xs B d = tt
nothing_derived (unsigned x cs D) A own xs B d = ((λ e. absurd (opposite e refl)), nothing_derived D A own xs B d)
nothing_derived (signed x s cs D) A own xs B d = (d.0, nothing_derived D A own xs B d.1)
nothing_derived (matched k p cs D) A own xs B d = ((λ e. absurd (opposite e refl)), nothing_derived D A own xs B d)

module _ (ds : Bindings) (A : Assumptions) (L : Layout ds) where
  start : State ds A L.own (λ x. false) (λ x. false) L.declared
  start = record {
    shut = L.are_closed;
    declared = L.are_declared;
    sub = λ x e. e;
    seen_before = λ x y e m u. absurd (opposite e refl);
    down = record { mentioned = λ x y e m u. absurd (opposite e refl); whole = λ x y o e. absurd (opposite e refl) };
    sound = nothing_derived ds A L.own (names ds) L.declared L.are_declared;
    most = λ U B' down d x e u. absurd (opposite e refl);
  }

  -- nothing types a unit that is blocked
  never : (finished g status : Identifier → Bool) (B : Identifier → Scheme) → IsNext ds L.own finished g → State ds A L.own finished status B → IsBlocked ds g status → (U : Identifier → Type 0) (B' : Identifier → Scheme) → IsDown ds L.own U → DerivesOf U A L.own (names ds) B' ds → (x : Identifier) → g x ≡ true → U x → ⊥
  never finished g status B next state b U B' down d x gx u =
      let there = down.mentioned b.name b.other (down.whole x b.name (next.unit x b.name gx b.member) u) b.mentioned b.without_signature in
      let before = ⊎_elim (λ e. absurd (opposite e b.outside)) (λ r. ⊎_elim (λ e. e) (λ i. absurd (one_kind ds L.units.0 b.other i b.without_signature)) r) (mention_of ds A L.own L.units finished g next b.name b.other b.member b.mentioned (unsigned_name ds b.other b.without_signature)) in
      opposite (state.most U B' down d b.other before there).0 b.untyped

  pub state_of : (finished status : Identifier → Bool) (B : Identifier → Scheme) → Units ds A L finished status B → State ds A L.own finished status B
  state_of finished status B (no_units e f h) = subst (λ z. State ds A L.own z status B) (sym e) (subst (λ z. State ds A L.own (λ x. false) z B) (sym f) (subst (λ z. State ds A L.own (λ x. false) (λ x. false) z) (sym h) start))
  state_of finished1 status1 B1 (typed_unit g finished status B u next free t e f h) =
      subst (λ z. State ds A L.own z status1 B1) (sym e) (subst (λ z. State ds A L.own (λ y. finished y || g y) z B1) (sym f) (subst (λ z. State ds A L.own (λ y. finished y || g y) (λ y. status y || g y) z) (sym h)
      (unit.typed ds A L.own L.units finished g next status B (state_of finished status B u) free t)))
  state_of finished1 status B (untyped_unit g finished u next free none e) =
      subst (λ z. State ds A L.own z status B) (sym e) (unit.untyped ds A L.own L.units finished g next status B (state_of finished status B u) free none)
  state_of finished1 status B (blocked_unit g finished u next blocked e) =
      subst (λ z. State ds A L.own z status B) (sym e) (unit.skipped ds A L.own L.units finished g next status B (state_of finished status B u) (never finished g status B next (state_of finished status B u) blocked))

-- a unit that is free to be judged comes next to what is typed

kinds : (ds : Bindings) (g status : Identifier → Bool) → IsFreeToJudge ds g status → (x y : Identifier) → g x ≡ true → BindingMentions x y ds → IsOneOf y (names ds) → (b : Bool) → g y ≡ b → (g y ≡ true) ⊎ ((status y ≡ true) ⊎ IsSigned y ds)
kinds ds g status free x y gx m o true e = inl e
kinds ds g status free x y gx m o false e = inr (⊎_elim (λ u. inl (free x y gx m u e)) inr (kind_of ds y o))

ready : (ds : Bindings) (g status : Identifier → Bool) → IsFreeToJudge ds g status → (D : Bindings) → ((x y : Identifier) → BindingMentions x y D → BindingMentions x y ds) → IsReady ds (names ds) status g D
ready ds g status free no_binding sub = tt
ready ds g status free (unsigned x cs D) sub = ((λ gx y i o. kinds ds g status free x y gx (sub x y (inl (refl, i))) o (g y) refl), ready ds g status free D (λ v w m. sub v w (inr m)))
ready ds g status free (signed x s cs D) sub = ready ds g status free D (λ v w m. sub v w (inr m))
ready ds g status free (matched k p cs D) sub = ((λ x o gx y i q. kinds ds g status free x y gx (sub x y (inl (o, i))) q (g y) refl), ready ds g status free D (λ v w m. sub v w (inr m)))

pub next_to_typed : (ds : Bindings) (own : Identifier → Identifier → Bool) (finished g status : Identifier → Bool) → ((x : Identifier) → status x ≡ true → finished x ≡ true) → IsNext ds own finished g → IsFreeToJudge ds g status → IsNext ds own status g
next_to_typed ds own finished g status sub next free = record {
  whole = next.whole;
  unit = next.unit;
  open_yet = λ x gx. at x (status x) refl (next.open_yet x gx);
  ready = ready ds g status free ds (λ x y m. m);
}
  where
    at : (x : Identifier) (b : Bool) → status x ≡ b → finished x ≡ false → status x ≡ false
    at x true e f = absurd (opposite (sub x e) f)
    at x false e f = e
