-- A name with a signature is a type fault where all that its clauses mention has types, and one of them hasn't the declared type.
use Rattle.std.proofs.Common.{◌≡◌, Bool, List, true, inl, inr, ⊎_elim, ◌↔◌, sym, subst}
use Rattle.hm_types.specs.Types.{Var, put}
use Rattle.hm_typing.specs.Names.{Identifier, IsOneOf}
use Rattle.hm_typing.specs.Schemes.{Monotype, Scheme}
use Rattle.hm_typing.specs.Assumptions.{Assumptions, Has, IsClosed, assumptions_put, bind_all}
use Rattle.hm_typing.specs.Mentions.{BindingsMention}
use Rattle.hm_typing.specs.Orders.{Layout}
use Rattle.hm_typing.specs.Syntax.{Bindings, no_binding, unsigned, signed, matched, names}
use Rattle.hm_typing.specs.Units.{BindingMentions, DependsOn, IsSigned, IsUnsigned, Reaches, directly, through, SameUnit}
use Rattle.hm_typing.specs.Verdicts.{IsTypeFault}
use Rattle.hm_typing.proofs.Bind.{is_one_of, Has-Sees, Sees-Has, assumptions_put-bind_all}
use Rattle.hm_typing.proofs.Bridge.{one_kind}
use Rattle.hm_typing.proofs.Faults.{SignedOf, SignedOf-all, SignedOf-weaker, judged_closed, typable_from, typable_to}
use Rattle.hm_typing.proofs.FaultLists.{closure_down, depends_down}
use Rattle.hm_typing.proofs.Groups.{over}
use Rattle.hm_typing.proofs.Judge.{Closure, Judged, Reaches-unsigned, reach_typed}
use Rattle.hm_typing.proofs.Lists.{kind_of}
use Rattle.hm_typing.proofs.More.{DeriveClauses-more}
use Rattle.hm_typing.proofs.Principal.{assumptions_put_closed}
use Rattle.hm_infer_expressions.specs.BoundNames.{Sees}
use Rattle.hm_infer_context.specs.Environments.{Assumed, assumptions}
use Rattle.hm_infer.specs.JudgedUnits.{Units}
use Rattle.hm_infer_expressions.specs.Lists.{IsWritten}
use Rattle.hm_infer.proofs.JudgedLists.{state_of}

-- the clauses of x have the declared type under other assumptions too
signed_more : (x : Identifier) (D : Bindings) (A1 A2 : Assumptions) → ((y : Identifier) → BindingMentions x y D → BindingsMention y D → (t : Monotype) → Has A1 y t → Has A2 y t) → SignedOf (λ y. x ≡ y) A1 D → SignedOf (λ y. x ≡ y) A2 D
signed_more x no_binding A1 A2 f h = tt
signed_more x (unsigned z cs D) A1 A2 f h = signed_more x D A1 A2 (λ y m b. f y (inr m) (inr b)) h
signed_more x (signed z s cs D) A1 A2 f h = ((λ e us. DeriveClauses-more cs A1 A2 (put us s) (λ y j. f y (inl (e, j)) (inl j)) (h.0 e us)), signed_more x D A1 A2 (λ y m b. f y (inr m) (inr b)) h.1)
signed_more x (matched z p cs D) A1 A2 f h = signed_more x D A1 A2 (λ y m b. f y (inr m) (inr b)) h

module _ (ds : Bindings) (A : Assumptions) (status : Identifier → Bool) (B : Identifier → Scheme) (es : List Assumed) (sees : Sees ds A status B es) (shut_es : IsClosed (assumptions es)) (shut_ds : IsClosed (bind_all (names ds) B A)) where
  alike_put : (y : Identifier) → IsWritten y → (IsUnsigned y ds → status y ≡ true) → (t : Monotype) → Has (assumptions_put Var (assumptions es)) y t ↔ Has (assumptions_put Var (bind_all (names ds) B A)) y t
  alike_put y w f t = at (is_one_of y (names ds))
    where
      put_all : assumptions_put Var (bind_all (names ds) B A) ≡ bind_all (names ds) (over Var B) (assumptions_put Var A)
      put_all = assumptions_put-bind_all Var (names ds) B A

      at : Dec (IsOneOf y (names ds)) → Has (assumptions_put Var (assumptions es)) y t ↔ Has (assumptions_put Var (bind_all (names ds) B A)) y t
      at (yes o) =
          let k = sees.known Var y w (⊎_elim (λ u. inl (f u)) inr (kind_of ds y o)) t in (
            (λ h. subst (λ C. Has C y t) (sym put_all) (Sees-Has (names ds) (over Var B) (assumptions_put Var A) y t (inl (o, k.0 h)))),
            (λ h. k.1 (⊎_elim (λ q. q.1) (λ q. absurd (q.0 o)) (Has-Sees (names ds) (over Var B) (assumptions_put Var A) y t (subst (λ C. Has C y t) put_all h)))),
          )
      at (no n) =
          let k = sees.others Var y w n t in (
            (λ h. subst (λ C. Has C y t) (sym put_all) (Sees-Has (names ds) (over Var B) (assumptions_put Var A) y t (inr (n, k.0 h)))),
            (λ h. k.1 (⊎_elim (λ q. absurd (n q.0)) (λ q. q.1) (Has-Sees (names ds) (over Var B) (assumptions_put Var A) y t (subst (λ C. Has C y t) put_all h)))),
          )

  -- of what has types the environment tells what the schemes do
  alike_at : (y : Identifier) → IsWritten y → (IsUnsigned y ds → status y ≡ true) → (t : Monotype) → Has (assumptions es) y t ↔ Has (bind_all (names ds) B A) y t
  alike_at y w f t =
      let k = alike_put y w f t in
      let e = assumptions_put_closed Var (assumptions es) shut_es in
      let g = assumptions_put_closed Var (bind_all (names ds) B A) shut_ds in (
        (λ h. subst (λ C. Has C y t) g (k.0 (subst (λ C. Has C y t) (sym e) h))),
        (λ h. subst (λ C. Has C y t) e (k.1 (subst (λ C. Has C y t) (sym g) h))),
      )

  pub signed_alike : (x : Identifier) → ((y : Identifier) → BindingsMention y ds → IsWritten y) → ((y : Identifier) → BindingMentions x y ds → IsUnsigned y ds → status y ≡ true) → SignedOf (λ y. x ≡ y) (assumptions es) ds ↔ SignedOf (λ y. x ≡ y) (bind_all (names ds) B A) ds
  signed_alike x w f = (
    signed_more x ds (assumptions es) (bind_all (names ds) B A) (λ y m b t. (alike_at y (w y b) (f y m) t).0),
    signed_more x ds (bind_all (names ds) B A) (assumptions es) (λ y m b t. (alike_at y (w y b) (f y m) t).1),
  )

module _ (ds : Bindings) (A : Assumptions) (shut : IsClosed A) (L : Layout ds) (finished status : Identifier → Bool) (B : Identifier → Scheme) (u : Units ds A L finished status B) (all : (x : Identifier) → IsUnsigned x ds → finished x ≡ true) where
  judged : Judged ds A L.own
  judged = record { finished = finished; status = status; schemes = B; state = state_of ds A L finished status B u; all = all }

  pub schemes_closed : IsClosed (bind_all (names ds) B A)
  unfolding judged
  schemes_closed = judged_closed ds L.own L.units A shut judged

  module _ (x : Identifier) (sx : IsSigned x ds) where
    alone : (y : Identifier) → SameUnit ds x y → x ≡ y
    alone y (inl e) = e
    alone y (inr p) = absurd (one_kind ds L.units.0 x sx (Reaches-unsigned ds p.1))

    not_alike : (y : Identifier) → IsUnsigned y ds → ¬ (SameUnit ds x y)
    not_alike y i s = one_kind ds L.units.0 x sx (subst (λ z. IsUnsigned z ds) (sym (alone y s)) i)

    -- all that the binding mentions has types
    abbrev pub IsFreeOne : Type 0
    IsFreeOne = (y : Identifier) → BindingMentions x y ds → IsUnsigned y ds → status y ≡ true

    reached : IsFreeOne → {z : Identifier} → Reaches ds x z → status z ≡ true
    unfolding judged
    reached f (directly r) = f _ r.0 r.1
    reached f (through r p) = reach_typed ds L.own status judged.state.down (f _ r.0 r.1) p

    none_signed : (C : Assumptions) → SignedOf (DependsOn ds x) C ds
    none_signed C = SignedOf-all ds (DependsOn ds x) C (λ y i d. absurd (one_kind ds L.units.0 y i (Reaches-unsigned ds d.0)))

    pub signed_fault : ((y : Identifier) → BindingMentions x y ds → IsUnsigned y ds → status y ≡ true) → ¬ (SignedOf (λ y. x ≡ y) (bind_all (names ds) B A) ds) → IsTypeFault A ds x
    unfolding judged
    signed_fault f n = (
      typable_from ds L.own L.units A shut judged (DependsOn ds x) (λ y i d. reached f d.0) (none_signed _),
      λ q. n (SignedOf-weaker ds (Closure ds x) (λ y. x ≡ y) _ (λ y e. inr (inl e)) (typable_to ds L.own L.units A shut judged (Closure ds x) (closure_down ds L.own L.units x) q).1),
    )

    pub fault_free : IsTypeFault A ds x → (y : Identifier) → BindingMentions x y ds → IsUnsigned y ds → status y ≡ true
    unfolding judged
    fault_free p y m i = (typable_to ds L.own L.units A shut judged (DependsOn ds x) (depends_down ds L.own L.units x) p.0).0 y i (directly (m, i), not_alike y i)

    pub fault_refused : IsTypeFault A ds x → ¬ (SignedOf (λ y. x ≡ y) (bind_all (names ds) B A) ds)
    unfolding judged
    fault_refused p h = p.1 (typable_from ds L.own L.units A shut judged (Closure ds x)
        (λ y i c. ⊎_elim (λ d. reached (fault_free p) d.0) (λ s. absurd (not_alike y i s)) c)
        (SignedOf-all ds (Closure ds x) _ (λ y k c. ⊎_elim (λ d. absurd (one_kind ds L.units.0 y k (Reaches-unsigned ds d.0))) (λ s. subst (λ z. SignedOf (λ w. z ≡ w) (bind_all (names ds) B A) ds) (alone y s) h) c)))
