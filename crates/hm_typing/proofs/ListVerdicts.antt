-- Each list has its verdict.
use Rattle.std.proofs.Common.{◌≡◌, ℕ, List, [], ◌∷◌, Bool, true, false, inl, inr, ◌⊎◌, refl}
use Rattle.hm_typing.specs.Names.{Identifier, IsDistinct}
use Rattle.hm_typing.specs.Schemes.{Monotype, Scheme}
use Rattle.hm_typing.specs.Assumptions.{Assumptions, IsClosed}
use Rattle.hm_typing.specs.Syntax.{Bindings, no_binding, unsigned, signed, matched, names}
use Rattle.hm_typing.specs.BindingLists.{HasSchemes, HasPrincipalSchemes}
use Rattle.hm_typing.specs.Verdicts.{IsTypeFault, AreTypeFaults, Verdict, Good, Faulty, IsVerdict}
use Rattle.hm_typing.specs.Problems.{Fact, Unifies, MostGeneralUnifier}
use Rattle.hm_typing.specs.Orders.{Layout, SignedAre}
use Rattle.hm_typing.proofs.Units.{DerivesOf, State}
use Rattle.hm_typing.proofs.Judge.{opposite, Judged, judge}
use Rattle.hm_typing.proofs.Mentioning.{binding_mentions}
use Rattle.hm_typing.proofs.FaultLists.{faults, no_fault, typed_without_faults}
use Rattle.hm_typing.proofs.Principal.{principal}

module _ (solve : (E : List Fact) → MostGeneralUnifier E ⊎ ((r : ℕ → Monotype) → Unifies r E → ⊥)) (layout : (ds : Bindings) → IsDistinct (names ds) → Layout ds) (ds : Bindings) (A : Assumptions) (distinct : IsDistinct (names ds)) (shutA : IsClosed A) where
  order : Layout ds
  order = layout ds distinct

  nothing_derived : (D : Bindings) (own : Identifier → Identifier → Bool) (xs : List Identifier) (B : Identifier → Scheme) → SignedAre B D → DerivesOf (λ x. false ≡ true) A own xs B D
  nothing_derived no_binding own xs B d = tt
  nothing_derived (unsigned x cs D) own xs B d = ((λ e. absurd (opposite e refl)), nothing_derived D own xs B d)
  nothing_derived (signed x s cs D) own xs B d = (d.0, nothing_derived D own xs B d.1)
  nothing_derived (matched k p cs D) own xs B d = ((λ e. absurd (opposite e refl)), nothing_derived D own xs B d)

  start : State ds A order.own (λ x. false) (λ x. false) order.declared
  start = record {
    shut = order.are_closed;
    declared = order.are_declared;
    sub = λ x e. e;
    seen_before = λ x y e m u. absurd (opposite e refl);
    down = record { mentioned = λ x y e m u. absurd (opposite e refl); whole = λ x y o e. absurd (opposite e refl) };
    sound = nothing_derived ds order.own (names ds) order.declared order.are_declared;
    most = λ U B' down d x e u. absurd (opposite e refl);
  }

  judged : Judged ds A order.own
  judged = judge solve layout ds order.own order.units A shutA (λ x y. binding_mentions x y ds) order.groups (λ x. false) (λ x. false) order.declared order.order start

  pub faults_found : (xs : List Identifier) × AreTypeFaults A ds xs
  faults_found = faults solve layout ds order.own order.units A shutA judged

  pub none_where_typed : (B : Identifier → Scheme) → HasSchemes A ds B → (x : Identifier) → ¬ (IsTypeFault A ds x)
  none_where_typed B l = no_fault solve layout ds order.own order.units A shutA judged B l

  pub typed_where_none : AreTypeFaults A ds [] → (B : Identifier → Scheme) × HasSchemes A ds B
  typed_where_none f = typed_without_faults solve layout ds order.own order.units A shutA judged (λ x p. absurd ((f x).1 p)) order.groups order.order

  pub none_listed : (B : Identifier → Scheme) → HasSchemes A ds B → AreTypeFaults A ds []
  none_listed B l x = ((λ o. absurd o), (λ p. none_where_typed B l x p.1))

  pub verdict : (v : Verdict) × IsVerdict A ds v
  verdict = go faults_found (principal solve layout ds A shutA)
    where
      go : (xs : List Identifier) × AreTypeFaults A ds xs → ((B : Identifier → Scheme) × HasPrincipalSchemes A ds B) ⊎ ((B : Identifier → Scheme) → ¬ (HasSchemes A ds B)) → (v : Verdict) × IsVerdict A ds v
      go f (inl p) = (Good p.0, p.1)
      go ([], f) (inr n) = let t = typed_where_none f in absurd (n t.0 t.1)
      go (x ∷ xs, f) (inr n) = (Faulty (x ∷ xs), f)

  pub one_verdict : (B : Identifier → Scheme) (xs : List Identifier) → IsVerdict A ds (Good B) → ¬ (IsVerdict A ds (Faulty xs))
  one_verdict B [] p f = f
  one_verdict B (x ∷ xs) p f = none_where_typed B p.typed x ((f x).0 (inl refl)).1
