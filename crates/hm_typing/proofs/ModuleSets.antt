-- A module is good where its imports are and its own list is typed under their principal assignment.
use Rattle.std.proofs.Common.{◌≡◌, ℕ, List, ◌∷◌, inl, inr, ◌⊎◌, ⊎_elim, refl, sym, ap, ◌∙◌, subst, ◌<◌, ◌≤◌, arith}
use Rattle.hm_types.specs.Types.{Var, put}
use Rattle.hm_typing.specs.Names.{Identifier, IsOneOf}
use Rattle.hm_typing.specs.Schemes.{Monotype, Scheme, Free, Quantified, IsAtMostAsGeneral, closed}
use Rattle.hm_typing.specs.Assumptions.{Assumptions, empty, bind_all, IsClosed, FreeIn, AreAtMostAsGeneral}
use Rattle.hm_typing.specs.Decisions.{is_free_in}
use Rattle.hm_typing.specs.Generalisation.{quantified_unless, quantify}
use Rattle.hm_typing.specs.Syntax.{Bindings, no_binding, unsigned, signed, matched, matched_names, names}
use Rattle.hm_typing.specs.Typing.{HasClauses, HasBindings}
use Rattle.hm_typing.specs.BindingLists.{HasSchemes, HasPrincipalSchemes}
use Rattle.hm_typing.specs.Assignments.{Module, Assignment, outer, IsValid, IsPrincipal}
use Rattle.hm_typing.specs.Verdicts.{InClosure, itself, imported, IsImportedBy, IsGood, IsLawful}
use Rattle.hm_typing.proofs.Types.{put-agree}
use Rattle.hm_typing.proofs.Names.{name_discrete}
use Rattle.hm_typing.proofs.Bind.{is_one_of, bind_all-agree, FreeIn-bind_all}
use Rattle.hm_typing.proofs.Local.{IsOneOf-left, IsOneOf-right}
use Rattle.hm_typing.proofs.Matching.{one_of, own_name}
use Rattle.hm_typing.proofs.Bridge.{more-all, In_closed, HasSchemes-more}

-- Closed assumptions

pub bound_closed : (xs : List Identifier) (S : Assignment) → IsClosed (bind_all xs (λ x. closed (S x)) empty)
bound_closed xs S a f = ⊎_elim (λ h. In_closed (S h.0) a h.2) (λ h. h) (FreeIn-bind_all xs (λ x. closed (S x)) empty a f)

pub outer_closed : (m : Module) (S : Assignment) → IsClosed (outer m S)
outer_closed m S = bound_closed m.scope S

pub quantify_closed : (A : Assumptions) → IsClosed A → (t : Monotype) → quantify A t ≡ closed t
quantify_closed A shut t = put-agree _ _ t (λ a i. ap Var (at a (is_free_in a A)))
  where
    at : (a : ℕ) (d : Dec (FreeIn a A)) → quantified_unless d a ≡ Quantified a
    at a (yes f) = absurd (shut a f)
    at a (no n) = refl

-- Schemes that agree on a list's names

list_same : (A : Assumptions) (sees : Identifier → Assumptions) (sees' : Identifier → Assumptions) (ts : Identifier → Monotype) (B B' : Identifier → Scheme) (D : Bindings) →
    ((x : Identifier) → IsOneOf x (names D) → sees x ≡ sees' x) → ((x : Identifier) → IsOneOf x (names D) → B x ≡ B' x) → HasBindings A sees ts B D → HasBindings A sees' ts B' D
list_same A sees sees' ts B B' no_binding e f h = tt
list_same A sees sees' ts B B' (unsigned x cs D) e f h = (
  (sym (f x (inl refl)) ∙ h.0.0, subst (λ C. HasClauses C cs (ts x)) (e x (inl refl)) h.0.1),
  list_same A sees sees' ts B B' D (λ y o. e y (inr o)) (λ y o. f y (inr o)) h.1,
)
list_same A sees sees' ts B B' (signed x s cs D) e f h = (
  (sym (f x (inl refl)) ∙ h.0.0, record { variables = h.0.1.variables; are_new = h.0.1.are_new; typed = subst (λ C. HasClauses C cs (put (λ i. Var (h.0.1.variables i)) s)) (e x (inl refl)) h.0.1.typed }),
  list_same A sees sees' ts B B' D (λ y o. e y (inr o)) (λ y o. f y (inr o)) h.1,
)
list_same A sees sees' ts B B' (matched k p cs D) e f h = (
  record {
    fits = h.0.fits;
    right_sides = subst (λ C. HasClauses C cs (ts k)) (e k (IsOneOf-left k (matched_names k p) (names D) (own_name k p))) h.0.right_sides;
    quantified = λ x o. sym (f x (IsOneOf-left x (matched_names k p) (names D) o)) ∙ h.0.quantified x o;
  },
  list_same A sees sees' ts B B' D (λ y o. e y (IsOneOf-right y (matched_names k p) (names D) o)) (λ y o. f y (IsOneOf-right y (matched_names k p) (names D) o)) h.1,
)

pub HasSchemes-agree : (A A' : Assumptions) (ds : Bindings) (B B' : Identifier → Scheme) → A ≡ A' → ((x : Identifier) → IsOneOf x (names ds) → B x ≡ B' x) → HasSchemes A ds B → HasSchemes A' ds B'
HasSchemes-agree A A' ds B B' e f l = subst (λ C. HasSchemes C ds B') e (record {
  own = l.own;
  units = l.units;
  types = l.types;
  bindings = list_same A _ _ l.types B B' ds
      (λ x o. bind_all-agree (names ds) _ _ A A (λ y p. ap (Rattle.std.specs.Prelude.cond (l.own x y) _) (f y p)) refl) f l.bindings;
})

-- the schemes of a typed list, as the bodies of an assignment
abbrev pub body_of : Bindings → (Identifier → Monotype) → Assignment → Assignment
body_of no_binding ts S x = S x
body_of (unsigned z cs D) ts S x = elim (name_discrete x z) [ yes e ↦ ts x | no n ↦ body_of D ts S x ]
body_of (signed z s cs D) ts S x = elim (name_discrete x z) [ yes e ↦ s | no n ↦ body_of D ts S x ]
body_of (matched k p cs D) ts S x = elim (is_one_of x (matched_names k p)) [ yes o ↦ ts x | no n ↦ body_of D ts S x ]

pub body_out : (D : Bindings) (ts : Identifier → Monotype) (S : Assignment) (x : Identifier) → ¬ (IsOneOf x (names D)) → body_of D ts S x ≡ S x
body_out no_binding ts S x n = refl
body_out (unsigned z cs D) ts S x n = go (name_discrete x z) (body_out D ts S x (λ o. n (inr o)))
  where
    go : (d : Dec (x ≡ z)) → body_of D ts S x ≡ S x → elim d [ yes e ↦ ts x | no m ↦ body_of D ts S x ] ≡ S x
    go (yes e) ih = absurd (n (inl e))
    go (no m) ih = ih
body_out (signed z s cs D) ts S x n = go (name_discrete x z) (body_out D ts S x (λ o. n (inr o)))
  where
    go : (d : Dec (x ≡ z)) → body_of D ts S x ≡ S x → elim d [ yes e ↦ s | no m ↦ body_of D ts S x ] ≡ S x
    go (yes e) ih = absurd (n (inl e))
    go (no m) ih = ih
body_out (matched k p cs D) ts S x n = go (is_one_of x (matched_names k p)) (body_out D ts S x (λ o. n (IsOneOf-right x (matched_names k p) (names D) o)))
  where
    go : (d : Dec (IsOneOf x (matched_names k p))) → body_of D ts S x ≡ S x → elim d [ yes o ↦ ts x | no m ↦ body_of D ts S x ] ≡ S x
    go (yes o) ih = absurd (n (IsOneOf-left x (matched_names k p) (names D) o))
    go (no m) ih = ih

pub body_in : (A : Assumptions) → IsClosed A → (sees : Identifier → Assumptions) (ts : Identifier → Monotype) (B : Identifier → Scheme) (S : Assignment) (D : Bindings) → HasBindings A sees ts B D → (x : Identifier) → IsOneOf x (names D) → B x ≡ closed (body_of D ts S x)
body_in A shut sees ts B S no_binding h x o = absurd o
body_in A shut sees ts B S (unsigned z cs D) h x o = go (name_discrete x z) o (body_in A shut sees ts B S D h.1 x)
  where
    go : (d : Dec (x ≡ z)) → IsOneOf x (z ∷ names D) → (IsOneOf x (names D) → B x ≡ closed (body_of D ts S x)) → B x ≡ closed (elim d [ yes e ↦ ts x | no m ↦ body_of D ts S x ])
    go (yes e) p ih = subst (λ v. B v ≡ closed (ts v)) (sym e) (h.0.0 ∙ quantify_closed A shut (ts z))
    go (no m) (inl e) ih = absurd (m e)
    go (no m) (inr p) ih = ih p
body_in A shut sees ts B S (signed z s cs D) h x o = go (name_discrete x z) o (body_in A shut sees ts B S D h.1 x)
  where
    go : (d : Dec (x ≡ z)) → IsOneOf x (z ∷ names D) → (IsOneOf x (names D) → B x ≡ closed (body_of D ts S x)) → B x ≡ closed (elim d [ yes e ↦ s | no m ↦ body_of D ts S x ])
    go (yes e) p ih = ap B e ∙ h.0.0
    go (no m) (inl e) ih = absurd (m e)
    go (no m) (inr p) ih = ih p
body_in A shut sees ts B S (matched k p cs D) h x o = go (is_one_of x (matched_names k p)) (one_of x (matched_names k p) (names D) o) (body_in A shut sees ts B S D h.1 x)
  where
    go : (d : Dec (IsOneOf x (matched_names k p))) → IsOneOf x (matched_names k p) ⊎ IsOneOf x (names D) → (IsOneOf x (names D) → B x ≡ closed (body_of D ts S x)) → B x ≡ closed (elim d [ yes q ↦ ts x | no m ↦ body_of D ts S x ])
    go (yes q) s ih = h.0.quantified x q ∙ quantify_closed A shut (ts x)
    go (no m) (inl q) ih = absurd (m q)
    go (no m) (inr q) ih = ih q

-- Closures

pub closure_trans : (set : ℕ → Module) {i j k : ℕ} → InClosure set i j → InClosure set j k → InClosure set i k
closure_trans set itself q = q
closure_trans set (imported o p) q = imported o (closure_trans set p q)

pub below_closure : (set : ℕ → Module) (i : ℕ) {k : ℕ} → IsImportedBy set i k → InClosure set i k
below_closure set i p = imported p.1 p.2

module _ (set : ℕ → Module) (prelude : List Identifier) (law : IsLawful set prelude) where
  closure_rank : {i k : ℕ} → InClosure set i k → law.rank k ≤ law.rank i
  closure_rank itself = omega arith
  closure_rank (imported {i} {j} {k} o p) = step (law.acyclic i j o) (closure_rank p)
    where
      step : law.rank j < law.rank i → law.rank k ≤ law.rank j → law.rank k ≤ law.rank i
      step a b = omega arith

  pub imported_rank : (i k : ℕ) → IsImportedBy set i k → law.rank k < law.rank i
  imported_rank i k p = step (law.acyclic i p.0 p.1) (closure_rank p.2)
    where
      step : law.rank p.0 < law.rank i → law.rank k ≤ law.rank p.0 → law.rank k < law.rank i
      step a b = omega arith

  -- the names of a module stand in the scope of no module that it reaches
  pub scope_apart : (i k : ℕ) (x : Identifier) → InClosure set i k → IsOneOf x (set k).scope → ¬ (IsOneOf x (names (set i).bindings))
  scope_apart i k x p o q = ⊎_elim (λ h. law.not_prelude i x q h)
      (λ h. let e = law.apart i h.0 x q h.2 in less e (imported_rank k h.0 h.1) (closure_rank p)) (law.known k x o)
    where
      less : {j : ℕ} → i ≡ j → law.rank j < law.rank k → law.rank k ≤ law.rank i → ⊥
      less {j} e a b = let c : law.rank i ≡ law.rank j = ap law.rank e in absurd (omega arith)

  pub names_apart : (i k : ℕ) (x : Identifier) → IsImportedBy set i k → IsOneOf x (names (set k).bindings) → ¬ (IsOneOf x (names (set i).bindings))
  names_apart i k x p o q = less (law.apart i k x q o) (imported_rank i k p)
    where
      less : i ≡ k → law.rank k < law.rank i → ⊥
      less e a = let c : law.rank i ≡ law.rank k = ap law.rank e in absurd (omega arith)

  module _ (WellFormed : ℕ → Type 0) (table : Assignment) (i : ℕ) (S : Assignment) (p : IsPrincipal set (IsImportedBy set i) prelude table S) where
    -- what is assumed under any other valid assignment is at most as general
    pub outer_more : (S' : Assignment) → IsValid set (IsImportedBy set i) prelude table S' → AreAtMostAsGeneral (outer (set i) S') (outer (set i) S)
    outer_more S' v = more-all (set i).scope _ _ empty empty
        (λ x o. ⊎_elim
        (λ h. subst (λ w. IsAtMostAsGeneral (closed (S' x)) (closed w)) (v.given x h ∙ sym (p.valid.given x h)) (λ t k. k))
        (λ h. p.most S' v h.0 x h.1 h.2) (law.known i x o))
        (λ x t h. h)

    pub good_typed : IsGood set WellFormed prelude table i → (B : Identifier → Scheme) × HasSchemes (outer (set i) S) (set i).bindings B
    good_typed g =
        let l = HasSchemes-more (set i).bindings _ _ _ (outer_more g.assignment (record { given = g.valid.given; typed = λ k q. g.valid.typed k (below_closure set i q) })) (g.valid.typed i itself) in
        (l.0, l.1)

    pub import_good : IsGood set WellFormed prelude table i → (j : ℕ) → IsOneOf j (set i).imports → IsGood set WellFormed prelude table j
    import_good g j o = record {
      well_formed = λ k q. g.well_formed k (imported o q);
      assignment = g.assignment;
      valid = record { given = g.valid.given; typed = λ k q. g.valid.typed k (imported o q) };
    }

    module _ (B : Identifier → Scheme) (l : HasSchemes (outer (set i) S) (set i).bindings B) where
      -- S, with the module's own schemes
      abbrev pub extended : Assignment
      extended = body_of (set i).bindings l.types S

      pub extended_out : (x : Identifier) → ¬ (IsOneOf x (names (set i).bindings)) → extended x ≡ S x
      extended_out x n = body_out (set i).bindings l.types S x n

      pub extended_in : (x : Identifier) → IsOneOf x (names (set i).bindings) → B x ≡ closed (extended x)
      extended_in x o = body_in (outer (set i) S) (outer_closed (set i) S) _ l.types B S (set i).bindings l.bindings x o

      outer_same : (k : ℕ) → InClosure set i k → outer (set k) S ≡ outer (set k) extended
      outer_same k q = bind_all-agree (set k).scope _ _ empty empty (λ x o. ap closed (sym (extended_out x (scope_apart i k x q o)))) refl

      typed_at : (k : ℕ) → InClosure set i k → HasSchemes (outer (set k) extended) (set k).bindings (λ x. closed (extended x))
      typed_at k itself = HasSchemes-agree _ _ (set i).bindings B (λ x. closed (extended x)) (outer_same i itself) extended_in l
      typed_at k (imported {i = h} {j} o q) = HasSchemes-agree _ _ (set k).bindings (λ x. closed (S x)) (λ x. closed (extended x)) (outer_same k (imported o q))
          (λ x r. ap closed (sym (extended_out x (names_apart i k x (j, o, q) r)))) (p.valid.typed k (j, o, q))

      pub extended_valid : IsValid set (InClosure set i) prelude table extended
      extended_valid = record {
        given = λ x o. extended_out x (λ q. law.not_prelude i x q o) ∙ p.valid.given x o;
        typed = typed_at;
      }

    pub typed_good : WellFormed i → ((j : ℕ) → IsOneOf j (set i).imports → IsGood set WellFormed prelude table j) → (B : Identifier → Scheme) × HasSchemes (outer (set i) S) (set i).bindings B → IsGood set WellFormed prelude table i
    typed_good w g l = record {
      well_formed = well;
      assignment = extended l.0 l.1;
      valid = extended_valid l.0 l.1;
    }
      where
        well : (k : ℕ) → InClosure set i k → WellFormed k
        well k itself = w
        well k (imported {i = h} {j} o q) = (g j o).well_formed k q

    -- and with the list's principal schemes the extended assignment is principal
    pub extended_principal : (B : Identifier → Scheme) (q : HasPrincipalSchemes (outer (set i) S) (set i).bindings B) → IsPrincipal set (InClosure set i) prelude table (extended B q.typed)
    extended_principal B q = record { valid = extended_valid B q.typed; most = λ S' v k x c o. most S' v k x c o }
      where
        most : (S' : Assignment) → IsValid set (InClosure set i) prelude table S' → (k : ℕ) (x : Identifier) → InClosure set i k → IsOneOf x (names (set k).bindings) → IsAtMostAsGeneral (closed (S' x)) (closed (extended B q.typed x))
        most S' v k x itself o =
            let v' : IsValid set (IsImportedBy set i) prelude table S' = record { given = v.given; typed = λ h c. v.typed h (below_closure set i c) } in
            let l = HasSchemes-more (set i).bindings _ _ _ (outer_more S' v') (v.typed i itself) in
            λ t j. subst (λ σ. Rattle.hm_typing.specs.Schemes.IsInstance t σ) (extended_in B q.typed x o) (q.most l.0 l.1 x o t (l.2 x o t j))
        most S' v k x (imported {i = h} {j} e c) o =
            let v' : IsValid set (IsImportedBy set i) prelude table S' = record { given = v.given; typed = λ n d. v.typed n (below_closure set i d) } in
            subst (λ w. IsAtMostAsGeneral (closed (S' x)) (closed w)) (sym (extended_out B q.typed x (names_apart i k x (j, e, c) o))) (p.most S' v' k x (j, e, c) o)
