-- Where the imports of a module are good, all that it imports has a principal assignment; and whether a module is good is decided.
use Rattle.std.proofs.Common.{◌≡◌, ℕ, zero, suc, List, [], ◌∷◌, inl, inr, ◌⊎◌, ⊎_elim, refl, sym, ap, ◌∙◌, subst, ◌<◌, arith}
use Rattle.hm_typing.specs.Names.{Identifier, IsOneOf, IsDistinct}
use Rattle.hm_typing.specs.Schemes.{Scheme, IsInstance, closed}
use Rattle.hm_typing.specs.Assumptions.{Assumptions, empty}
use Rattle.hm_typing.specs.Syntax.{Bindings, names}
use Rattle.hm_typing.specs.BindingLists.{HasSchemes, HasPrincipalSchemes}
use Rattle.hm_typing.specs.Assignments.{Module, Assignment, outer, IsPrincipal}
use Rattle.hm_typing.specs.Verdicts.{InClosure, itself, imported, IsImportedBy, IsGood, IsSkipped, IsFaulty, IsLawful}
use Rattle.hm_typing.proofs.Bind.{bind_all-agree}
use Rattle.hm_typing.proofs.Ordering.{layout}
use Rattle.hm_typing.proofs.Unifying.{unification, is_member}
use Rattle.hm_typing.proofs.Principal.{principal}
use Rattle.hm_typing.proofs.SetVerdicts.{good_or_faulty}
use Rattle.hm_typing.proofs.Closure.{composed}
use Rattle.hm_typing.proofs.ModuleSets.{HasSchemes-agree, outer_closed, body_of, body_in, body_out, closure_trans, imported_rank, good_typed, typed_good}

principal_agree : (A A' : Assumptions) (ds : Bindings) (B B' : Identifier → Scheme) → A ≡ A' → ((x : Identifier) → IsOneOf x (names ds) → B x ≡ B' x) → HasPrincipalSchemes A ds B → HasPrincipalSchemes A' ds B'
principal_agree A A' ds B B' e f p = record {
  typed = HasSchemes-agree A A' ds B B' e f p.typed;
  most = λ C l x o t i. subst (IsInstance t) (f x o) (p.most C (HasSchemes-agree A' A ds C C (sym e) (λ y q. refl) l) x o t i);
}

module _ (set : ℕ → Module) (prelude : List Identifier) (law : IsLawful set prelude) (WellFormed : ℕ → Type 0) (table : Assignment) where
  -- modules with all that they import, and an assignment that gives each of them its principal schemes
  record Settled : Type 0 where
    members : List ℕ
    chosen : Assignment
    whole : (k j : ℕ) → IsOneOf k members → IsOneOf j (set k).imports → IsOneOf j members
    given : (x : Identifier) → IsOneOf x prelude → chosen x ≡ table x
    each : (k : ℕ) → IsOneOf k members → HasPrincipalSchemes (outer (set k) chosen) (set k).bindings (λ x. closed (chosen x))

  nothing_settled : Settled
  nothing_settled = record { members = []; chosen = table; whole = λ k j o p. absurd o; given = λ x o. refl; each = λ k o. absurd o }

  closure_settled : (s : Settled) (k j : ℕ) → IsOneOf k s.members → InClosure set k j → IsOneOf j s.members
  closure_settled s k j o itself = o
  closure_settled s k j o (imported {j = h} p q) = closure_settled s h j (s.whole k h o p) q

  -- it is principal for each set of them that has what it imports
  settled_principal : (s : Settled) (M : ℕ → Type 0) → ((k : ℕ) → M k → IsOneOf k s.members) → ((k j : ℕ) → M k → InClosure set k j → M j) → IsPrincipal set M prelude table s.chosen
  settled_principal s M sub down = composed set M prelude table law.rank s.chosen
      (λ i x m o. ⊎_elim inl (λ h. inr (h.0, down i h.0 m (imported h.1.1 h.1.2), imported_rank set prelude law i h.0 h.1, h.2)) (law.known i x o))
      s.given (λ i m. s.each i (sub i m))

  imports_principal : (s : Settled) (i : ℕ) → ((j : ℕ) → IsOneOf j (set i).imports → IsOneOf j s.members) → IsPrincipal set (IsImportedBy set i) prelude table s.chosen
  imports_principal s i sub = settled_principal s (IsImportedBy set i) (λ k p. closure_settled s p.0 k (sub p.0 p.1) p.2) (λ k j p q. (p.0, p.1, closure_trans set p.2 q))

  -- one more
  module _ (s : Settled) (i : ℕ) (new : ¬ (IsOneOf i s.members)) (sub : (j : ℕ) → IsOneOf j (set i).imports → IsOneOf j s.members) (B : Identifier → Scheme) (p : HasPrincipalSchemes (outer (set i) s.chosen) (set i).bindings B) where
    next : Assignment
    next = body_of (set i).bindings p.typed.types s.chosen

    next_out : (x : Identifier) → ¬ (IsOneOf x (names (set i).bindings)) → next x ≡ s.chosen x
    unfolding next
    next_out x n = body_out (set i).bindings p.typed.types s.chosen x n

    next_in : (x : Identifier) → IsOneOf x (names (set i).bindings) → B x ≡ closed (next x)
    unfolding next
    next_in x o = body_in (outer (set i) s.chosen) (outer_closed (set i) s.chosen) _ p.typed.types B s.chosen (set i).bindings p.typed.bindings x o

    names_out : (k : ℕ) (x : Identifier) → IsOneOf k s.members → IsOneOf x (names (set k).bindings) → ¬ (IsOneOf x (names (set i).bindings))
    names_out k x m o q = new (subst (λ h. IsOneOf h s.members) (sym (law.apart i k x q o)) m)

    scope_out : (k : ℕ) (x : Identifier) → ((j : ℕ) → IsImportedBy set k j → IsOneOf j s.members) → IsOneOf x (set k).scope → ¬ (IsOneOf x (names (set i).bindings))
    scope_out k x m o q = ⊎_elim (λ h. law.not_prelude i x q h) (λ h. names_out h.0 x (m h.0 h.1) h.2 q) (law.known k x o)

    outer_next : (k : ℕ) → ((j : ℕ) → IsImportedBy set k j → IsOneOf j s.members) → outer (set k) s.chosen ≡ outer (set k) next
    outer_next k m = bind_all-agree (set k).scope _ _ empty empty (λ x o. ap closed (sym (next_out x (scope_out k x m o)))) refl

    below_new : (j : ℕ) → IsImportedBy set i j → IsOneOf j s.members
    below_new j q = closure_settled s q.0 j (sub q.0 q.1) q.2

    below_old : (k : ℕ) → IsOneOf k s.members → (j : ℕ) → IsImportedBy set k j → IsOneOf j s.members
    below_old k o j q = closure_settled s k j o (imported q.1 q.2)

    one_more : Settled
    one_more = record {
      members = i ∷ s.members;
      chosen = next;
      whole = λ k j o q. inr (⊎_elim (λ e. sub j (subst (λ h. IsOneOf j (set h).imports) e q)) (λ m. s.whole k j m q) o);
      given = λ x o. next_out x (λ q. law.not_prelude i x q o) ∙ s.given x o;
      each = λ k o. ⊎_elim
          (λ e. subst (λ h. HasPrincipalSchemes (outer (set h) next) (set h).bindings (λ x. closed (next x))) (sym e)
          (principal_agree _ _ (set i).bindings B (λ x. closed (next x)) (outer_next i below_new) next_in p))
          (λ m. principal_agree _ _ (set k).bindings (λ x. closed (s.chosen x)) (λ x. closed (next x)) (outer_next k (below_old k m)) (λ x q. ap closed (sym (next_out x (names_out k x m q)))) (s.each k m))
          o;
    }

  abbrev Good_ : ℕ → Type 0
  Good_ i = IsGood set WellFormed prelude table i

  -- and these beside
  abbrev More : Settled → (ℕ → Type 0) → Type 0
  More s Wanted = (s' : Settled) × ((k : ℕ) → IsOneOf k s.members → IsOneOf k s'.members) × ((k : ℕ) → Wanted k → IsOneOf k s'.members)

  settle_all : (js : List ℕ) → ((j : ℕ) → IsOneOf j js → (s : Settled) → More s (λ k. k ≡ j)) → (s : Settled) → More s (λ k. IsOneOf k js)
  settle_all [] f s = (s, (λ k o. o), (λ k o. absurd o))
  settle_all (j ∷ js) f s =
      let a = f j (inl refl) s in
      let b = settle_all js (λ k o. f k (inr o)) a.0 in
      (b.0, (λ k o. b.1 k (a.1 k o)), (λ k o. ⊎_elim (λ e. b.1 k (a.2 k e)) (λ p. b.2 k p) o))

  add_one : (i : ℕ) → Good_ i → (s : Settled) → ((j : ℕ) → IsOneOf j (set i).imports → IsOneOf j s.members) → More s (λ k. k ≡ i)
  unfolding one_more
  add_one i good s sub = go (is_member i s.members)
    where
      typed : (B : Identifier → Scheme) × HasSchemes (outer (set i) s.chosen) (set i).bindings B
      typed = good_typed set prelude law WellFormed table i s.chosen (imports_principal s i sub) good

      go : Dec (IsOneOf i s.members) → More s (λ k. k ≡ i)
      go (yes o) = (s, (λ k m. m), (λ k e. subst (λ h. IsOneOf h s.members) (sym e) o))
      go (no n) = at (principal unification layout (set i).bindings (outer (set i) s.chosen) (outer_closed (set i) s.chosen))
        where
          at : ((B : Identifier → Scheme) × HasPrincipalSchemes (outer (set i) s.chosen) (set i).bindings B) ⊎ ((B : Identifier → Scheme) → ¬ (HasSchemes (outer (set i) s.chosen) (set i).bindings B)) → More s (λ k. k ≡ i)
          at (inl p) = (one_more s i n sub p.0 p.1, members_kept, members_new)
            where
              members_kept : (k : ℕ) → IsOneOf k s.members → IsOneOf k (one_more s i n sub p.0 p.1).members
              members_kept k m = inr m

              members_new : (k : ℕ) → k ≡ i → IsOneOf k (one_more s i n sub p.0 p.1).members
              members_new k e = inl e
          at (inr never) = absurd (never typed.0 typed.1)

  settle : (n i : ℕ) → law.rank i < n → Good_ i → (s : Settled) → More s (λ k. k ≡ i)
  settle zero i l good s = absurd (omega arith)
  settle (suc n) i l good s =
      let a = settle_all (set i).imports (λ j o. settle n j (let h = law.acyclic i j o in omega arith) (import_good_of i good j o)) s in
      let b = add_one i good a.0 a.2 in
      (b.0, (λ k o. b.1 k (a.1 k o)), b.2)
    where
      import_good_of : (i : ℕ) → Good_ i → (j : ℕ) → IsOneOf j (set i).imports → Good_ j
      import_good_of i g j o = record {
        well_formed = λ k q. g.well_formed k (imported o q);
        assignment = g.assignment;
        valid = record { given = g.valid.given; typed = λ k q. g.valid.typed k (imported o q) };
      }

  pub principal_of_imports : (i : ℕ) → ((j : ℕ) → IsOneOf j (set i).imports → Good_ j) → (S : Assignment) × IsPrincipal set (IsImportedBy set i) prelude table S
  principal_of_imports i good =
      let a = settle_all (set i).imports (λ j o. settle (suc (law.rank j)) j (omega arith) (good j o)) nothing_settled in
      (a.0.chosen, imports_principal a.0 i a.2)

  pub principal_of_good : (i : ℕ) → Good_ i → (S : Assignment) × IsPrincipal set (InClosure set i) prelude table S
  principal_of_good i good =
      let a = settle (suc (law.rank i)) i (omega arith) good nothing_settled in
      (a.0.chosen, settled_principal a.0 (InClosure set i) (λ k q. closure_settled a.0 i k (a.2 i refl) q) (λ k j p q. closure_trans set p q))

  -- Whether a module is good

  module _ (well : (k : ℕ) → Dec (WellFormed k)) where
    all_good : (js : List ℕ) → ((j : ℕ) → IsOneOf j js → Dec (Good_ j)) → ((j : ℕ) → IsOneOf j js → Good_ j) ⊎ ((j : ℕ) × IsOneOf j js × ¬ (Good_ j))
    all_good [] f = inl (λ j o. absurd o)
    all_good (j ∷ js) f = go (f j (inl refl)) (all_good js (λ k o. f k (inr o)))
      where
        go : Dec (Good_ j) → ((k : ℕ) → IsOneOf k js → Good_ k) ⊎ ((k : ℕ) × IsOneOf k js × ¬ (Good_ k)) → ((k : ℕ) → IsOneOf k (j ∷ js) → Good_ k) ⊎ ((k : ℕ) × IsOneOf k (j ∷ js) × ¬ (Good_ k))
        go (no n) r = inr (j, inl refl, n)
        go (yes g) (inr r) = inr (r.0, inr r.1, r.2)
        go (yes g) (inl r) = inl (λ k o. ⊎_elim (λ e. subst Good_ (sym e) g) (λ p. r k p) o)

    decide_with : (i : ℕ) → ((j : ℕ) → IsOneOf j (set i).imports → Good_ j) ⊎ ((j : ℕ) × IsOneOf j (set i).imports × ¬ (Good_ j)) → Dec (Good_ i)
    decide_with i (inr r) = no (λ g. r.2 (record {
      well_formed = λ k q. g.well_formed k (imported r.1 q);
      assignment = g.assignment;
      valid = record { given = g.valid.given; typed = λ k q. g.valid.typed k (imported r.1 q) };
    }))
    decide_with i (inl good) = go (well i) (principal unification layout (set i).bindings (outer (set i) p.0) (outer_closed (set i) p.0))
      where
        p : (S : Assignment) × IsPrincipal set (IsImportedBy set i) prelude table S
        p = principal_of_imports i good

        go : Dec (WellFormed i) → ((B : Identifier → Scheme) × HasPrincipalSchemes (outer (set i) p.0) (set i).bindings B) ⊎ ((B : Identifier → Scheme) → ¬ (HasSchemes (outer (set i) p.0) (set i).bindings B)) → Dec (Good_ i)
        go (no n) r = no (λ g. n (g.well_formed i itself))
        go (yes w) (inl q) = yes (typed_good set prelude law WellFormed table i p.0 p.1 w good (q.0, q.1.typed))
        go (yes w) (inr never) = no (λ g. let t = good_typed set prelude law WellFormed table i p.0 p.1 g in never t.0 t.1)

    decide_below : (n i : ℕ) → law.rank i < n → Dec (Good_ i)
    decide_below zero i l = absurd (omega arith)
    decide_below (suc n) i l = decide_with i (all_good (set i).imports (λ j o. decide_below n j (let h = law.acyclic i j o in omega arith)))

    pub is_good : (i : ℕ) → Dec (Good_ i)
    is_good i = decide_below (suc (law.rank i)) i (omega arith)

    pub imports_good : (i : ℕ) → ((j : ℕ) → IsOneOf j (set i).imports → Good_ j) ⊎ IsSkipped set WellFormed prelude table i
    imports_good i = all_good (set i).imports (λ j o. is_good j)

-- one of three
pub verdict_of : (set : ℕ → Module) (prelude : List Identifier) (law : IsLawful set prelude) (WellFormed : ℕ → Type 0) (table : Assignment) → ((k : ℕ) → Dec (WellFormed k)) → (i : ℕ) → IsDistinct (names (set i).bindings) → WellFormed i →
    IsGood set WellFormed prelude table i ⊎ (IsSkipped set WellFormed prelude table i ⊎ ((xs : List Identifier) × IsFaulty set WellFormed prelude table i xs))
verdict_of set prelude law WellFormed table well i distinct w = go (imports_good set prelude law WellFormed table well i)
  where
    go : ((j : ℕ) → IsOneOf j (set i).imports → IsGood set WellFormed prelude table j) ⊎ IsSkipped set WellFormed prelude table i → IsGood set WellFormed prelude table i ⊎ (IsSkipped set WellFormed prelude table i ⊎ ((xs : List Identifier) × IsFaulty set WellFormed prelude table i xs))
    go (inr s) = inr (inl s)
    go (inl good) =
        let p = principal_of_imports set prelude law WellFormed table i good in
        ⊎_elim inl (λ f. inr (inr f)) (good_or_faulty unification layout set prelude law WellFormed table i distinct p.0 p.1 w good)
