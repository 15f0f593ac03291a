-- A well-formed module whose imports are good is good or faulty, and not both.
use Rattle.std.proofs.Common.{◌≡◌, ℕ, List, [], ◌∷◌, Bool, true, inl, inr, ◌⊎◌, ⊎_elim, ◌↔◌}
use Rattle.hm_typing.specs.Names.{Identifier, IsOneOf, IsDistinct}
use Rattle.hm_typing.specs.Schemes.{Monotype}
use Rattle.hm_typing.specs.Assumptions.{Assumptions, IsClosed, AreAtMostAsGeneral}
use Rattle.hm_typing.specs.Syntax.{Bindings, names}
use Rattle.hm_typing.specs.Assignments.{Module, Assignment, outer, IsPrincipal}
use Rattle.hm_typing.specs.Verdicts.{IsImportedBy, IsGood, IsFaulty, IsLawful, AreTypeFaults, Faulty, IsVerdict}
use Rattle.hm_typing.specs.Problems.{Fact, Unifies, MostGeneralUnifier}
use Rattle.hm_typing.specs.Orders.{Layout}
use Rattle.hm_typing.proofs.FaultLists.{faults_under}
use Rattle.hm_typing.proofs.ListVerdicts.{faults_found, typed_where_none, none_where_typed}
use Rattle.hm_typing.proofs.ModuleSets.{outer_closed, outer_more, good_typed, typed_good}

faulty_under : (ds : Bindings) (A A' : Assumptions) → Layout ds → IsClosed A → IsClosed A' → AreAtMostAsGeneral A A' → AreAtMostAsGeneral A' A → (xs : List Identifier) → IsVerdict A ds (Faulty xs) → IsVerdict A' ds (Faulty xs)
faulty_under ds A A' order s s' m m' [] f = f
faulty_under ds A A' order s s' m m' (x ∷ xs) f = faults_under ds order.own order.units A A' s s' m m' (x ∷ xs) f

module _ (layout : (ds : Bindings) → IsDistinct (names ds) → Layout ds)
    (set : ℕ → Module) (prelude : List Identifier) (law : IsLawful set prelude) (WellFormed : ℕ → Type 0) (table : Assignment) (i : ℕ) (distinct : IsDistinct (names (set i).bindings)) (S : Assignment) (p : IsPrincipal set (IsImportedBy set i) prelude table S) where
  order : Layout (set i).bindings
  order = layout (set i).bindings distinct

  pub faulty_where : (xs : List Identifier) →
      IsFaulty set WellFormed prelude table i xs ↔ (((j : ℕ) → IsOneOf j (set i).imports → IsGood set WellFormed prelude table j) × WellFormed i × IsVerdict (outer (set i) S) (set i).bindings (Faulty xs))
  faulty_where xs = (
    (λ f. (
      f.imports_good,
      f.well_formed,
      faulty_under (set i).bindings _ _ order (outer_closed (set i) f.assignment) (outer_closed (set i) S)
          (outer_more set prelude law WellFormed table i S p f.assignment f.principal.valid) (outer_more set prelude law WellFormed table i f.assignment f.principal S p.valid) xs f.faults,
    )),
    (λ h. record { imports_good = h.0; well_formed = h.1; assignment = S; principal = p; faults = h.2 }),
  )

module _ (solve : (E : List Fact) → MostGeneralUnifier E ⊎ ((r : ℕ → Monotype) → Unifies r E → ⊥)) (layout : (ds : Bindings) → IsDistinct (names ds) → Layout ds)
    (set : ℕ → Module) (prelude : List Identifier) (law : IsLawful set prelude) (WellFormed : ℕ → Type 0) (table : Assignment) (i : ℕ) (distinct : IsDistinct (names (set i).bindings)) where
  pub good_or_faulty : (S : Assignment) → IsPrincipal set (IsImportedBy set i) prelude table S → WellFormed i → ((j : ℕ) → IsOneOf j (set i).imports → IsGood set WellFormed prelude table j) → IsGood set WellFormed prelude table i ⊎ ((xs : List Identifier) × IsFaulty set WellFormed prelude table i xs)
  good_or_faulty S p w g = go (faults_found solve layout (set i).bindings (outer (set i) S) distinct (outer_closed (set i) S))
    where
      go : (xs : List Identifier) × AreTypeFaults (outer (set i) S) (set i).bindings xs → IsGood set WellFormed prelude table i ⊎ ((xs : List Identifier) × IsFaulty set WellFormed prelude table i xs)
      go ([], f) = inl (typed_good set prelude law WellFormed table i S p w g (typed_where_none solve layout (set i).bindings (outer (set i) S) distinct (outer_closed (set i) S) f))
      go (x ∷ xs, f) = inr (x ∷ xs, record { imports_good = g; well_formed = w; assignment = S; principal = p; faults = f })

  pub not_both : (xs : List Identifier) → IsGood set WellFormed prelude table i → ¬ (IsFaulty set WellFormed prelude table i xs)
  not_both [] g f = f.faults
  not_both (x ∷ xs) g f =
      let l = good_typed set prelude law WellFormed table i f.assignment f.principal g in
      none_where_typed solve layout (set i).bindings (outer (set i) f.assignment) distinct (outer_closed (set i) f.assignment) l.0 l.1 x ((f.faults x).0 (inl Rattle.std.proofs.Common.refl)).1
