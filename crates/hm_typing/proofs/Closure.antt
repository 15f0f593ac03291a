-- Principal assignments compose over the import order.
use Rattle.std.proofs.Common.{◌≡◌, ℕ, zero, suc, List, ◌⊎◌, ⊎_elim, sym, ◌∙◌, subst, ◌<◌, arith}
use Rattle.hm_typing.specs.Names.{Identifier, IsOneOf}
use Rattle.hm_typing.specs.Schemes.{Monotype, IsAtMostAsGeneral, closed}
use Rattle.hm_typing.specs.Assumptions.{empty, AreAtMostAsGeneral}
use Rattle.hm_typing.specs.Syntax.{names}
use Rattle.hm_typing.specs.BindingLists.{HasPrincipalSchemes}
use Rattle.hm_typing.specs.Assignments.{Module, outer, IsValid, IsPrincipal}
use Rattle.hm_typing.proofs.Bridge.{more-all, HasSchemes-more}

-- each entity in a module's scope is Prelude's, or of a module of M of a lower rank
abbrev pub IsClosedUnder : (ℕ → Module) → (ℕ → Type 0) → List Identifier → (ℕ → ℕ) → Type 0
IsClosedUnder set M prelude rank = (i : ℕ) (x : Identifier) → M i → IsOneOf x (set i).scope → IsOneOf x prelude ⊎ ((j : ℕ) × M j × (rank j < rank i) × IsOneOf x (names (set j).bindings))

pub most_below : (set : ℕ → Module) (M : ℕ → Type 0) (prelude : List Identifier) (table : Identifier → Monotype) (rank : ℕ → ℕ) (S S' : Identifier → Monotype) → IsClosedUnder set M prelude rank →
    ((x : Identifier) → IsOneOf x prelude → S x ≡ table x) → ((i : ℕ) → M i → HasPrincipalSchemes (outer (set i) S) (set i).bindings (λ x. closed (S x))) → IsValid set M prelude table S' →
    (n i : ℕ) (x : Identifier) → rank i < n → M i → IsOneOf x (names (set i).bindings) → IsAtMostAsGeneral (closed (S' x)) (closed (S x))
most_below set M prelude table rank S S' c g p v zero i x l m o = absurd (omega arith)
most_below set M prelude table rank S S' c g p v (suc n) i x l m o =
    let more : AreAtMostAsGeneral (outer (set i) S') (outer (set i) S) =
    more-all (set i).scope _ _ empty empty
    (λ y k. ⊎_elim
    (λ h. subst (λ w. IsAtMostAsGeneral (closed (S' y)) (closed w)) (v.given y h ∙ sym (g y h)) (λ t j. j))
    (λ h. most_below set M prelude table rank S S' c g p v n h.0 y (let a = h.2 in omega arith) h.1 h.3)
    (c i y m k))
    (λ y t h. h) in
    let l' = HasSchemes-more (set i).bindings _ _ _ more (v.typed i m) in
    λ t j. (p i m).most l'.0 l'.1 x o t (l'.2 x o t j)

-- where each module's schemes are principal for those of its imports, the whole is principal
pub composed : (set : ℕ → Module) (M : ℕ → Type 0) (prelude : List Identifier) (table : Identifier → Monotype) (rank : ℕ → ℕ) (S : Identifier → Monotype) → IsClosedUnder set M prelude rank →
    ((x : Identifier) → IsOneOf x prelude → S x ≡ table x) → ((i : ℕ) → M i → HasPrincipalSchemes (outer (set i) S) (set i).bindings (λ x. closed (S x))) → IsPrincipal set M prelude table S
composed set M prelude table rank S c g p = record {
  valid = record { given = g; typed = λ i m. (p i m).typed };
  most = λ S' v i x m o. most_below set M prelude table rank S S' c g p v (suc (rank i)) i x (omega arith) m o;
}
