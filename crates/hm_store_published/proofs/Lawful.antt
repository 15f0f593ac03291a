-- Lawful lists.
use Rattle.std.proofs.Common.{◌≡◌, ◌+◌, ◌≤◌, ◌<◌, ◌^◌, ℕ, zero, suc, List, [], ◌∷◌, ◌++◌, length, take, Some, slice_get, refl, subst, arith}
use Rattle.std.specs.Prelude.{fold}
use Rattle.hm_syntax.specs.declared.ast.Module.{Module}
use Rattle.hm_store_published.specs.declared.publication.Publication.{Publication}
use Rattle.hm_store_published.specs.Publications.{IsLawful, MayFollow, entries_of}

pub none_lawful : (modules : List Module) (plan : List (List ℕ)) → IsLawful modules plan []
none_lawful modules plan = record { each = λ k p h. absurd (cc h) }

-- number k of a list with one more element is that of the list, with the same before it; or the new element, with the whole list before it
more : {A : Type 0} (P : List A → A → Type 0) (xs : List A) (y : A) → ((k : ℕ) (x : A) → slice_get xs k ≡ Some x → P (take k xs) x) → P xs y
    → (k : ℕ) (x : A) → slice_get (xs ++ y ∷ []) k ≡ Some x → P (take k (xs ++ y ∷ [])) x
more P [] y all last zero x h = let same : y ≡ x = cc h in subst (λ z. P [] z) same last
more P [] y all last (suc k) x h = absurd (cc h)
more P (z ∷ xs) y all last zero x h = all zero x h
more P (z ∷ xs) y all last (suc k) x h = more (λ before. P (z ∷ before)) xs y (λ j x e. all (suc j) x e) last k x h

pub more_lawful : (modules : List Module) (plan : List (List ℕ)) (ps : List Publication) (p : Publication) → IsLawful modules plan ps → MayFollow modules plan ps p
    → IsLawful modules plan (ps ++ p ∷ [])
more_lawful modules plan ps p all last = record { each = more (MayFollow modules plan) ps p all.each last }

-- a lawful list has no more publications than the journal has entries up to its last one

abbrev behind : ℕ → List Publication → ℕ
behind n ps = fold (λ m q. q.place + 1) n ps

few_from : (ps : List Publication) (n : ℕ) → ((k : ℕ) (p : Publication) → slice_get ps k ≡ Some p → behind n (take k ps) ≤ p.place) → n + length ps ≤ behind n ps
few_from [] n later = omega arith
few_from (p ∷ ps) n later =
    let first : n ≤ p.place = later 0 p refl in
    let rest : p.place + 1 + length ps ≤ behind (p.place + 1) ps = few_from ps (p.place + 1) (λ k q e. later (suc k) q e) in
    omega (arith, first, rest)

pub few_before : (modules : List Module) (plan : List (List ℕ)) (ps : List Publication) (p : Publication) → IsLawful modules plan ps → MayFollow modules plan ps p → p.place < 2 ^ 62 → length ps < 2 ^ 62
few_before modules plan ps p lawful next few =
    let all : 0 + length ps ≤ entries_of ps = few_from ps 0 (λ k q e. (lawful.each k q e).later) in
    let later : entries_of ps ≤ p.place = next.later in
    omega (arith, all, later, few)
