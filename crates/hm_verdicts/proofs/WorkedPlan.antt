-- The worked set is lawful.
use Rattle.std.proofs.Common.{◌≡◌, ℕ, zero, suc, ◌+◌, ◌<◌, List, [], ◌∷◌, Contains, inl, inr, ◌⊎◌, refl, sym, ap, subst, arith, codes}
use Rattle.std.specs.Prelude.{slice_index_or}
use Rattle.hm_graph_components.specs.Closure.{Closure, one, more}
use Rattle.hm_graph.specs.Imports.{Modules, Imports, IsTaken, IsMissing, IsImportList, name_at, prelude}
use Rattle.hm_names.proofs.Members.{none_in, cases, first}
use Rattle.hm_verdicts.specs.Sets.{outlines_of, IsLawfulSet}
use Rattle.hm_verdicts.specs.Worked.{three_modules}

abbrev outlines : Modules
outlines = outlines_of three_modules.modules

-- what holds of the numbers 0, 1 and 2
pub three : (P : ℕ → Type 0) → P 0 → P 1 → P 2 → (i : ℕ) → i < 3 → P i
three P a b c zero l = a
three P a b c (suc zero) l = b
three P a b c (suc (suc zero)) l = c
three P a b c (suc (suc (suc i))) l = absurd (omega (arith, l))

abbrev pub head_of : List ℕ → ℕ
head_of [] = 0
head_of (x ∷ xs) = x

-- the names are A, B and C
name_begins : (k : ℕ) → k < 3 → head_of (name_at outlines k) ≡ 65 + k
name_begins = three (λ k. head_of (name_at outlines k) ≡ 65 + k) refl refl refl

name_once : (k m : ℕ) → k < 3 → m < 3 → name_at outlines k ≡ name_at outlines m → k ≡ m
name_once k m a b e = let p = name_begins k a in let q = name_begins m b in let r : head_of (name_at outlines k) ≡ head_of (name_at outlines m) = ap head_of e in omega (arith, p, q, r)

not_prelude : (k : ℕ) → k < 3 → ¬ (name_at outlines k ≡ prelude)
not_prelude k a e = let p = name_begins k a in let r : head_of (name_at outlines k) ≡ 80 = ap head_of e in absurd (omega (arith, p, r, a))

-- C imports B, and nothing else is imported
imports_are : (a b : ℕ) → Imports outlines a b → (a ≡ 2) × (b ≡ 1)
imports_are zero b h = absurd (none_in _ h.1)
imports_are (suc zero) b h = absurd (none_in _ h.1)
imports_are (suc (suc zero)) b h = (refl, at (cases (codes "B") [] (name_at outlines b) h.1))
  where
    at : (name_at outlines b ≡ codes "B") ⊎ Contains [] (name_at outlines b) → b ≡ 1
    at (inl e) = name_once b 1 h.0 (omega arith) e
    at (inr c) = absurd (none_in _ c)
imports_are (suc (suc (suc a))) b h = absurd (none_in _ h.1)

reaches_are : {a b : ℕ} → Closure (Imports outlines) a b → (a ≡ 2) × (b ≡ 1)
reaches_are {a = a} (one {b = b} r) = imports_are a b r
reaches_are {a = a} (more {b = b} {c = c} s r) = ((reaches_are s).0, (imports_are b c r).1)

no_import : (m i : ℕ) → m < 3 → ¬ (IsMissing outlines m i)
no_import m i l = three (λ k. ¬ (IsMissing outlines k i)) (λ h. let q : i < 0 = h.place in absurd (omega (arith, q))) (λ h. let q : i < 0 = h.place in absurd (omega (arith, q))) (λ h. at i h) m l
  where
    at : (i : ℕ) → ¬ (IsMissing outlines 2 i)
    at zero h = h.no_module 1 (omega arith) refl
    at (suc i) h = let q : suc i < 1 = h.place in absurd (omega (arith, q))

no_row : (m : ℕ) → ((k : ℕ) → ¬ (Imports outlines m k)) → IsImportList outlines m []
no_row m n = record {
  members = λ k. ((λ c. absurd (none_in k c)), (λ h. absurd (n k h)));
  once = λ p q a b. let l : q < 0 = b in absurd (omega (arith, l));
  order = λ p q i j a b. let l : q < 0 = b in absurd (omega (arith, l));
}

row_of_C : IsImportList outlines 2 (1 ∷ [])
row_of_C = record {
  members = λ k. (
    (λ c. elim (cases 1 [] k c) [ inl e ↦ subst (λ z. Imports outlines 2 z) (sym e) (omega arith, first (codes "B") []) | inr o ↦ absurd (none_in k o) ]),
    (λ h. subst (λ z. Contains (1 ∷ []) z) (sym (imports_are 2 k h).1) (first 1 [])),
  );
  once = λ p q a b. let l : q < 1 = b in absurd (omega (arith, a, l));
  order = λ p q i j a b. let l : q < 1 = b in absurd (omega (arith, a, l));
}

pub three_lawful : IsLawfulSet three_modules
three_lawful = record {
  lawful = record {
    few = λ h. let l : 4096 < 3 = h in absurd (omega (arith, l));
    distinct = λ m l t. taken m l t;
    found = λ m i l. no_import m i l;
    acyclic = λ m c. let q = reaches_are c in let a = q.0 in let b = q.1 in absurd (omega (arith, a, b));
  };
  planned = record { len = refl; each = λ m l. three (λ k. IsImportList outlines k (slice_index_or three_modules.plan k [])) (no_row 0 (λ k h. none_in _ h.1)) (no_row 1 (λ k h. none_in _ h.1)) row_of_C m l };
}
  where
    taken : (m : ℕ) → m < 3 → ¬ (IsTaken outlines m)
    taken m l (inl e) = not_prelude m l e
    taken m l (inr h) = let a = h.1 in let q = name_once h.0 m (omega (arith, a, l)) l h.2 in absurd (omega (arith, a, q))
