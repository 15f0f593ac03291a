-- Faults that are explained, and faults that are known.
use Rattle.std.proofs.Common.{◌≡◌, ◌∙◌, ◌+◌, ◌<◌, ◌≤◌, ℕ, Contains, List, arith, false, get_or, inl, inr, length, subst, sym, true}
use Rattle.std.proofs.lemmas.Bool.{cases_lt, false≢true}
use Rattle.std.proofs.lemmas.List.{get_or_default}
use Rattle.std.proofs.lemmas.List.Elements.{Contains-get_or}
use Rattle.hm_names.specs.declared.faults.Fault.{Fault}
use Rattle.hm_service_fixes.specs.Fixes.{IsKnown, had, left_out, skipped, unchecked}
use Rattle.hm_service_fixes.specs.Judged.{JudgedSet}
use Rattle.hm_service_fixes.specs.Steps.{HasBetween, IsExplainedAt, IsExplainedBy, IsExplainedIn, IsKnownFrom}
use Rattle.hm_service_fixes.specs.declared.changes.SourceChange.{SourceChange}
use Rattle.hm_service_fixes.specs.declared.moves.Replacement.{Replacement}

-- no number of a whole range
pub none_below : (P : ℕ → Type 0) (count : ℕ) → ¬ (HasBetween P 0 count) → (k : ℕ) → k < count → ¬ (P k)
none_below P count none k low p = none (k, (omega arith, (low, p)))

pub explained_from : (r : Replacement) (g : Fault) (found : List Fault) (from : ℕ) → HasBetween (IsExplainedAt r g found) from (length found) → IsExplainedIn r g found
explained_from r g found from h = (get_or found h.0 g, (Contains-get_or found h.0 g h.1.1.0, h.1.1.1 g))

pub not_explained : (r : Replacement) (g : Fault) (found : List Fault) → ((k : ℕ) → k < length found → ¬ (IsExplainedAt r g found k)) → ¬ (IsExplainedIn r g found)
not_explained r g found none h =
    let f = h.0 in
    let k = h.1.0.0 in
    let low = h.1.0.1 in
    none k low (λ d. subst (IsExplainedBy r g) (sym (get_or_default found k d f low ∙ h.1.0.2)) h.1.1)

pub known_from : (before : JudgedSet) (c : SourceChange) (x : List ℕ) (g : Fault) (from to : ℕ) → HasBetween (IsKnownFrom before c x g) from to → IsKnown before c x g
known_from before c x g from to h = elim h.1.1.1 [
  | inl is ↦ skipped {i = h.0} is
  | inr w ↦ elim w.1.1.1.1 [
    | inl same ↦ had {i = h.0} {found = w.0} {f = w.1.1.0} w.1.0 w.1.1.1.0 same
    | inr low ↦ left_out {i = h.0} {found = w.0} {f = w.1.1.0} w.1.0 w.1.1.1.0 low
  ]
]

pub not_known : (before : JudgedSet) (c : SourceChange) (x : List ℕ) (g : Fault) → before.checked ≡ true → ((k : ℕ) → k < length before.set.modules → ¬ (IsKnownFrom before c x g k)) → ¬ (IsKnown before c x g)
not_known before c x g on none (unchecked clear) = false≢true (sym clear ∙ on)
not_known before c x g on none (skipped {i} is) = none i is.0.inside (inl is)
not_known before c x g on none (had {i} {found} {f} failed among same) = none i failed.named.inside (inr (found, (failed, (f, (among, inl same)))))
not_known before c x g on none (left_out {i} {found} {f} failed among low) = none i failed.named.inside (inr (found, (failed, (f, (among, inr low)))))

-- one more fault with a property
pub fine_more : (P : Fault → Type 0) (found : List Fault) (n : ℕ) (item : Fault) → n < length found → item ≡ get_or found n item → P item → ((k : ℕ) → k < n → (d : Fault) → P (get_or found k d)) → (k : ℕ) → k < n + 1 → (d : Fault) → P (get_or found k d)
fine_more P found n item low is here before k below d = elim (cases_lt k n) [
  | inl less ↦ before k less d
  | inr past ↦
      let last : k ≡ n = omega (arith, past, below) in
      subst (λ (j : ℕ). P (get_or found j d)) (sym last) (subst P (is ∙ get_or_default found n item d low) here)
]

pub fine_all : (P : Fault → Type 0) (found : List Fault) (n : ℕ) → length found ≤ n → ((k : ℕ) → k < n → (d : Fault) → P (get_or found k d)) → (g : Fault) → Contains found g → P g
fine_all P found n past all g among = let low = among.1 in subst P among.2 (all among.0 (omega (arith, low, past)) g)

pub inside_end : (i m end n : ℕ) → i < m → end ≡ m → end ≤ n → i < n
inside_end i m end n low size past = omega (arith, low, size, past)

pub inside_count : (i m end : ℕ) → i < end → end ≡ m → i < m
inside_count i m end low size = omega (arith, low, size)
