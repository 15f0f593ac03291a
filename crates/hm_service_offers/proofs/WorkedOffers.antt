-- Worked examples of changed sets and of offers.
use Rattle.std.proofs.Common.{◌≡◌, ◌∙◌, ◌++◌, ℕ, List, [], ◌∷◌, None, arith, ap, inl, inr, length, length-append, refl, subst, sym, true}
use Rattle.std.proofs.lemmas.List.Elements.{length_all_zip}
use Rattle.hm_service_candidates.specs.Ranges.{Tried}
use Rattle.hm_service_candidates.specs.declared.ranges.SourceRange.{SourceRange}
use Rattle.hm_service_offers.specs.Changed.{IsChangedSet, IsGiven, IsSameSource}
use Rattle.hm_service_offers.specs.Offers.{AreFixes, AreFixesAt, IsTrial}
use Rattle.hm_service_offers.specs.Worked.{ChangedRow, OffersRow}
use Rattle.hm_service_places.specs.declared.checked.CheckedSet.{CheckedSet}
use Rattle.hm_service_sources.specs.declared.held.HeldSource.{HeldSource}

first : (text : List ℕ) (h k g : HeldSource) → IsGiven text h k → IsSameSource g g → IsChangedSet (h ∷ g ∷ []) 0 text (k ∷ g ∷ [])
first text h k g given same = record {
  before = [];
  old = h;
  new = k;
  after = g ∷ [];
  is = refl;
  whole = refl;
  first = tt;
  given = given;
  rest = (same, tt);
}

not_less : (text : List ℕ) (h k g : HeldSource) → ¬ (IsChangedSet (h ∷ g ∷ []) 0 text (k ∷ []))
not_less text h k g is =
    let rest : 1 ≡ length is.after = length_all_zip IsSameSource (g ∷ []) is.after is.rest in
    let whole : 1 ≡ length (is.before ++ is.new ∷ is.after) = ap (λ (l : List HeldSource). length l) is.whole in
    let sum = length-append is.before (is.new ∷ is.after) in
    absurd (omega (arith, rest, whole, sum))

fix : (set : CheckedSet) (n : ℕ) (t : Tried) → IsTrial set n t true → AreFixes set n (t ∷ []) (t ∷ [])
fix set n t is = inl (is, ([], (refl, refl)))

not_untried : (set : CheckedSet) (n : ℕ) (t : Tried) → ¬ (IsTrial set n t true) → ¬ (AreFixes set n (t ∷ []) (t ∷ []))
not_untried set n t none (inl w) = none w.0
not_untried set n t none (inr w) = let size : 1 ≡ 0 = ap (λ (l : List Tried). length l) w.1 in absurd (omega (arith, size))

not_elsewhere : (set : CheckedSet) (r : SourceRange) (t : Tried) → ¬ (AreFixesAt None set r (t ∷ []))
not_elsewhere set r t h = let size : 1 ≡ 0 = ap (λ (l : List Tried). length l) h in absurd (omega (arith, size))

pub worked_changed : ChangedRow
worked_changed = record { first = first; not_less = not_less }

pub worked_offers : OffersRow
worked_offers = record { fix = fix; not_untried = not_untried; nowhere = λ set r. refl; not_elsewhere = not_elsewhere }
