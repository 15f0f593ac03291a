-- Worked examples: a set in which a source has another text, and which changes are offered.
use Rattle.std.specs.Prelude.{◌≡◌, ℕ, List, [], ◌∷◌, None, true}
use Rattle.hm_service_candidates.specs.Ranges.{Tried}
use Rattle.hm_service_candidates.specs.declared.ranges.SourceRange.{SourceRange}
use Rattle.hm_service_offers.specs.Changed.{IsChangedSet, IsGiven, IsSameSource}
use Rattle.hm_service_offers.specs.Offers.{AreFixes, AreFixesAt, IsTrial}
use Rattle.hm_service_places.specs.declared.checked.CheckedSet.{CheckedSet}
use Rattle.hm_service_sources.specs.declared.held.HeldSource.{HeldSource}

-- of two sources the first one has another text and the second one stays, and a set without the second one isn't that set
pub record ChangedRow : Type 0 where
  pub first : (text : List ℕ) (h k g : HeldSource) → IsGiven text h k → IsSameSource g g → IsChangedSet (h ∷ g ∷ []) 0 text (k ∷ g ∷ [])
  pub not_less : (text : List ℕ) (h k g : HeldSource) → ¬ (IsChangedSet (h ∷ g ∷ []) 0 text (k ∷ []))

-- a change that is a fix is offered. One that isn't tried as a fix isn't offered, and for a source that isn't there nothing is
pub record OffersRow : Type 0 where
  pub fix : (set : CheckedSet) (n : ℕ) (t : Tried) → IsTrial set n t true → AreFixes set n (t ∷ []) (t ∷ [])
  pub not_untried : (set : CheckedSet) (n : ℕ) (t : Tried) → ¬ (IsTrial set n t true) → ¬ (AreFixes set n (t ∷ []) (t ∷ []))
  pub nowhere : (set : CheckedSet) (r : SourceRange) → AreFixesAt None set r []
  pub not_elsewhere : (set : CheckedSet) (r : SourceRange) (t : Tried) → ¬ (AreFixesAt None set r (t ∷ []))
