-- Worked examples of second checks.
use Rattle.std.proofs.Common.{◌≡◌, ◌≢◌, ℕ, Contains, List, [], ◌∷◌, None, Some, arith, ap, false, inl, inr, length, refl, sym, ◌∙◌}
use Rattle.std.proofs.lemmas.Bool.{false≢true}
use Rattle.std.specs.List.{Any}
use Rattle.hm_service_messages.specs.declared.diagnostic.Diagnostic.{Diagnostic}
use Rattle.hm_service_sources.specs.declared.held.HeldSource.{HeldSource}
use Rattle.hm_service_stand_ins.specs.Findings.{Findings, HasError, IsGoodIn, unread}
use Rattle.hm_service_stand_ins.specs.GoodTexts.{IsGoodAfter, as_before, good}
use Rattle.hm_service_stand_ins.specs.Missed.{AreMissedAt, HasTextOfNow, IsMissed, IsSkipOf, of_now, older}
use Rattle.hm_service_stand_ins.specs.StandIns.{IsSkip, StandsIn}
use Rattle.hm_service_stand_ins.specs.StandIns as set
use Rattle.hm_service_stand_ins.specs.Worked.{GoodRow, MissedRow, StandInRow, silent}

unread_not_good : (f : Findings) (h : HeldSource) → h.is_read ≡ false → ¬ (IsGoodIn f h 0)
unread_not_good f h clear is = false≢true (sym clear ∙ is.read)

none_some : (t : List ℕ) → None ≡ Some t → ⊥
none_some t e = cc

not_lost : (f : Findings) (h : HeldSource) (before : List ℕ) → h.is_read ≡ false → ¬ (IsGoodAfter f 0 h (Some before) None)
not_lost f h before clear (good is e) = unread_not_good f h clear is
not_lost f h before clear (as_before not e) = none_some before e

pub worked_good : GoodRow
worked_good = record { latest = λ f h before is. good is refl; kept = λ f h before clear. as_before (unread_not_good f h clear) refl; not_lost = not_lost }

some_none : (t : List ℕ) → Some t ≡ None → ⊥
some_none t e = cc

not_older_text : (f : Findings) (h : HeldSource) (text : List ℕ) → ¬ (HasError f h 0) → text ≢ h.standing.items → ¬ (StandsIn f 0 h (Some text) text)
not_older_text f h text fine apart (set.older error e) = fine error
not_older_text f h text fine apart (set.no_good e same) = some_none text e
not_older_text f h text fine apart (set.as_before not same) = apart same

pub worked_stand_in : StandInRow
worked_stand_in = record { unread = λ f h text is. set.older (unread is) refl; not_older = not_older_text }

none_of : (n : ℕ) → ¬ (Contains [] n)
none_of n h = let low = h.1 in omega (arith, low)

none_is : (P : Diagnostic → Type 0) → ¬ (Any P [])
none_is P h = let low = h.2 in omega (arith, low)

shown : (held set : List HeldSource) (d : Diagnostic) → d.source ≡ 0 → ¬ (IsSkip d) → HasTextOfNow held set 0 → AreMissedAt (silent []) held set (d ∷ []) 0 (d ∷ [])
shown held set d at checked of = of_now of (inl (record { at = at; checked = checked; missed = inl (none_of 0) }, ([], (refl, refl))))

not_checked : (d : Diagnostic) → ¬ (IsMissed (silent (0 ∷ [])) 0 d)
not_checked d h = elim h.missed [
  | inl out ↦ out (0, omega arith, refl)
  | inr skipped ↦ none_is (IsSkipOf 0 d) skipped
]

some_left : (d : Diagnostic) → d ∷ [] ≡ [] → ⊥
some_left d e = let z : 1 ≡ 0 = ap (λ (l : List Diagnostic). length l) e in omega (arith, z)

not_older : (f : Findings) (held set : List HeldSource) (told : List Diagnostic) (d : Diagnostic) → ¬ (HasTextOfNow held set 0) → ¬ (AreMissedAt f held set told 0 (d ∷ []))
not_older f held set told d apart (of_now same chosen) = apart same
not_older f held set told d apart (older not none) = some_left d none

pub worked_missed : MissedRow
worked_missed = record { left_out = shown; not_checked = not_checked; not_older = not_older }
