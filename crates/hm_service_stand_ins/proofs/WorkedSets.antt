-- Worked examples of sets of a second check, and of skipped modules.
use Rattle.std.proofs.Common.{◌≡◌, ◌<◌, ℕ, zero, suc, List, [], ◌∷◌, Option, None, Some, arith, inl, inr, refl, subst, sym}
use Rattle.std.specs.List.{Any}
use Rattle.hm_service_messages.specs.declared.diagnostic.Diagnostic.{Diagnostic}
use Rattle.hm_service_sources.specs.declared.held.HeldSource.{HeldSource}
use Rattle.hm_service_stand_ins.specs.Missed.{IsMissed, IsOfModule, IsSkipOf}
use Rattle.hm_service_stand_ins.specs.StandIns.{IsSecondSet, IsSkip, MissesSome}
use Rattle.hm_service_stand_ins.specs.Worked.{SecondSetRow, SkippedRow, silent, skipping}

none_is : (P : Diagnostic → Type 0) → ¬ (Any P [])
none_is P h = let low = h.2 in omega (arith, low)

misses_none : (h : HeldSource) → ¬ (MissesSome (silent (0 ∷ [])) (h ∷ []))
misses_none h misses = elim misses [
  | inl some ↦ none_is IsSkip some
  | inr apart ↦ apart refl
]

pub worked_second_set : SecondSetRow
worked_second_set = record { none = λ h good. inl (misses_none h); not_needed = λ h good set is. misses_none h is.0 }

is_skipped : (d note : Diagnostic) → IsSkip note → note.source ≡ 0 → IsOfModule d note → d.source ≡ 0 → ¬ (IsSkip d) → IsMissed (skipping note) 0 d
is_skipped d note skip at same own fine = record { at = own; checked = fine; missed = inr (0, note, omega arith, refl, (at, (skip, same))) }

one_note : (d note : Diagnostic) → ¬ (IsOfModule d note) → ¬ (Any (IsSkipOf 0 d) (note ∷ []))
one_note d note apart (zero, m, within, at, is) = apart (subst (λ (x : Diagnostic). IsOfModule d x) (sym at) is.1.1)
one_note d note apart (suc k, m, within, at, is) = let low : suc k < 1 = within in omega (arith, low)

is_not_other : (d note : Diagnostic) → ¬ (IsOfModule d note) → ¬ (IsMissed (skipping note) 0 d)
is_not_other d note apart h = elim h.missed [
  | inl out ↦ out (0, omega arith, refl)
  | inr skipped ↦ one_note d note apart skipped
]

pub worked_skipped : SkippedRow
worked_skipped = record { skipped = is_skipped; not_other = is_not_other }
