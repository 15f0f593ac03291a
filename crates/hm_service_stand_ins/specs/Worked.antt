-- Worked examples: the last good text of a source, the text that stands for one in a second check, and the diagnostics that are shown.
use Rattle.std.specs.Prelude.{◌≡◌, ◌≢◌, ℕ, false, List, [], ◌∷◌, Option, None, Some}
use Rattle.hm_service_messages.specs.declared.diagnostic.Diagnostic.{Diagnostic}
use Rattle.hm_service_sources.specs.declared.held.HeldSource.{HeldSource}
use Rattle.hm_service_stand_ins.specs.Findings.{Findings, HasError, IsGoodIn}
use Rattle.hm_service_stand_ins.specs.GoodTexts.{IsGoodAfter}
use Rattle.hm_service_stand_ins.specs.Missed.{AreMissedAt, HasTextOfNow, IsMissed, IsOfModule}
use Rattle.hm_service_stand_ins.specs.StandIns.{IsSecondSet, IsSkip, StandsIn}

-- a check that says nothing of the sources with these numbers
abbrev pub silent : List ℕ → Findings
silent part = record { part = part; refused = []; told = [] }

-- a text whose modules are good is the last good one. One that can't be read isn't, and the one of before stays
pub record GoodRow : Type 0 where
  pub latest : (f : Findings) (h : HeldSource) (before : Option (List ℕ)) → IsGoodIn f h 0 → IsGoodAfter f 0 h before (Some h.text.items)
  pub kept : (f : Findings) (h : HeldSource) (before : Option (List ℕ)) → h.is_read ≡ false → IsGoodAfter f 0 h before before
  pub not_lost : (f : Findings) (h : HeldSource) (before : List ℕ) → h.is_read ≡ false → ¬ (IsGoodAfter f 0 h (Some before) None)

-- the last good text stands for a source that can't be read, and for no source without an error
pub record StandInRow : Type 0 where
  pub unread : (f : Findings) (h : HeldSource) (text : List ℕ) → h.is_read ≡ false → StandsIn f 0 h (Some text) text
  pub not_older : (f : Findings) (h : HeldSource) (text : List ℕ) → ¬ (HasError f h 0) → text ≢ h.standing.items → ¬ (StandsIn f 0 h (Some text) text)

-- a check that skips a module of source number 0
abbrev pub skipping : Diagnostic → Findings
skipping note = record { part = 0 ∷ []; refused = []; told = note ∷ [] }

-- a check of a source that misses nothing has no second set.
pub record SecondSetRow : Type 0 where
  pub none : (h : HeldSource) (good : List (Option (List ℕ))) → IsSecondSet (silent (0 ∷ [])) (h ∷ []) good None
  pub not_needed : (h : HeldSource) (good : List (Option (List ℕ))) (set : List HeldSource) → ¬ (IsSecondSet (silent (0 ∷ [])) (h ∷ []) good (Some set))

-- a diagnostic of a module that the first check has skipped is shown, and none of another module of a checked source
pub record SkippedRow : Type 0 where
  pub skipped : (d note : Diagnostic) → IsSkip note → note.source ≡ 0 → IsOfModule d note → d.source ≡ 0 → ¬ (IsSkip d) → IsMissed (skipping note) 0 d
  pub not_other : (d note : Diagnostic) → ¬ (IsOfModule d note) → ¬ (IsMissed (skipping note) 0 d)

-- a diagnostic of a source that the first check has left out is shown. None of a checked source is that has no skipped module, and none of an older text
pub record MissedRow : Type 0 where
  pub left_out : (held set : List HeldSource) (d : Diagnostic) → d.source ≡ 0 → ¬ (IsSkip d) → HasTextOfNow held set 0 → AreMissedAt (silent []) held set (d ∷ []) 0 (d ∷ [])
  pub not_checked : (d : Diagnostic) → ¬ (IsMissed (silent (0 ∷ [])) 0 d)
  pub not_older : (f : Findings) (held set : List HeldSource) (told : List Diagnostic) (d : Diagnostic) → ¬ (HasTextOfNow held set 0) → ¬ (AreMissedAt f held set told 0 (d ∷ []))
