-- The check of a held set.
use Rattle.std.specs.Prelude.{◌≡◌, ℕ, List, [], Option, None, Some, length, map}
use Rattle.hm_run_sources.specs.ModuleCounts.{AreCountedModules}
use Rattle.hm_build_reports.specs.FinishedBuilds.{IsFinished}
use Rattle.hm_build.specs.Headline.{HasVerdicts}
use Rattle.hm_store_shared.specs.Gathered.{records_in}
use Rattle.hm_service_sources.specs.HeldSets.{AreAll, AreUnread, standing_of, texts_at, texts_of}
use Rattle.hm_service_sources.specs.LeftOut.{IsCheckable}
use Rattle.hm_service_sources.specs.declared.held.HeldSource.{HeldSource}
use Rattle.hm_service_messages.specs.declared.diagnostic.Told.{Told}
use Rattle.hm_service_runs.specs.Runs.{IsRunTold}
use Rattle.hm_service_places.specs.declared.checked.Checked.{Checked}

-- the diagnostics of the sources that can't be read: those of a run of their texts
abbrev pub AreUnreadTold : ℕ → List ℕ → List (List ℕ) → Option Told → Type 0
AreUnreadTold workers unread texts None = unread ≡ []
AreUnreadTold workers unread texts (Some told) = IsRunTold workers unread texts told

-- why sources are left out: the diagnostics of a run of all standing texts. There are none only if all of these are checked
abbrev pub AreRefusedTold : ℕ → List (List ℕ) → List ℕ → Option Told → Type 0
AreRefusedTold workers standing part None = AreAll (length standing) part
AreRefusedTold workers standing part (Some told) = (numbers : List ℕ) × (AreAll (length standing) numbers × IsRunTold workers numbers standing told)

-- the check of a held set whose standing texts are these, of which the sources with these numbers can't be read and have these texts now
pub record IsCheckOf (workers : ℕ) (unread : List ℕ) (texts standing : List (List ℕ)) (c : Checked) : Type 0 where
  pub unread_told : AreUnreadTold workers unread texts c.unread
  pub refused_told : AreRefusedTold workers standing c.part.items c.refused
  pub checkable : IsCheckable standing c.part.items
  pub texts_are : map (λ s. s.items) c.texts.items ≡ texts_at standing c.part.items
  pub told : IsRunTold workers c.part.items (map (λ s. s.items) c.texts.items) c.told
  pub finished : IsFinished (map (λ s. s.items) c.texts.items) workers c.build.store (records_in c.build.records)
  pub verdicts : HasVerdicts c.build.store
  pub counted : AreCountedModules (map (λ s. s.items) c.texts.items) c.build.store.modules c.build.counts.items

-- the check of a held set
pub record IsHeldCheck (workers : ℕ) (held : List HeldSource) (c : Checked) : Type 0 where
  pub unread : List ℕ
  pub are : AreUnread held unread
  pub check : IsCheckOf workers unread (texts_at (texts_of held) unread) (standing_of held) c
