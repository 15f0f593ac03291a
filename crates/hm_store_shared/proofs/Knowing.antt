-- What each call under the lock tells its worker.
use Rattle.std.proofs.Common.{◌≡◌, ℕ, Bool, true, false, List, [], ◌∷◌, ◌++◌, Some, None, Result, Ok, Err, refl, ap, sym, ◌∙◌, subst}
use Rattle.std.specs.Prelude.{not}
use Rattle.hm_syntax.specs.declared.ast.Module.{Module}
use Rattle.hm_verdicts.specs.Outcomes.{Checked}
use Rattle.hm_store.specs.Objects.{State, reply_of}
use Rattle.hm_store.specs.Builds.{Build, IsLegal, Refuses, after_claim, after_stop, state_of}
use Rattle.hm_store.specs.Records.{replied}
use Rattle.hm_store.specs.declared.object.Claimed.{Claimed as Reply}
use Rattle.hm_store.specs.declared.object.Claimed.TheVariants.{Job, Later, Done}
use Rattle.hm_store.specs.declared.object.Entry.{Entry}
use Rattle.hm_store.specs.declared.object.Entry.TheVariants.{Claim, Publish, Fail, Stop}
use Rattle.hm_store.specs.declared.object.Refusal.{Refusal}
use Rattle.hm_store.specs.declared.object.Refusal.TheVariants.{NotYours, Stranger, Memory}
use Rattle.hm_store.specs.declared.object.Turn.{Turn}
use Rattle.hm_store.proofs.Journals.{state_more}
use Rattle.hm_store_shared.specs.Knowing.{Answers, Begins, Claims, IsMet, IsStopped, Stops, journal_after}
use Rattle.hm_store_shared.specs.Listings.{FailsIn, IsBuildOf, Listing, Settled, reason_of}

abbrev journal_of : Listing → List Entry
journal_of l = l.build.journal

module _ (subjects : List Module) (plan : List (List ℕ)) (l l' : Listing) (w : ℕ) (old new : List Entry) (legal : IsLegal l.build) (same : IsBuildOf subjects plan l.build) (begins : Begins w old l.build.journal) (knows : new ≡ l'.build.journal) where
  met : IsMet subjects plan w old l.build
  met = record { same = same; legal = legal; begins = begins }

  pub claims_of : (t : Turn) → replied (Some t) ≡ reply_of l.build.given (state_of l.build) → l' ≡ record { build = after_claim l.build w (replied (Some t)); published = l.published } → Claims subjects plan w old new t
  claims_of t reply step = record { before = l.build; met = met; reply = sym reply; knows = knows ∙ ap journal_of step }

  pub stops_of : (first : Bool) → first ≡ not (state_of l.build).stopped → l' ≡ record { build = after_stop l.build w first; published = l.published } → Stops subjects plan w old new first
  stops_of first reply step = record { before = l.build; met = met; reply = reply; knows = knows ∙ ap journal_of step }

  module _ (m : ℕ) (c : Checked) where
    answer : (e : Entry) (r : Result (Unit {0}) (Refusal × Checked)) → Refuses l.build w m c (reason_of r) → l'.build.journal ≡ journal_after r l.build.journal e → Answers subjects plan w m c e old new r
    answer e r reason step = record { before = l.build; met = met; reason = reason; knows = knows ∙ step }

    pub publishes_of : (r : Result (Unit {0}) (Refusal × Checked)) → Settled l w m c l' r → Answers subjects plan w m c (Publish w m) old new r
    publishes_of (Ok u) settled = answer (Publish w m) (Ok u) settled.0 (ap journal_of settled.1)
    publishes_of (Err (NotYours, d)) settled = answer (Publish w m) (Err (NotYours, d)) settled.0 (ap journal_of settled.1)
    publishes_of (Err (Stranger, d)) settled = answer (Publish w m) (Err (Stranger, d)) settled.0 (ap journal_of settled.1)
    publishes_of (Err (Memory, d)) settled = answer (Publish w m) (Err (Memory, d)) settled.0 (ap journal_of settled.1)

    pub fails_of : (r : Result (Unit {0}) (Refusal × Checked)) → FailsIn l w m c l' r → Answers subjects plan w m c (Fail w m) old new r
    fails_of (Ok u) settled = answer (Fail w m) (Ok u) settled.0 (ap journal_of settled.1)
    fails_of (Err (NotYours, d)) settled = answer (Fail w m) (Err (NotYours, d)) settled.0 (ap journal_of settled.1)
    fails_of (Err (Stranger, d)) settled = answer (Fail w m) (Err (Stranger, d)) settled.0 (ap journal_of settled.1)
    fails_of (Err (Memory, d)) settled = absurd settled.0

-- after a stop, the store is stopped
pub stop_stops : (b : Build) (w : ℕ) (first : Bool) → first ≡ not (state_of b).stopped → (state_of (after_stop b w first)).stopped ≡ true
stop_stops b w true e = ap (λ (s : State). s.stopped) (state_more b.given b.journal (Stop w))
stop_stops b w false e = not_false (state_of b).stopped (sym e)
  where
    not_false : (x : Bool) → not x ≡ false → x ≡ true
    not_false true h = refl
    not_false false h = absurd (cc h)

pub stopped_of : (subjects : List Module) (plan : List (List ℕ)) (l l' : Listing) (w : ℕ) (new : List Entry) (first : Bool) → IsLegal l'.build → IsBuildOf subjects plan l'.build → new ≡ l'.build.journal
    → first ≡ not (state_of l.build).stopped → l' ≡ record { build = after_stop l.build w first; published = l.published } → IsStopped subjects plan new
stopped_of subjects plan l l' w new first legal same knows reply step = record {
  build = l'.build;
  same = same;
  legal = legal;
  knows = knows;
  stopped = ap (λ (x : Listing). (state_of x.build).stopped) step ∙ stop_stops l.build w first reply;
}

-- The list of entries stays that of the journal

pub claim_written : (l l' : Listing) (w m : ℕ) (es es' : List Entry) → l' ≡ record { build = after_claim l.build w (Job m); published = l.published } → es ≡ l.build.journal → es' ≡ es ++ Claim w m ∷ [] → es' ≡ l'.build.journal
claim_written l l' w m es es' step is more = more ∙ (ap (λ xs. xs ++ Claim w m ∷ []) is ∙ sym (ap journal_of step))
