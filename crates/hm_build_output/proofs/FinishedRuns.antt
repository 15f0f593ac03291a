-- A build that came to its end is a run.
use Rattle.std.proofs.Common.{◌≡◌, ◌≢◌, ◌==◌, ◌&&◌, ◌⊎◌, ℕ, suc, ◌<◌, Bool, true, false, cond, List, [], ◌∷◌, All, length, get_or, Some, IfSome, ⊎_elim, inl, inr, refl, sym, ap, ap₂, ◌∙◌, subst, arith, sum_by, count_by}
use Rattle.std.specs.Prelude.{slice_get}
use Rattle.std.proofs.lemmas.Bool.{cases_lt, eqb-true, false≢true}
use Rattle.std.proofs.lemmas.List.Sums.{sum_by-cons}
use Rattle.std.proofs.lemmas.Option.{get_or_from_slice_get}
use Rattle.hm_verdicts.specs.Reports.{is_published, tally}
use Rattle.hm_store.proofs.Settling.{settled_build}
use Rattle.hm_store.specs.Agreement.{Agree, CallAgrees, RecordAgrees, entry_of, writes_at}
use Rattle.hm_store.specs.Builds.{Build, set_of}
use Rattle.hm_store.specs.Records.{wrote}
use Rattle.hm_store.specs.Settlements.{settlement}
use Rattle.hm_store.specs.declared.object.Entry.{Entry}
use Rattle.hm_store.specs.declared.record.Act.{Act}
use Rattle.hm_store.specs.declared.record.Act.TheVariants.{Job, Done, Publish, Fail, Stop, Look}
use Rattle.hm_store.specs.declared.record.Call.{Call}
use Rattle.hm_store.specs.declared.record.Record.{Record}
use Rattle.hm_build_output.specs.BuildTexts.{HasReport, IsFollowedBy}
use Rattle.hm_build_reports.specs.FinishedBuilds.{AreNumbered, IsFinished}
use Rattle.hm_build_output.specs.JournalledRuns.{Follows, IsRun}
use Rattle.hm_build_reports.specs.Journals.{MayEnd, worker_of}
use Rattle.hm_build_reports.specs.Settling.{statuses_of}
use Rattle.hm_build_reports.specs.declared.statuses.Settled.{Settled}
use Rattle.hm_run_sources.specs.declared.status.Status.{Status}
use Rattle.hm_run_sources.specs.declared.status.Status.TheVariants.{Good, Faulty}
use Rattle.hm_build_output.proofs.OneRun.{settled_good, settled_faulty}

-- ---- the workers' numbers in a journal

-- an element that counts
counted : {X : Type 0} (f : X → ℕ) (xs : List X) → 0 < sum_by f xs → (k : ℕ) × (x : X) × (k < length xs) × ((d : X) → get_or xs k d ≡ x) × (0 < f x)
counted f [] h = let none : sum_by f [] ≡ 0 = refl in absurd (omega (arith, h, none))
counted f (x ∷ xs) h = elim (cases_lt 0 (f x)) [
  | inl here ↦ (0, x, omega arith, (λ d. refl), here)
  | inr zero ↦ let rest = counted f xs (omega (arith, h, sum_by-cons f x xs, zero)) in
      (suc rest.0, rest.1, omega (arith, rest.2), rest.3, rest.4)
]

from_cond : (b : Bool) → 0 < cond b 1 0 → b ≡ true
from_cond true h = refl
from_cond false h = absurd (omega (arith, h))

both : (x y : Bool) → (x && y) ≡ true → (x ≡ true) × (y ≡ true)
both true y h = (refl, h)
both false y h = absurd (false≢true h)

-- the entry of a call that wrote one is its worker's
own : (w : ℕ) (a : Act) (P : Entry → Type 0) → (wrote a == 1) ≡ true → IfSome (entry_of w a) P → (e : Entry) × P e × (worker_of e ≡ w)
own w (Job m) P h p = (_, p, refl)
own w Done P h p = absurd (false≢true h)
own w (Publish m) P h p = (_, p, refl)
own w (Fail m) P h p = (_, p, refl)
own w (Stop true) P h p = (_, p, refl)
own w (Stop false) P h p = absurd (false≢true h)
own w (Look m found) P h p = absurd (false≢true h)

module _ (b : Build) (i : ℕ) (d : Entry) where
  -- the entry that a call wrote is its worker's
  by_call : (w : ℕ) (c : Call) → CallAgrees b w c → writes_at i c ≡ true → worker_of (get_or b.journal i d) ≡ w
  by_call w c agrees h =
      let writes = both (wrote c.act == 1) (c.at == i) h in
      let e = own w c.act (λ x. slice_get b.journal c.at ≡ Some x) writes.0 agrees.entry in
      ap worker_of (get_or_from_slice_get b.journal i e.0 d (subst (λ n. slice_get b.journal n ≡ Some e.0) (eqb-true c.at i writes.1) e.1)) ∙ e.2

  by_record : (r : Record) → RecordAgrees b r → 0 < count_by (writes_at i) r.calls.items → worker_of (get_or b.journal i d) ≡ r.worker
  by_record r agrees h =
      let c = counted (λ x. cond (writes_at i x) 1 0) r.calls.items h in
      by_call r.worker c.1 (subst (CallAgrees b r.worker) (c.3 c.1) (agrees.calls c.0 c.1 c.2)) (from_cond (writes_at i c.1) c.4)

  by_worker : (records : List Record) (workers : ℕ) → Agree b records → AreNumbered workers records → i < length b.journal → worker_of (get_or b.journal i d) < workers
  by_worker records workers agree numbered l =
      let one = agree.once i l in
      let r = counted (λ x. count_by (writes_at i) x.calls.items) records (omega (arith, one)) in
      let entry : worker_of (get_or b.journal i d) ≡ r.1.worker = by_record r.1 (subst (RecordAgrees b) (r.3 r.1) (agree.records r.0 r.1 r.2)) r.4 in
      let below : r.0 < workers = subst (λ n. r.0 < n) numbered.len r.2 in
      let number : r.1.worker ≡ r.0 = subst (λ x. x.worker ≡ r.0) (r.3 r.1) (numbered.each r.0 r.1 below) in
      omega (arith, entry, below, number)

-- each entry is in a record, whose number is that of a worker
numbers_below : (b : Build) (records : List Record) (workers : ℕ) → Agree b records → AreNumbered workers records → All (λ e. worker_of e < workers) b.journal
numbers_below b records workers agree numbered i d l = by_worker b i d records workers agree numbered l

may_end : (sources : List (List ℕ)) (workers : ℕ) (b : Build) (records : List Record) → IsFinished sources workers b records → MayEnd sources workers b
may_end sources workers b records f = record {
  read = f.read;
  legal = f.legal;
  running = f.running;
  settled = f.settled;
  numbers = numbers_below b records workers f.agree f.numbered;
}

-- ---- what is written

follows : (journal : Bool) (sources : List (List ℕ)) (workers : ℕ) (b : Build) (records : List Record) (report text : List ℕ) → IsFinished sources workers b records → IsFollowedBy b journal report text → Follows journal workers sources report text
follows false sources workers b records report text f h = h
follows true sources workers b records report text f h = (b, may_end sources workers b records f, h)

-- the report of a finished build, with its journal where it is asked for, is what a run writes
pub finished_run : (b : Build) (records : List Record) (table : List Settled) (sources : List (List ℕ)) (workers : ℕ) (journal : Bool) (status : Status) (text : List ℕ) → HasReport b journal text
    → length table ≡ length b.modules → statuses_of table ≡ settlement b → (status ≡ Good → tally is_published (statuses_of table) (length table) ≡ length table)
    → (status ≡ Faulty → tally is_published (statuses_of table) (length table) ≢ length table) → (status ≡ Good) ⊎ (status ≡ Faulty) → IsFinished sources workers b records → IsRun workers journal sources status text
finished_run b records table sources workers journal status text h long says good faulty either f =
    let settled = settled_build b f.legal f.settled in
    let behind = follows journal sources workers b records h.report text f h.followed in
    let told : tally is_published (statuses_of table) (length table) ≡ tally is_published (settlement b) (length b.modules) = ap₂ (λ by n. tally is_published by n) says long in
    ⊎_elim
    (λ e. subst (λ s. IsRun workers journal sources s text) (sym e)
    (record { report = h.report; checked = settled_good sources (set_of b) (settlement b) h.report f.read f.legal.lawful settled h.reported (sym told ∙ (good e ∙ long)); written = behind }))
    (λ e. subst (λ s. IsRun workers journal sources s text) (sym e)
    (record { report = h.report; checked = settled_faulty sources (set_of b) (settlement b) h.report f.read f.legal.lawful settled h.reported (λ all. faulty e (told ∙ (all ∙ sym long))); written = behind }))
    either
