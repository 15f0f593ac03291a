-- The worked builds.
use Rattle.std.proofs.Common.{◌≡◌, ◌≢◌, ℕ, zero, suc, ◌+◌, ◌<◌, ◌≤◌, true, false, List, [], ◌∷◌, ◌++◌, All, Option, None, Some, length, refl, sym, ap, ap₂, subst, ◌∙◌, arith}
use Rattle.std.specs.Prelude.{count_by}
use Rattle.std.specs.Arc.{arc_value}
use Rattle.std.specs.declared.alloc.Global.{Global}
use Rattle.std.specs.declared.sync.Arc.{Arc}
use Rattle.hm_types.specs.Interfaces.{Exports as Interface}
use Rattle.hm_syntax.specs.declared.ast.Module.{Module}
use Rattle.hm_verdicts.specs.Outcomes.{Checked}
use Rattle.hm_store.specs.Agreement.{Agree, RecordAgrees, CallAgrees, writers, writes_at}
use Rattle.hm_store.specs.Builds.{Build, interface_at}
use Rattle.hm_store.specs.Records.{rises}
use Rattle.hm_store.specs.declared.object.Claimed.{Claimed as Reply}
use Rattle.hm_store.specs.declared.object.Claimed.TheVariants.{Job, Later, Done}
use Rattle.hm_store.specs.declared.object.Entry.{Entry}
use Rattle.hm_store.specs.declared.object.Entry.TheVariants as entry
use Rattle.hm_store.specs.declared.object.Status.{Status}
use Rattle.hm_store.specs.declared.object.Status.TheVariants as status
use Rattle.hm_store.specs.declared.record.Act.TheVariants as act
use Rattle.hm_store.specs.declared.record.Call.{Call}
use Rattle.hm_store.specs.declared.record.Record.{Record}
use Rattle.hm_store.proofs.DependentLists.{dependents_are}
use Rattle.hm_store.specs.Worked.{two, four, DependentsRow, RepliesRow, LeastRow, StopRow, SkipRow, NotAllowedRow, RefusalRow, RecordRow, TwoRecordsRow, IsRecordOf, done, call, begins, found, one_calls, other_calls, AloneAgree, AloneDisagree}

pub replies : RepliesRow
replies = record { first = refl; later = refl; next = refl; last = refl }

pub least : LeastRow
least = record { first = refl; next = refl; other = refl }

pub dependents : DependentsRow
dependents = record { of_two = dependents_are two.imports; of_four = dependents_are four.imports }

-- two replies or statuses that a number tells apart
number : Reply → ℕ
number (Job m) = m
number Later = 1000
number Done = 2000

claimant : Status → ℕ
claimant status.Waiting = 1000
claimant (status.Claimed w) = w
claimant status.Published = 2000
claimant status.Failed = 3000
claimant status.Skipped = 4000

pub stop : StopRow
stop = record { reply = refl; claimed = (refl, (refl, (refl, tt))); once = λ a. let e : true ≡ false = a.1.0 in cc }

pub skip : SkipRow
skip = record { statuses = refl; reply = refl }

pub not_allowed : NotAllowedRow
unfolding number claimant
not_allowed = record {
  early = λ a. let e : 1 ≡ 0 = ap number a.0 in absurd (omega (arith, e));
  unclaimed = λ a. let e : 1000 ≡ 0 = ap claimant a.0 in absurd (omega (arith, e));
  by_another = λ a. let e : 0 ≡ 1 = ap claimant a.1.0 in absurd (omega (arith, e));
  twice = λ a. let e : 1000 ≡ 1 = ap number a.1.0 in absurd (omega (arith, e));
}

pub not_by_one : status.Claimed 0 ≢ status.Claimed 1
unfolding claimant
not_by_one h = let e : 0 ≡ 1 = ap claimant h in absurd (omega (arith, e))

pub refusal : RefusalRow
unfolding claimant
refusal = record {
  not_yours = λ modules kept c. not_by_one;
  stranger = λ modules kept c h. not_by_one h.0;
  accepted = λ modules kept c h. not_by_one h.0;
  out_of_range = λ modules kept c h. let e : 4000 ≡ 0 = ap claimant h in absurd (omega (arith, e));
}

-- Records

-- what holds of each element, one after the other
abbrev Each : {X : Type 0} → (X → Type 0) → List X → Type 0
Each P [] = Unit {0}
Each P (x ∷ xs) = P x × Each P xs

all_of : {X : Type 0} (P : X → Type 0) (xs : List X) → Each P xs → All P xs
all_of P [] h k d l = absurd (omega (arith, l))
all_of P (x ∷ xs) h zero d l = h.0
all_of P (x ∷ xs) h (suc k) d l = all_of P xs h.1 k d (omega (arith, l))

-- what holds of the numbers below four
four_of : (P : ℕ → Type 0) → P 0 → P 1 → P 2 → P 3 → (i : ℕ) → i < 4 → P i
four_of P a b c d zero l = a
four_of P a b c d (suc zero) l = b
four_of P a b c d (suc (suc zero)) l = c
four_of P a b c d (suc (suc (suc zero))) l = d
four_of P a b c d (suc (suc (suc (suc i)))) l = absurd (omega (arith, l))

-- a record with these calls agrees where they do
record_of : (b : Build) (w : ℕ) (cs : List Call) (r : Record) → IsRecordOf w cs r → rises 0 cs ≡ true → Each (CallAgrees b w) cs → RecordAgrees b r
record_of b w cs r is order calls = record {
  order = subst (λ l. rises 0 l ≡ true) (sym is.1) order;
  calls = subst (λ v. All (CallAgrees b v) r.calls.items) (sym is.0) (subst (All (CallAgrees b w)) (sym is.1) (all_of (CallAgrees b w) cs calls));
}

-- and the other way round
calls_of : (b : Build) (w : ℕ) (cs : List Call) (r : Record) → IsRecordOf w cs r → RecordAgrees b r → All (CallAgrees b w) cs
calls_of b w cs r is h = subst (All (CallAgrees b w)) is.1 (subst (λ v. All (CallAgrees b v) r.calls.items) is.0 h.calls)

-- how often an entry is written by these calls
written : ℕ → List Call → ℕ
written i cs = count_by (writes_at i) cs

written_alone : (i w : ℕ) (cs : List Call) (r : Record) → IsRecordOf w cs r → writers i (r ∷ []) ≡ 0 + written i cs
unfolding written
written_alone i w cs r is = ap (λ l. 0 + count_by (writes_at i) l) is.1

written_both : (i v w : ℕ) (cs ds : List Call) (r s : Record) → IsRecordOf v cs r → IsRecordOf w ds s → writers i (r ∷ s ∷ []) ≡ 0 + written i cs + written i ds
unfolding written
written_both i v w cs ds r s is us = ap₂ (λ l m. 0 + count_by (writes_at i) l + count_by (writes_at i) m) is.1 us.1

module _ (w : ℕ) (modules : List Module) (kept : List (Option Checked)) (f : Arc Interface Global) (here : interface_at kept 1 ≡ Some (arc_value f)) where
  abbrev b : Build
  b = done w modules kept

  look_found : CallAgrees b w (found f)
  look_found = record { within = let l : 3 ≤ 4 = omega arith in l; reply = sym here; entry = tt }

  done_last : (v : ℕ) → CallAgrees b v (call 4 act.Done)
  done_last v = record { within = let l : 4 ≤ 4 = omega arith in l; reply = refl; entry = tt }

  claimed_first : CallAgrees b 0 (call 0 (act.Job 1))
  claimed_first = record { within = let l : 0 ≤ 4 = omega arith in l; reply = refl; entry = refl }

  published_first : CallAgrees b 0 (call 1 (act.Publish 1))
  published_first = record { within = let l : 1 ≤ 4 = omega arith in l; reply = refl; entry = refl }

  claimed_next : CallAgrees b w (call 2 (act.Job 0))
  claimed_next = record { within = let l : 2 ≤ 4 = omega arith in l; reply = refl; entry = refl }

  published_next : CallAgrees b w (call 3 (act.Publish 0))
  published_next = record { within = let l : 3 ≤ 4 = omega arith in l; reply = refl; entry = refl }

  looked_early : (v : ℕ) → CallAgrees b v (call 0 (act.Look 1 None))
  looked_early v = record { within = let l : 0 ≤ 4 = omega arith in l; reply = refl; entry = tt }

agree_by : (b : Build) (rs : List Record) → length b.journal ≡ 4 → writers 0 rs ≡ 1 → writers 1 rs ≡ 1 → writers 2 rs ≡ 1 → writers 3 rs ≡ 1 → All (RecordAgrees b) rs → Agree b rs
agree_by b rs four p q r s records = record { once = λ i l. four_of (λ k. writers k rs ≡ 1) p q r s i (subst (λ n. i < n) four l); records = records }

whole_calls : Arc Interface Global → List Call
whole_calls f = begins ++ (found f ∷ call 3 (act.Publish 0) ∷ call 4 act.Done ∷ [])

whole : AloneAgree 0 whole_calls
unfolding whole_calls written
whole modules kept f here r is =
    let b = done 0 modules kept in
    let one = λ (i : ℕ). written_alone i 0 (whole_calls f) r is in
    agree_by b (r ∷ []) refl (one 0) (one 1) (one 2) (one 3)
    (all_of (RecordAgrees b) (r ∷ []) (
      record_of b 0 (whole_calls f) r is refl
          (claimed_first 0 modules kept f here, (published_first 0 modules kept f here, (claimed_next 0 modules kept f here, (look_found 0 modules kept f here, (published_next 0 modules kept f here, (done_last 0 modules kept f here 0, tt)))))),
      tt,
    ))

-- the record of an agreeing list of one
alone : (b : Build) (w : ℕ) (cs : List Call) (r : Record) → IsRecordOf w cs r → Agree b (r ∷ []) → All (CallAgrees b w) cs
alone b w cs r is a = calls_of b w cs r is (a.records 0 r (omega arith))

cut : AloneDisagree 0 (λ f. begins ++ (found f ∷ []))
unfolding written
cut modules kept f here r is a =
    let e = written_alone 3 0 (begins ++ (found f ∷ [])) r is in
    let o : writers 3 (r ∷ []) ≡ 1 = a.once 3 (let l : 3 < 4 = omega arith in l) in
    let z : 0 ≡ 1 = sym e ∙ o in absurd (omega (arith, z))

blind : AloneDisagree 0 (λ f. begins ++ (call 3 (act.Look 1 None) ∷ call 3 (act.Publish 0) ∷ call 4 act.Done ∷ []))
blind modules kept f here r is a =
    let c = alone (done 0 modules kept) 0 (begins ++ (call 3 (act.Look 1 None) ∷ call 3 (act.Publish 0) ∷ call 4 act.Done ∷ [])) r is a 3 (call 0 act.Done) (let l : 3 < 6 = omega arith in l) in
    let z : None ≡ Some (arc_value f) = c.reply ∙ here in cc

early_calls : Arc Interface Global → List Call
early_calls f = call 0 (act.Job 1) ∷ call 1 act.Done ∷ call 1 (act.Publish 1) ∷ call 2 (act.Job 0) ∷ found f ∷ call 3 (act.Publish 0) ∷ []

early : AloneDisagree 0 early_calls
unfolding early_calls number
early modules kept f here r is a =
    let c = alone (done 0 modules kept) 0 (early_calls f) r is a 1 (call 0 act.Done) (let l : 1 < 6 = omega arith in l) in
    let z : 1000 ≡ 2000 = ap number c.reply in absurd (omega (arith, z))

-- who wrote an entry
writer : Option Entry → ℕ
writer (Some (entry.Claim w m)) = w
writer (Some (entry.Publish w m)) = w
writer (Some (entry.Fail w m)) = w
writer (Some (entry.Stop w)) = w
writer None = 1000

by_another : AloneDisagree 1 whole_calls
unfolding whole_calls writer
by_another modules kept f here r is a =
    let c = alone (done 0 modules kept) 1 (whole_calls f) r is a 0 (call 0 act.Done) (let l : 0 < 6 = omega arith in l) in
    let z : 0 ≡ 1 = ap writer c.entry in absurd (omega (arith, z))

twice : (modules : List Module) (kept : List (Option Checked)) (f : Arc Interface Global) (r : Record) → IsRecordOf 0 (whole_calls f) r → ¬ (Agree (done 0 modules kept) (r ∷ r ∷ []))
unfolding whole_calls written
twice modules kept f r is a =
    let e = written_both 0 0 0 (whole_calls f) (whole_calls f) r r is is in
    let o : writers 0 (r ∷ r ∷ []) ≡ 1 = a.once 0 (let l : 0 < 4 = omega arith in l) in
    let z : 2 ≡ 1 = sym e ∙ o in absurd (omega (arith, z))

pub one_record : RecordRow
unfolding whole_calls early_calls
one_record = record { whole = whole; cut = cut; blind = blind; early = early; by_another = by_another; twice = twice }

both : (modules : List Module) (kept : List (Option Checked)) (f : Arc Interface Global) → interface_at kept 1 ≡ Some (arc_value f) → (r s : Record) → IsRecordOf 0 one_calls r → IsRecordOf 1 (other_calls f) s → Agree (done 1 modules kept) (r ∷ s ∷ [])
unfolding written
both modules kept f here r s is us =
    let b = done 1 modules kept in
    let two = λ (i : ℕ). written_both i 0 1 one_calls (other_calls f) r s is us in
    agree_by b (r ∷ s ∷ []) refl (two 0) (two 1) (two 2) (two 3)
    (all_of (RecordAgrees b) (r ∷ s ∷ []) (
      record_of b 0 one_calls r is refl (claimed_first 1 modules kept f here, (published_first 1 modules kept f here, tt)),
      (
        record_of b 1 (other_calls f) s us refl
            (looked_early 1 modules kept f here 1, (claimed_next 1 modules kept f here, (look_found 1 modules kept f here, (published_next 1 modules kept f here, (done_last 1 modules kept f here 1, tt))))),
        tt,
      ),
    ))

exchanged : (modules : List Module) (kept : List (Option Checked)) (f : Arc Interface Global) (r s : Record) → IsRecordOf 1 one_calls r → IsRecordOf 0 (other_calls f) s → ¬ (Agree (done 1 modules kept) (r ∷ s ∷ []))
unfolding writer
exchanged modules kept f r s is us a =
    let c = calls_of (done 1 modules kept) 1 one_calls r is (a.records 0 r (omega arith)) 0 (call 0 act.Done) (let l : 0 < 2 = omega arith in l) in
    let z : 0 ≡ 1 = ap writer c.entry in absurd (omega (arith, z))

pub two_records : TwoRecordsRow
two_records = record { both = both; exchanged = exchanged; behind = refl }
