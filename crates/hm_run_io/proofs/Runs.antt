-- What a run did with its readers and its writer, from what the calls that it makes did.
use Rattle.std.proofs.Common.{◌≡◌, ◌⊎◌, ◌≤◌, ◌<◌, ℕ, List, All, Option, Result, Ok, Err, IsErrOf, inl, inr, ⊎_elim, refl, sym, ap, subst, ◌∙◌, arith, length, get_or}
use Rattle.std.proofs.lemmas.List.Elements.{All-weaker}
use Rattle.std.proofs.Math.ListN.{set}
use Rattle.hm_run_io.proofs.ReadUp.{all_set, found_set, some_set, stops, stops_at}
use Rattle.hm_run_io.specs.Reads.{ReadsAll}
use Rattle.hm_run_io.specs.Sources.{AreReadUp, IsReadUp}
use Rattle.hm_run_io.specs.Watching.{device_of, failures_of, HasReadFault, IsFresh, IsReadWhole, IsReadWithin}
use Rattle.hm_run_io.specs.Writes.{WritesOnce}
use Rattle.hm_run_io.specs.declared.faults.RunFault.{RunFault}
use Rattle.hm_run_io.specs.declared.faults.RunFault.TheVariants.{Workers, Read, Write, Memory, NoWorker, Mixed}
use Rattle.hm_run_io.specs.declared.watched.Watched.{Watched}

-- Faults

number : RunFault → ℕ
number Workers = 0
number Read = 1
number Write = 2
number Memory = 3
number NoWorker = 4
number Mixed = 5

fault_of : {T : Type 0} → Result T RunFault → RunFault
fault_of (Ok x) = Mixed
fault_of (Err e) = e

-- the fault of a result that is an error
is_fault : {T : Type 0} (e f : RunFault) → IsErrOf {T = T} (Err e) f → e ≡ f
unfolding fault_of
is_fault e f is = ap fault_of is

-- a fault is the same, whatever the result would have been
again : {S T : Type 0} (e f : RunFault) → IsErrOf {T = S} (Err e) f → IsErrOf {T = T} (Err e) f
again e f is = ap Err (is_fault e f is)

-- a status is no fault
no_fault : {T : Type 0} (x : T) (f : RunFault) → ¬ (IsErrOf {T = T} (Ok x) f)
no_fault x f is = absurd (cc)

-- faults with two numbers are two
clash : (e f : RunFault) → e ≡ f → ¬ (number e ≡ number f) → ⊥
clash e f is not = not (ap number is)

-- a fault after reading is none of reading, and none of the number of workers
after_reading : (e f : RunFault) → (e ≡ Write) ⊎ ((e ≡ Memory) ⊎ ((e ≡ NoWorker) ⊎ (e ≡ Mixed))) → number f < 2 → ¬ (e ≡ f)
unfolding number
after_reading e f why low is =
    ⊎_elim (λ q. let z : number f ≡ 2 = ap number (sym is ∙ q) in absurd (omega (arith, low, z)))
    (λ v. ⊎_elim (λ q. let z : number f ≡ 3 = ap number (sym is ∙ q) in absurd (omega (arith, low, z)))
    (λ w. ⊎_elim (λ q. let z : number f ≡ 4 = ap number (sym is ∙ q) in absurd (omega (arith, low, z))) (λ q. let z : number f ≡ 5 = ap number (sym is ∙ q) in absurd (omega (arith, low, z))) w) v) why

-- a fault before the write is none of it
before_writing : (e : RunFault) → (e ≡ Workers) ⊎ ((e ≡ Read) ⊎ ((e ≡ Memory) ⊎ ((e ≡ NoWorker) ⊎ (e ≡ Mixed)))) → ¬ (e ≡ Write)
unfolding number
before_writing e why is =
    let at : number e ≡ 2 = ap number is in
    ⊎_elim (λ q. let z : number e ≡ 0 = ap number q in absurd (omega (arith, at, z)))
    (λ u. ⊎_elim (λ q. let z : number e ≡ 1 = ap number q in absurd (omega (arith, at, z)))
    (λ v. ⊎_elim (λ q. let z : number e ≡ 3 = ap number q in absurd (omega (arith, at, z)))
    (λ w. ⊎_elim (λ q. let z : number e ≡ 4 = ap number q in absurd (omega (arith, at, z))) (λ q. let z : number e ≡ 5 = ap number q in absurd (omega (arith, at, z))) w) v) u) why

-- a fault of reading is that or one of memory
of_reading : (e f : RunFault) → (e ≡ Read) ⊎ (e ≡ Memory) → ¬ (f ≡ Read) → ¬ (f ≡ Memory) → ¬ (e ≡ f)
of_reading e f why read memory is = ⊎_elim (λ q. read (sym is ∙ q)) (λ q. memory (sym is ∙ q)) why

-- Readers

-- reading stopped at a reader
pub reads_stopped : {R S T : Type 0} (remaining : R → Option (List ℕ)) (olds news : List (Watched R)) (i : ℕ) (r : Watched R) (e : RunFault)
    → length news ≡ length olds → i < length olds
    → ((k : ℕ) (d : Watched R) → k < i → IsReadUp (remaining (device_of (get_or olds k d))) (remaining (device_of (get_or news k d))))
    → ((k : ℕ) (d : Watched R) → i ≤ k → k < length news → get_or news k d ≡ get_or olds k d)
    → All IsReadWithin news → IsReadWithin r → All (λ r. failures_of r ≡ 0) news
    → (IsErrOf {T = S} (Err e) Memory → failures_of r ≡ 0) → (IsErrOf {T = S} (Err e) Read → HasReadFault r) → (e ≡ Read) ⊎ (e ≡ Memory)
    → ReadsAll {T = T} remaining olds (set news i r) (Err e)
unfolding number
reads_stopped remaining olds news i r e long inside up past within last none memory read why = record {
  whole = tt;
  read_up = tt;
  read_up_before_a_write = λ f. absurd (of_reading e Write why (λ q. clash Write Read q (omega arith)) (λ q. clash Write Memory q (omega arith)) (is_fault e Write f));
  read_up_before_a_build = λ either. absurd (⊎_elim (λ f. of_reading e NoWorker why (λ q. clash NoWorker Read q (omega arith)) (λ q. clash NoWorker Memory q (omega arith)) (is_fault e NoWorker f)) (λ f. of_reading e Mixed why (λ q. clash Mixed Read q (omega arith)) (λ q. clash Mixed Memory q (omega arith)) (is_fault e Mixed f)) either);
  stops = λ f. record {
    place = i;
    stops = stops_at (λ r. remaining (device_of r)) olds news i r long inside up past;
    fault = found_set HasReadFault olds news i r long inside (read (again e Read f));
  };
  in_order = λ f. inr (stops (λ r. remaining (device_of r)) olds news i r long inside up past);
  unread = λ f. absurd (of_reading e Workers why (λ q. clash Workers Read q (omega arith)) (λ q. clash Workers Memory q (omega arith)) (is_fault e Workers f));
  within = all_set IsReadWithin news i r within last;
  failed = ⊎_elim (λ q. inl (ap Err q)) (λ q. inr (all_set (λ r. failures_of r ≡ 0) news i r none (memory (ap Err q)))) why;
  read = λ f. some_set HasReadFault news i r (omega (arith, long)) (read (again e Read f));
}

-- memory ran out after this reader was read
pub reads_stopped_by_memory : {R T : Type 0} (remaining : R → Option (List ℕ)) (olds news : List (Watched R)) (i : ℕ) (r : Watched R)
    → length news ≡ length olds → i < length olds
    → ((k : ℕ) (d : Watched R) → k < i → IsReadUp (remaining (device_of (get_or olds k d))) (remaining (device_of (get_or news k d))))
    → ((k : ℕ) (d : Watched R) → i ≤ k → k < length news → get_or news k d ≡ get_or olds k d)
    → All IsReadWithin news → IsReadWithin r → All (λ r. failures_of r ≡ 0) news → failures_of r ≡ 0
    → ReadsAll {T = T} remaining olds (set news i r) (Err Memory)
unfolding number
reads_stopped_by_memory {T = T} remaining olds news i r long inside up past within last none ok =
    reads_stopped {S = T} remaining olds news i r Memory long inside up past within last none (λ f. ok) (λ f. absurd (clash Memory Read (is_fault Memory Read f) (omega arith))) (inr refl)

-- all readers were read
pub reads_ended : {R T : Type 0} (remaining : R → Option (List ℕ)) (olds news : List (Watched R)) (x : T)
    → All IsReadWhole news → AreReadUp (λ r. remaining (device_of r)) olds news → All IsReadWithin news → All (λ r. failures_of r ≡ 0) news
    → ReadsAll remaining olds news (Ok x)
reads_ended remaining olds news x whole up within none = record {
  whole = whole;
  read_up = up;
  read_up_before_a_write = λ f. absurd (no_fault x Write f);
  read_up_before_a_build = λ f. absurd (⊎_elim (no_fault x NoWorker) (no_fault x Mixed) f);
  stops = λ f. absurd (no_fault x Read f);
  in_order = λ f. absurd (no_fault x Memory f);
  unread = λ f. absurd (no_fault x Workers f);
  within = within;
  failed = inr none;
  read = λ f. absurd (no_fault x Read f);
}

-- a fault says the same of readers, whatever the result would have been
reads_again : {R S T : Type 0} (remaining : R → Option (List ℕ)) (olds news : List (Watched R)) (e : RunFault)
    → ReadsAll {T = S} remaining olds news (Err e) → ReadsAll {T = T} remaining olds news (Err e)
reads_again remaining olds news e h = record {
  whole = tt;
  read_up = tt;
  read_up_before_a_write = λ is. h.read_up_before_a_write (again e Write is);
  read_up_before_a_build = λ either. h.read_up_before_a_build (⊎_elim (λ is. inl (again e NoWorker is)) (λ is. inr (again e Mixed is)) either);
  stops = λ is. h.stops (again e Read is);
  in_order = λ is. h.in_order (again e Memory is);
  unread = λ is. h.unread (again e Workers is);
  within = h.within;
  failed = ⊎_elim (λ is. inl (again e Read is)) (λ all. inr all) h.failed;
  read = λ is. h.read (again e Read is);
}

-- if a call's fault is passed on, the run did with its readers what the call did
pub reads_passed_on : {R S T : Type 0} (remaining : R → Option (List ℕ)) (olds news : List (Watched R)) (e : RunFault) (result : Result T RunFault) → result ≡ Err e
    → ReadsAll {T = S} remaining olds news (Err e) → ReadsAll remaining olds news result
reads_passed_on remaining olds news e result is h = subst (λ r. ReadsAll remaining olds news r) (sym is) (reads_again remaining olds news e h)

-- all readers were read before a later fault
pub reads_before : {R S T : Type 0} (remaining : R → Option (List ℕ)) (olds news : List (Watched R)) (x : S) (e : RunFault) (result : Result T RunFault) → result ≡ Err e
    → (e ≡ Write) ⊎ ((e ≡ Memory) ⊎ ((e ≡ NoWorker) ⊎ (e ≡ Mixed)))
    → ReadsAll remaining olds news (Ok x) → ReadsAll remaining olds news result
unfolding number
reads_before remaining olds news x e result is why h = subst (λ r. ReadsAll remaining olds news r) (sym is) (record {
  whole = tt;
  read_up = tt;
  read_up_before_a_write = λ f. h.read_up;
  read_up_before_a_build = λ f. h.read_up;
  stops = λ f. absurd (after_reading e Read why (omega arith) (is_fault e Read f));
  in_order = λ f. inl h.read_up;
  unread = λ f. absurd (after_reading e Workers why (omega arith) (is_fault e Workers f));
  within = h.within;
  failed = ⊎_elim (λ f. absurd (no_fault x Read f)) (λ all. inr all) h.failed;
  read = λ f. absurd (after_reading e Read why (omega arith) (is_fault e Read f));
})

-- a run that reads by one call and succeeds did with its readers what the call did
pub reads_done : {R S T : Type 0} (remaining : R → Option (List ℕ)) (olds news : List (Watched R)) (x : S) (y : T)
    → ReadsAll remaining olds news (Ok x) → ReadsAll remaining olds news (Ok y)
reads_done remaining olds news x y h = reads_ended remaining olds news y h.whole h.read_up h.within (⊎_elim (λ f. absurd (no_fault x Read f)) (λ all. all) h.failed)

-- the number of workers is refused, and no reader was read
pub reads_nothing : {R T : Type 0} (remaining : R → Option (List ℕ)) (readers : List (Watched R)) → All IsFresh readers → ReadsAll {T = T} remaining readers readers (Err Workers)
unfolding number
reads_nothing remaining readers fresh = record {
  whole = tt;
  read_up = tt;
  read_up_before_a_write = λ f. absurd (clash Workers Write (is_fault Workers Write f) (omega arith));
  read_up_before_a_build = λ either. absurd (⊎_elim (λ f. clash Workers NoWorker (is_fault Workers NoWorker f) (omega arith)) (λ f. clash Workers Mixed (is_fault Workers Mixed f) (omega arith)) either);
  stops = λ f. absurd (clash Workers Read (is_fault Workers Read f) (omega arith));
  in_order = λ f. absurd (clash Workers Memory (is_fault Workers Memory f) (omega arith));
  unread = λ f. refl;
  within = All-weaker IsFresh IsReadWithin (λ r h. record { reads = omega (arith, h.reads); bytes = omega (arith, h.bytes); failures = omega (arith, h.failures) }) readers fresh;
  failed = inr (All-weaker IsFresh (λ r. failures_of r ≡ 0) (λ r h. h.failures) readers fresh);
  read = λ f. absurd (clash Workers Read (is_fault Workers Read f) (omega arith));
}

-- Writers

-- a run that failed before its write did nothing with its writer
pub writes_nothing : {W T : Type 0} (w : Watched W) (e : RunFault) (result : Result T RunFault) → result ≡ Err e → IsFresh w
    → (e ≡ Workers) ⊎ ((e ≡ Read) ⊎ ((e ≡ Memory) ⊎ ((e ≡ NoWorker) ⊎ (e ≡ Mixed)))) → WritesOnce w w result
writes_nothing w e result is fresh why = subst (λ r. WritesOnce w w r) (sym is) (record {
  flushed = tt;
  nothing = inl refl;
  once = record { failures = omega (arith, fresh.failures); interrupts = omega (arith, fresh.interrupts); flushes = omega (arith, fresh.flushes) };
  written = inr (record { failures = fresh.failures; interrupts = omega (arith, fresh.interrupts) });
  write = λ f. absurd (before_writing e why (is_fault e Write f));
})
