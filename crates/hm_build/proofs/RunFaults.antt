-- What a fault of a reader says of a run.
use Rattle.std.proofs.Common.{◌≡◌, ◌⊎◌, ◌<◌, ◌≤◌, ℕ, IfErr, IfSome, IsErrOf, Option, Some, None, Result, Ok, Err, inl, inr, ⊎_elim, sym, ap, subst, ◌∙◌, arith}
use Rattle.hm_run_io.specs.Watching.{HasWriteFault, IsWrittenOnce}
use Rattle.hm_run_io.specs.Writes.{WritesOnce}
use Rattle.hm_run_io.specs.declared.faults.RunFault.{RunFault}
use Rattle.hm_run_io.specs.declared.faults.RunFault.TheVariants.{Workers, Read, Write, Memory, NoWorker, Mixed}
use Rattle.hm_run_io.specs.declared.watched.Watched.{Watched}

number : RunFault → ℕ
number Workers = 0
number Read = 1
number Write = 2
number Memory = 3
number NoWorker = 4
number Mixed = 5

fault_of : {T : Type 0} → Result T RunFault → RunFault
fault_of (Ok x) = Mixed
fault_of (Err e) = e

-- a fault of reading isn't one of the number of workers, which is a right one
pub only_read_faults : {T : Type 0} (n : ℕ) (r : Result T RunFault) (e : RunFault) → r ≡ Err e → (e ≡ Read) ⊎ (e ≡ Memory) → 0 < n → n ≤ 16 → (IsErrOf r Workers → (n ≡ 0) ⊎ (16 < n)) × ((n ≡ 0) ⊎ (16 < n) → IsErrOf r Workers)
unfolding number fault_of
only_read_faults n r e is why low high = (
  (λ w. let at : Workers ≡ e = ap fault_of (sym w ∙ is) in ⊎_elim (λ q. let z : 0 ≡ 1 = ap number (at ∙ q) in absurd (omega (arith, z))) (λ q. let z : 0 ≡ 3 = ap number (at ∙ q) in absurd (omega (arith, z))) why),
  (λ b. ⊎_elim (λ z. absurd (omega (arith, z, low))) (λ m. absurd (omega (arith, m, high))) b),
)

-- what comes before a write is no fault of it
pub not_of_writing : {T : Type 0} (e : RunFault) → (e ≡ Workers) ⊎ ((e ≡ Read) ⊎ ((e ≡ Memory) ⊎ ((e ≡ NoWorker) ⊎ (e ≡ Mixed)))) → ¬ (IsErrOf {T = T} (Err e) Write)
unfolding number fault_of
not_of_writing e why is =
    let at : e ≡ Write = ap fault_of is in
    ⊎_elim (λ q. let z : 0 ≡ 2 = ap number (sym q ∙ at) in absurd (omega (arith, z)))
    (λ v. ⊎_elim (λ q. let z : 1 ≡ 2 = ap number (sym q ∙ at) in absurd (omega (arith, z)))
    (λ u. ⊎_elim (λ q. let z : 3 ≡ 2 = ap number (sym q ∙ at) in absurd (omega (arith, z)))
    (λ w. ⊎_elim (λ q. let z : 4 ≡ 2 = ap number (sym q ∙ at) in absurd (omega (arith, z))) (λ q. let z : 5 ≡ 2 = ap number (sym q ∙ at) in absurd (omega (arith, z))) w) u) v) why

-- what follows from what is so of something holds of it where there is something
pub some_more : {X : Type 0} {P Q : X → Type 0} (o : Option X) → ((x : X) → P x → Q x) → IfSome o P → IfSome o Q
some_more (Some x) f h = f x h
some_more None f h = tt

-- what holds where there is something holds of it
pub some_at : {X : Type 0} (P : X → Type 0) (o : Option X) (x : X) → o ≡ Some x → IfSome o P → P x
some_at P o x is h = subst (λ p. IfSome p P) is h

-- a fault that comes before a write is one of all
pub one_of_all : {T : Type 0} (r : Result T RunFault) (e : RunFault) → r ≡ Err e → (e ≡ Workers) ⊎ ((e ≡ Read) ⊎ ((e ≡ Memory) ⊎ ((e ≡ NoWorker) ⊎ (e ≡ Mixed))))
    → IfErr r (λ f. (f ≡ Workers) ⊎ ((f ≡ Read) ⊎ ((f ≡ Write) ⊎ ((f ≡ Memory) ⊎ ((f ≡ NoWorker) ⊎ (f ≡ Mixed))))))
one_of_all r e is why =
    subst (λ q. IfErr q (λ f. (f ≡ Workers) ⊎ ((f ≡ Read) ⊎ ((f ≡ Write) ⊎ ((f ≡ Memory) ⊎ ((f ≡ NoWorker) ⊎ (f ≡ Mixed))))))) (sym is)
    (⊎_elim (λ a. inl a) (λ b. inr (⊎_elim (λ a. inl a) (λ d. inr (inr d)) b)) why)

-- a run whose write failed
pub writes_failed : {W T : Type 0} (old new : Watched W) (e : RunFault) (result : Result T RunFault) → result ≡ Err e → e ≡ Write → IsWrittenOnce new → HasWriteFault new → WritesOnce old new result
writes_failed old new e result is write once cause = subst (λ r. WritesOnce old new r) (sym is) (record { flushed = tt; nothing = inr (ap Err write); once = once; written = inl (ap Err write); write = λ f. cause })
