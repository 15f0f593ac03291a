-- The worked readers and writers.
use Rattle.std.proofs.Common.{◌≡◌, ◌<◌, ℕ, zero, suc, List, [], ◌∷◌, Option, None, Some, Err, inl, inr, ⊎_elim, refl, sym, ap, subst, ◌∙◌, arith, length, drop, get_or}
use Rattle.std.proofs.lemmas.List.{drop_all}
use Rattle.std.proofs.lemmas.List.Elements.{All-cons, All-nil}
use Rattle.hm_run_io.specs.Sources.{AreReadUp, IsReadUp}
use Rattle.hm_run_io.specs.Watching.{device_of, failures_of, HasReadFault, IsFresh, IsReadWhole, IsReadWithin}
use Rattle.hm_run_io.specs.declared.watched.Watched.{Watched}
use Rattle.hm_run_io.specs.Reads.{ReadsAll}
use Rattle.hm_run_io.specs.Worked.{AreTwoBytes, ReadersRow, WriterRow, of_fault, status}
use Rattle.hm_run_io.proofs.Runs.{reads_before, reads_ended, reads_nothing, writes_nothing}
use Rattle.hm_run_io.specs.declared.faults.RunFault.TheVariants as fault

-- what holds of the only reader holds of each
each_one : (P : ℕ → Watched (List ℕ) → Watched (List ℕ) → Type 0) (old new : Watched (List ℕ)) → P 0 old new
    → (k : ℕ) (d : Watched (List ℕ)) → k < 1 → P k (get_or (old ∷ []) k d) (get_or (new ∷ []) k d)
each_one P old new h zero d less = h
each_one P old new h (suc k) d less = absurd (omega (arith, less))

read_up : (old new : Watched (List ℕ)) → AreTwoBytes old new → AreReadUp (λ r. Some (device_of r)) (old ∷ []) (new ∷ [])
read_up old new two = record {
  as_many = refl;
  each = each_one (λ k a b. IsReadUp (Some (device_of a)) (Some (device_of b))) old new (ap Some (two.left ∙ sym (ap (drop 1048577) two.had ∙ drop_all 1048577 (104 ∷ 109 ∷ []) (omega arith))));
}

good : (old new : Watched (List ℕ)) → AreTwoBytes old new → ReadsAll Some (old ∷ []) (new ∷ []) status
good old new two = reads_ended Some (old ∷ []) (new ∷ []) 0
    (All-cons IsReadWhole new [] (record { all = two.bytes ∙ sym (ap length two.given); whole = inl two.ended }) (All-nil IsReadWhole))
    (read_up old new two)
    (All-cons IsReadWithin new [] (record { reads = omega (arith, two.reads); bytes = omega (arith, two.bytes); failures = omega (arith, two.failures) }) (All-nil IsReadWithin))
    (All-cons (λ r. failures_of r ≡ 0) new [] two.failures (All-nil (λ r. failures_of r ≡ 0)))

not_read : (old new : Watched (List ℕ)) → AreTwoBytes old new → ¬ (ReadsAll Some (old ∷ []) (new ∷ []) (of_fault fault.Read))
not_read old new two h =
    let s = h.stops refl in
    let first : s.place ≡ 0 = omega (arith, s.stops.inside) in
    let f : HasReadFault new = subst (λ k. HasReadFault (get_or (new ∷ []) k old)) first (s.fault old) in
    ⊎_elim (λ l. absurd (omega (arith, l, two.failures))) (λ m. absurd (omega (arith, m, two.reads))) f

bytes_in : Option (List ℕ) → List ℕ
bytes_in None = []
bytes_in (Some bytes) = bytes

not_unread : (old new : Watched (List ℕ)) → AreTwoBytes old new → ¬ (ReadsAll Some (old ∷ []) (old ∷ []) status)
unfolding bytes_in
not_unread old new two h =
    let same : device_of old ≡ drop 1048577 (device_of old) = ap bytes_in (h.read_up.each 0 old (omega arith)) in
    let none : device_of old ≡ [] = same ∙ (ap (drop 1048577) two.had ∙ drop_all 1048577 (104 ∷ 109 ∷ []) (omega arith)) in
    let two_is_none : 2 ≡ 0 = ap length (sym two.had ∙ none) in
    absurd (omega (arith, two_is_none))

pub readers : ReadersRow
readers = record {
  good = good;
  write = λ old new two. reads_before Some (old ∷ []) (new ∷ []) 0 fault.Write (of_fault fault.Write) refl (inl refl) (good old new two);
  not_read = not_read;
  unread = λ old fresh. reads_nothing Some (old ∷ []) (All-cons IsFresh old [] fresh (All-nil IsFresh));
  not_unread = not_unread;
}

pub writer : WriterRow
writer = record {
  nothing = λ w fresh. writes_nothing w fault.Read (Err fault.Read) refl fresh (inr (inl refl));
  not_good = λ w fresh h. absurd (omega (arith, h.flushed.flushes, fresh.flushes));
  not_twice = λ old new twice h. absurd (omega (arith, h.once.flushes, twice));
}
