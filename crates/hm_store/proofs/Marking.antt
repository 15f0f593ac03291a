-- The marks of entries that calls wrote.
use Rattle.std.proofs.Common.{◌≡◌, ◌==◌, ◌&&◌, ℕ, ◌+◌, ◌<◌, ◌≤◌, Bool, true, false, cond, not, List, [], ◌∷◌, ◌++◌, length, get_or, take, count_by, sum_by, refl, sym, ap, subst, ◌∙◌, arith}
use Rattle.std.proofs.lemmas.Bool.{eq-eqb, false≢true}
use Rattle.std.proofs.lemmas.List.{take_more}
use Rattle.std.proofs.lemmas.List.Sums.{sum_by_more_le, sum_by-append, sum_by-take-le}
use Rattle.hm_store.specs.Agreement.{writers, writes_at}
use Rattle.hm_store.specs.AuditsInside.{IsTwice, Marks, mark}
use Rattle.hm_store.specs.Records.{wrote}
use Rattle.hm_store.specs.declared.record.Call.{Call}
use Rattle.hm_store.specs.declared.record.Record.{Record}

pub from_not_false : (b : Bool) → not b ≡ false → b ≡ true
from_not_false true h = refl
from_not_false false h = absurd (false≢true (sym h))

wrote_here : (b : Bool) (n : ℕ) → b ≡ true → ◌≡◌ {A = ℕ} (cond (b && (n == n)) 1 0) 1
wrote_here b n h = rw (h, eq-eqb n n refl) refl

-- a call that wrote an entry that has its mark
pub marked_already : (marks : List Bool) (c : Call) → (wrote c.act == 1) ≡ true → c.at < length marks → get_or marks c.at false ≡ true → IsTwice marks (λ i. cond (writes_at i c) 1 0)
marked_already marks c writes lt is = record {
  entry = c.at;
  within = lt;
  more = let m : mark marks c.at ≡ 1 = rw is refl in let w = wrote_here (wrote c.act == 1) c.at writes in omega (arith, m, w);
}

-- a call among others whose entry has its mark by then
pub marked_by_then : (old now : List Bool) (calls : List Call) (k : ℕ) (c : Call) → Marks old (λ i. count_by (writes_at i) (take k calls)) now → k < length calls → c ≡ get_or calls k c → IsTwice now (λ i. cond (writes_at i c) 1 0)
    → IsTwice old (λ i. count_by (writes_at i) calls)
marked_by_then old now calls k c marks lt is twice =
    let e = twice.entry in
    let within : e < length old = subst (λ n. e < n) marks.len twice.within in
    let before = marks.each e within in
    let all : sum_by (λ d. cond (writes_at e d) 1 0) (take k calls) + cond (writes_at e c) 1 0 ≤ sum_by (λ d. cond (writes_at e d) 1 0) calls =
    subst (λ x. sum_by (λ d. cond (writes_at e d) 1 0) (take k calls) + cond (writes_at e x) 1 0 ≤ sum_by (λ d. cond (writes_at e d) 1 0) calls) (sym is) (sum_by_more_le (λ d. cond (writes_at e d) 1 0) calls k c lt) in
    let more = twice.more in
    record { entry = e; within = within; more = omega (arith, before, all, more) }

-- the marks after some records
pub record AreMarked (marks : List Bool) (entries : ℕ) (records : List Record) : Type 0 where
  pub len : length marks ≡ entries
  pub each : (i : ℕ) → i < entries → mark marks i ≡ writers i records

writers_more : (i : ℕ) (records : List Record) (k : ℕ) (r : Record) → k < length records → r ≡ get_or records k r → writers i (take (k + 1) records) ≡ writers i (take k records) + count_by (writes_at i) r.calls.items
writers_more i records k r lt is =
    let more : take (k + 1) records ≡ take k records ++ r ∷ [] = take_more records k r lt ∙ ap (λ x. take k records ++ x ∷ []) (sym is) in
    let sums = sum_by-append (λ (x : Record). count_by (writes_at i) x.calls.items) (take k records) (r ∷ []) in
    omega (arith, ap (writers i) more, sums)

-- an entry that is written twice
pub written_twice : (marks lent : List Bool) (entries : ℕ) (records : List Record) (k : ℕ) (r : Record) (calls : List Call) → AreMarked marks entries (take k records) → k < length records → r ≡ get_or records k r
    → lent ≡ marks → calls ≡ r.calls.items → IsTwice lent (λ i. count_by (writes_at i) calls) → ¬ ((i : ℕ) → i < entries → writers i records ≡ 1)
written_twice marks lent entries records k r calls marked lt is same_marks same_calls twice_lent once =
    let twice : IsTwice marks (λ i. count_by (writes_at i) r.calls.items) = subst (λ ms. IsTwice ms (λ i. count_by (writes_at i) r.calls.items)) same_marks (subst (λ cs. IsTwice lent (λ i. count_by (writes_at i) cs)) same_calls twice_lent) in
    let e = twice.entry in
    let below : e < entries = subst (λ n. e < n) marked.len twice.within in
    let a = marked.each e below in
    let m = writers_more e records k r lt is in
    let all = sum_by-take-le (λ (x : Record). count_by (writes_at e) x.calls.items) records (k + 1) in
    let o = once e below in
    let more = twice.more in
    absurd (omega (arith, a, m, all, o, more))
