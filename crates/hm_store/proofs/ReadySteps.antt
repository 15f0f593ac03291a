-- The counts and the heap of ready modules: what they say of a claim, and how they go along with the steps.
use Rattle.std.proofs.Common.{◌≡◌, ◌≢◌, ◌==◌, ◌&&◌, ◌||◌, ℕ, zero, suc, ◌+◌, ◌-◌, ◌<◌, ◌≤◌, ◌⊎◌, inl, inr, ⊎_elim, Bool, true, false, not, cond, List, [], ◌∷◌, length, set, get_or, map, Contains, All, None, count_by, refl, sym, ap, subst, ◌∙◌, arith, zero-add}
use Rattle.std.specs.Prelude.{nat_lt, slice_index}
use Rattle.std.specs.List.{list_all, list_any}
use Rattle.std.specs.List.Sorted.{IsStrictlyIncreasing}
use Rattle.std.specs.BinaryHeap.{IsHeap, heap_items, heap_len, heap_capacity}
use Rattle.std.specs.Ordering.{nat_cmp}
use Rattle.std.proofs.lemmas.Bool.{cases_eq, cases_lt, cases_Bool, eq-eqb, ne_eqb, lt-ltb, false≢true, and_parts, and_left, false_from_ne_true}
use Rattle.std.proofs.lemmas.List.{get_or_past, get_or_default, get_or-map, get_or-replicate, get_or-set_same, get_or-set_other, length-map, length-replicate}
use Rattle.std.proofs.lemmas.List.Elements.{All-contains}
use Rattle.std.proofs.lemmas.List.Folds.{sum_by-replicate}
use Rattle.std.proofs.lemmas.List.Sums.{sum_by-cons, sum_by-set, AllPass-from_list_all}
use Rattle.hm_graph_components.proofs.Members.{Contains-nil}
use Rattle.hm_graph_components.specs.Digraph.{Reaches}
use Rattle.hm_graph.specs.Importers.{IsImporterList}
use Rattle.hm_graph.specs.Steps.{IsOnce}
use Rattle.hm_store.specs.Plans.{Given, AreDependents, imports_of, dependents_of}
use Rattle.hm_store.specs.Readiness.{Heap, times, open_among, count_at, is_free, IsHeapOf, HasRoom, KeepsReady}
use Rattle.hm_store.specs.Objects.{status_at, is_waiting, is_claimed, is_published, is_ready, least_below, reply_of, all_waiting, skip, skip_all}
use Rattle.hm_store.specs.declared.object.Status.{Status}
use Rattle.hm_store.specs.declared.object.Status.TheVariants.{Waiting, Claimed, Published, Failed, Skipped}
use Rattle.hm_store.specs.declared.object.Claimed.TheVariants.{Job, Later, Done}
use Rattle.hm_store.proofs.Following.{IsFollowing, first_step, is_started, reached_is_published}
use Rattle.hm_store.proofs.OpenImports.{none_below}
use Rattle.hm_store.proofs.Replies.{least_is}
use Rattle.hm_store.proofs.Skipping.{IsSkipOf, skipped, waits, within}

-- one summand first
open_cons : (ss : List Status) (k : ℕ) (ks : List ℕ) → open_among ss (k ∷ ks) ≡ cond (not (is_published (status_at ss k))) 1 0 + open_among ss ks
open_cons ss k ks = sum_by-cons (λ (j : ℕ). cond (not (is_published (status_at ss j))) 1 0) k ks

open_step : (b : Bool) (n : ℕ) (all : Bool) → (n == 0) ≡ all → ((cond (not b) 1 0 + n) == 0) ≡ (b && all)
open_step true n all h = rw zero-add h
open_step false n all h = ne_eqb (1 + n) 0 (λ e. omega (arith, e))

-- none is open where all are published
none_open : (ss : List Status) (ks : List ℕ) → (open_among ss ks == 0) ≡ list_all (λ k. is_published (status_at ss k)) ks
none_open ss [] = refl
none_open ss (k ∷ ks) = rw (open_cons ss k ks) (open_step (is_published (status_at ss k)) (open_among ss ks) (list_all (λ j. is_published (status_at ss j)) ks) (none_open ss ks))

pub free_is_ready : (g : Given) (ss : List Status) (counts : List ℕ) → ((k : ℕ) → count_at counts k ≡ open_among ss (imports_of g k)) → (k : ℕ) → is_free ss counts k ≡ is_ready g ss k
free_is_ready g ss counts h k = rw (h k) (ap (λ (b : Bool). is_waiting (status_at ss k) && b) (none_open ss (imports_of g k)))

-- statuses of which the same are published have the same modules open
open_same : (old new : List Status) → ((k : ℕ) → is_published (status_at new k) ≡ is_published (status_at old k)) → (ks : List ℕ) → open_among new ks ≡ open_among old ks
open_same old new same [] = refl
open_same old new same (k ∷ ks) = rw (open_cons new k ks, open_cons old k ks, same k, open_same old new same ks) refl

all_same : (p q : ℕ → Bool) → ((k : ℕ) → p k ≡ q k) → (ks : List ℕ) → list_all p ks ≡ list_all q ks
all_same p q same [] = refl
all_same p q same (k ∷ ks) = rw (same k, all_same p q same ks) refl

ready_same : (g : Given) (old new : List Status) (k : ℕ) → status_at new k ≡ status_at old k → ((j : ℕ) → is_published (status_at new j) ≡ is_published (status_at old j)) → is_ready g new k ≡ is_ready g old k
ready_same g old new k here same = rw (here, all_same (λ j. is_published (status_at new j)) (λ j. is_published (status_at old j)) same (imports_of g k)) refl

ready_not : (g : Given) (ss : List Status) (k : ℕ) (s : Status) → status_at ss k ≡ s → is_waiting s ≡ false → is_ready g ss k ≡ false
ready_not g ss k s is not_waiting = and_left (is_waiting (status_at ss k)) (list_all (λ j. is_published (status_at ss j)) (imports_of g k)) (ap is_waiting is ∙ not_waiting)

-- a status with the same test as the one before it
test_set : (test : Status → Bool) (ss : List Status) (m : ℕ) (s : Status) → m < length ss → test s ≡ test (status_at ss m) → (k : ℕ) → test (status_at (set ss m s) k) ≡ test (status_at ss k)
test_set test ss m s lt same k = ⊎_elim
    (λ (e : k ≡ m). rw (e, get_or-set_same ss m s Skipped lt) same)
    (λ (ne : k ≢ m). ap test (get_or-set_other ss m k s Skipped ne))
    (cases_eq k m)

-- what a publication closes
closes : (ss : List Status) (m k : ℕ) → m < length ss → is_published (status_at ss m) ≡ false
    → cond (not (is_published (status_at (set ss m Published) k))) 1 0 + cond (k == m) 1 0 ≡ cond (not (is_published (status_at ss k))) 1 0
closes ss m k lt still = ⊎_elim
    (λ (e : k ≡ m). rw (e, get_or-set_same ss m Published Skipped lt, still, eq-eqb m m refl) refl)
    (λ (ne : k ≢ m). rw (get_or-set_other ss m k Published Skipped ne, ne_eqb k m ne) (omega arith))
    (cases_eq k m)

open_published : (ss : List Status) (m : ℕ) → m < length ss → is_published (status_at ss m) ≡ false → (ks : List ℕ) → open_among (set ss m Published) ks + count_by (λ j. j == m) ks ≡ open_among ss ks
open_published ss m lt still [] = refl
open_published ss m lt still (k ∷ ks) =
    let c = closes ss m k lt still in
    let r = open_published ss m lt still ks in
    let x = open_cons (set ss m Published) k ks in
    let y = open_cons ss k ks in
    let z = sum_by-cons (λ (j : ℕ). cond (j == m) 1 0) k ks in
    omega (arith, c, r, x, y, z)

-- how often a number stands in a list where none stands twice
once_rest : (x : ℕ) (xs : List ℕ) → IsOnce (x ∷ xs) → IsOnce xs
once_rest x xs h p q l lt = h (suc p) (suc q) (omega (arith, l)) (omega (arith, lt))

once_first : (x : ℕ) (xs : List ℕ) → IsOnce (x ∷ xs) → ¬ Contains xs x
once_first x xs h (k, lt, is) = h 0 (suc k) (omega arith) (omega (arith, lt)) (sym is ∙ get_or_default xs k x 0 lt)

later : (x : ℕ) (xs : List ℕ) (m : ℕ) → Contains xs m → Contains (x ∷ xs) m
later x xs m (k, lt, is) = (suc k, omega (arith, lt), is)

counted_or_absent : (xs : List ℕ) (m : ℕ) → Contains xs m ⊎ (count_by (λ j. j == m) xs ≡ 0)
counted_or_absent [] m = inr refl
counted_or_absent (x ∷ xs) m = ⊎_elim
    (λ (e : x ≡ m). inl (0, omega arith, e))
    (λ (ne : x ≢ m). ⊎_elim
    (λ (c : Contains xs m). inl (later x xs m c))
    (λ (none : count_by (λ j. j == m) xs ≡ 0). let z = sum_by-cons (λ (j : ℕ). cond (j == m) 1 0) x xs in inr (z ∙ rw (ne_eqb x m ne, none) refl))
    (counted_or_absent xs m))
    (cases_eq x m)

absent : (xs : List ℕ) (m : ℕ) → ¬ Contains xs m → count_by (λ j. j == m) xs ≡ 0
absent xs m no_one = ⊎_elim (λ (c : Contains xs m). absurd (no_one c)) (λ (e : count_by (λ j. j == m) xs ≡ 0). e) (counted_or_absent xs m)

present : (xs : List ℕ) (m : ℕ) → IsOnce xs → Contains xs m → count_by (λ j. j == m) xs ≡ 1
present [] m h (k, lt, is) = absurd (omega (arith, lt))
present (x ∷ xs) m h (zero, lt, is) =
    let z = sum_by-cons (λ (j : ℕ). cond (j == m) 1 0) x xs in
    let rest : count_by (λ j. j == m) xs ≡ 0 = absent xs m (rw is at (once_first x xs h)) in
    z ∙ rw (eq-eqb x m is, rest) refl
present (x ∷ xs) m h (suc k, lt, is) =
    let z = sum_by-cons (λ (j : ℕ). cond (j == m) 1 0) x xs in
    let there : Contains xs m = (k, omega (arith, lt), is) in
    let rest : count_by (λ j. j == m) xs ≡ 1 = present xs m (once_rest x xs h) there in
    let first : x ≢ m = λ e. once_first x xs h (rw e there) in
    z ∙ rw (ne_eqb x m first, rest) refl

rises_far : (xs : List ℕ) → IsStrictlyIncreasing xs → (p d : ℕ) → p + suc d < length xs → slice_index xs p < slice_index xs (p + suc d)
rises_far xs h p zero lt = let e : p + suc zero ≡ p + 1 = omega arith in rw e (h p (omega (arith, lt)))
rises_far xs h p (suc d) lt =
    let e : p + suc (suc d) ≡ (p + suc d) + 1 = omega arith in
    let before = rises_far xs h p d (omega (arith, lt)) in
    let next = h (p + suc d) (omega (arith, lt)) in
    rw e (omega (arith, before, next))

rising_once : (xs : List ℕ) → IsStrictlyIncreasing xs → IsOnce xs
rising_once xs h p q l lt e =
    let far : p + suc (q - suc p) ≡ q = omega (arith, l) in
    let less = rises_far xs h p (q - suc p) (omega (arith, l, lt)) in
    let less_q : slice_index xs p < slice_index xs q = rw far at less in
    omega (arith, less_q, e)

-- a module stands among the imports of another as often as that among its importers
same_times : (plan : List (List ℕ)) (m k : ℕ) (row : List ℕ) → IsOnce (get_or plan k []) → IsImporterList plan m row → count_by (λ j. j == m) (get_or plan k []) ≡ count_by (λ j. j == k) row
same_times plan m k row once is = ⊎_elim
    (λ (c : Contains (get_or plan k []) m).
    let inside : k < length plan = ⊎_elim (λ (l : k < length plan). l) (λ (past : length plan ≤ k). absurd (Contains-nil m (rw (get_or_past plan k [] past) at c))) (cases_lt k (length plan)) in
    present (get_or plan k []) m once c ∙ sym (present row k (rising_once row is.ascending) ((is.members k).1 (inside, c))))
    (λ (none : count_by (λ j. j == m) (get_or plan k []) ≡ 0). none ∙ sym (absent row k (λ c.
    let there = ((is.members k).0 c).1 in
    let one = present (get_or plan k []) m once there in
    omega (arith, none, one))))
    (counted_or_absent (get_or plan k []) m)

-- what is claimed, in numbers
claims_set : (ss : List Status) (m : ℕ) (s : Status) → m < length ss → count_by is_claimed (set ss m s) + cond (is_claimed (status_at ss m)) 1 0 ≡ count_by is_claimed ss + cond (is_claimed s) 1 0
claims_set ss m s lt = sum_by-set (λ (t : Status). cond (is_claimed t) 1 0) ss m s Skipped lt

waiting_not_claimed : (s : Status) → is_waiting s ≡ true → is_claimed s ≡ false
waiting_not_claimed s w = rw (waits s w) refl

claims_skip : (ss : List Status) (k : ℕ) (v : Bool) → is_waiting (status_at ss k) ≡ v → count_by is_claimed (cond v (set ss k Skipped) ss) ≡ count_by is_claimed ss
claims_skip ss k false is = refl
claims_skip ss k true is =
    let lt : k < length ss = within ss k (λ e. false≢true (ap is_waiting (sym e) ∙ is)) in
    let s = claims_set ss k Skipped lt in
    let n : ◌≡◌ {A = ℕ} (cond (is_claimed (status_at ss k)) 1 0) 0 = rw (waiting_not_claimed (status_at ss k) is) refl in
    omega (arith, s, n)

claims_skips : (ks : List ℕ) (ss : List Status) → count_by is_claimed (skip_all ss ks) ≡ count_by is_claimed ss
claims_skips [] ss = refl
claims_skips (k ∷ ks) ss = claims_skips ks (skip ss k) ∙ claims_skip ss k (is_waiting (status_at ss k)) refl

pub any_claimed : (ss : List Status) → list_any is_claimed ss ≡ nat_lt 0 (count_by is_claimed ss)
any_claimed [] = refl
any_claimed (s ∷ ss) = at (is_claimed s) (list_any is_claimed ss) (count_by is_claimed ss) (count_by is_claimed (s ∷ ss)) (sum_by-cons (λ (t : Status). cond (is_claimed t) 1 0) s ss) (any_claimed ss)
  where
    at : (b any : Bool) (n all : ℕ) → all ≡ cond b 1 0 + n → any ≡ nat_lt 0 n → (b || any) ≡ nat_lt 0 all
    at true any n all e h = sym (lt-ltb 0 all (omega (arith, e)))
    at false any n all e h = h ∙ ap (λ (x : ℕ). nat_lt 0 x) (sym (e ∙ zero-add n))

-- the least module that is ready is the job
none_least : (p : ℕ → Bool) (n : ℕ) → ((k : ℕ) → k < n → p k ≡ false) → least_below p n ≡ None
none_least p zero h = refl
none_least p (suc n) h = rw (none_least p n (λ k lt. h k (omega (arith, lt))), h n (omega arith)) refl

in_heap : (here : ℕ → Bool) (heap : Heap) (k : ℕ) → IsHeapOf here heap → 0 < times (heap_items heap) k → here k ≡ true
in_heap here heap k h lt = elim (cases_Bool (here k)) [ inl here_is ↦ here_is | inr none ↦ let e : times (heap_items heap) k ≡ 0 = rw none at (h.each k) in absurd (omega (arith, e, lt)) ]

not_in_heap : (here : ℕ → Bool) (heap : Heap) (k : ℕ) → IsHeapOf here heap → times (heap_items heap) k ≡ 0 → here k ≡ false
not_in_heap here heap k h e = elim (cases_Bool (here k)) [ inl here_is ↦ let one : times (heap_items heap) k ≡ 1 = rw here_is at (h.each k) in absurd (omega (arith, e, one)) | inr none ↦ none ]

ready_within : (g : Given) (ss : List Status) (k : ℕ) → is_ready g ss k ≡ true → (k < length ss) × (status_at ss k ≡ Waiting)
ready_within g ss k h =
    let w = and_parts (is_waiting (status_at ss k)) (list_all (λ j. is_published (status_at ss j)) (imports_of g k)) h in
    (within ss k (λ e. false≢true (ap is_waiting (sym e) ∙ w.0)), waits (status_at ss k) w.0)

-- what a claim takes from the heap
pub record Takes (old new : Heap) (m : ℕ) : Type 0 where
  pub order : IsHeap (λ x y. nat_cmp y.0 x.0) (heap_items new)
  pub len : heap_len new + 1 ≡ heap_len old
  pub capacity : heap_capacity new ≡ heap_capacity old
  pub least : All (λ r. m ≤ r.0) (heap_items old)
  pub each : (k : ℕ) → times (heap_items old) k ≡ times (heap_items new) k + cond (m == k) 1 0

taken_is_ready : (g : Given) (ss : List Status) (counts : List ℕ) (old new : Heap) (claimed m : ℕ) → KeepsReady g ss counts old claimed → Takes old new m → is_ready g ss m ≡ true
taken_is_ready g ss counts old new claimed m h t =
    let one : times (heap_items old) m ≡ times (heap_items new) m + 1 = rw (eq-eqb m m refl) at (t.each m) in
    in_heap (is_ready g ss) old m h.heap (omega (arith, one))

pub taken_within : (g : Given) (ss : List Status) (counts : List ℕ) (old new : Heap) (claimed m : ℕ) → KeepsReady g ss counts old claimed → Takes old new m → m < length ss
taken_within g ss counts old new claimed m h t = (ready_within g ss m (taken_is_ready g ss counts old new claimed m h t)).0

pub job_reply : (g : Given) (ss : List Status) (counts : List ℕ) (old new : Heap) (claimed m : ℕ) → KeepsReady g ss counts old claimed → Takes old new m → reply_of g (record { statuses = ss; stopped = false }) ≡ Job m
job_reply g ss counts old new claimed m h t =
    let ready = taken_is_ready g ss counts old new claimed m h t in
    let lt = (ready_within g ss m ready).0 in
    let none = none_least (is_ready g ss) m (λ k less. not_in_heap (is_ready g ss) old k h.heap (none_below (heap_items old) m k t.least less)) in
    rw (least_is (is_ready g ss) m (length ss) none ready lt) refl

pub reply_idle : (g : Given) (ss : List Status) (counts : List ℕ) (heap : Heap) (claimed : ℕ) → KeepsReady g ss counts heap claimed → heap_items heap ≡ [] → reply_of g (record { statuses = ss; stopped = false }) ≡ cond (nat_lt 0 claimed) Later Done
reply_idle g ss counts heap claimed h empty =
    let none = none_least (is_ready g ss) (length ss) (λ k lt. not_in_heap (is_ready g ss) heap k h.heap (rw empty refl)) in
    rw (none, any_claimed ss, h.claims) refl

-- the heap lies elsewhere, but has what it had
pub same_heap : (g : Given) (ss : List Status) (counts : List ℕ) (old new : Heap) (claimed : ℕ) → KeepsReady g ss counts old claimed → heap_items new ≡ heap_items old → heap_len new ≡ heap_len old → heap_capacity new ≡ heap_capacity old → IsHeap (λ x y. nat_cmp y.0 x.0) (heap_items new) → KeepsReady g ss counts new claimed
same_heap g ss counts old new claimed h items len capacity order = record {
  len = h.len;
  open_imports = h.open_imports;
  heap = record { order = order; each = λ k. ap (λ xs. times xs k) items ∙ h.heap.each k };
  room = let r = h.room in omega (arith, r, len, capacity);
  claims = h.claims;
}

-- the ready module m is claimed
pub claim_ready : (g : Given) (ss : List Status) (counts : List ℕ) (old new : Heap) (claimed m w : ℕ) → KeepsReady g ss counts old claimed → Takes old new m → KeepsReady g (set ss m (Claimed w)) counts new (claimed + 1)
claim_ready g ss counts old new claimed m w h t = record {
  len = h.len;
  open_imports = λ k. h.open_imports k ∙ sym (open_same ss (set ss m (Claimed w)) published (imports_of g k));
  heap = record { order = t.order; each = λ k. ⊎_elim (λ (e : k ≡ m). here k e) (λ (ne : k ≢ m). there k ne) (cases_eq k m) };
  room = let r = h.room in omega (arith, r, t.len, t.capacity);
  claims = let s = claims_set ss m (Claimed w) lt in let n : ◌≡◌ {A = ℕ} (cond (is_claimed (status_at ss m)) 1 0) 0 = rw waiting refl in omega (arith, s, n, h.claims);
}
  where
    ready : is_ready g ss m ≡ true
    ready = taken_is_ready g ss counts old new claimed m h t

    lt : m < length ss
    lt = (ready_within g ss m ready).0

    waiting : status_at ss m ≡ Waiting
    waiting = (ready_within g ss m ready).1

    published : (k : ℕ) → is_published (status_at (set ss m (Claimed w)) k) ≡ is_published (status_at ss k)
    published = test_set is_published ss m (Claimed w) lt (sym (ap is_published waiting))

    here : (k : ℕ) → k ≡ m → times (heap_items new) k ≡ cond (is_ready g (set ss m (Claimed w)) k) 1 0
    here k e =
        let one : times (heap_items old) m ≡ times (heap_items new) m + 1 = rw (eq-eqb m m refl) at (t.each m) in
        let was : times (heap_items old) m ≡ 1 = rw ready at (h.heap.each m) in
        let now = ready_not g (set ss m (Claimed w)) m (Claimed w) (get_or-set_same ss m (Claimed w) Skipped lt) refl in
        rw (e, now) (omega (arith, one, was))

    there : (k : ℕ) → k ≢ m → times (heap_items new) k ≡ cond (is_ready g (set ss m (Claimed w)) k) 1 0
    there k ne =
        let none : times (heap_items old) k ≡ times (heap_items new) k + 0 = rw (ne_eqb m k (λ e. ne (sym e))) at (t.each k) in
        rw (ready_same g ss (set ss m (Claimed w)) k (get_or-set_other ss m k (Claimed w) Skipped ne) published) (omega (arith, none, h.heap.each k))

-- module m, which was claimed, is published
module _ (g : Given) (ss : List Status) (counts : List ℕ) (heap : Heap) (claimed m w : ℕ) (importers : List ℕ) (h : KeepsReady g ss counts heap claimed) (is : status_at ss m ≡ Claimed w)
    (once : (k : ℕ) → IsOnce (imports_of g k)) (list : IsImporterList g.imports m importers) where
  claimed_in : m < length ss
  claimed_in = within ss m (λ e. false≢true (ap is_claimed (sym e) ∙ ap is_claimed is))

  closed_at : (k : ℕ) → open_among (set ss m Published) (imports_of g k) + count_by (λ j. j == k) importers ≡ count_at counts k
  closed_at k =
      let o = open_published ss m claimed_in (ap is_published is) (imports_of g k) in
      let t = same_times g.imports m k importers (once k) list in
      omega (arith, o, t, h.open_imports k)

  pub enough_counted : (k : ℕ) → count_by (λ j. j == k) importers ≤ count_at counts k
  enough_counted k = let c = closed_at k in omega (arith, c)

  pub free_published : IsHeapOf (is_free (set ss m Published) counts) heap
  free_published = record {
    order = h.heap.order;
    each = λ k. h.heap.each k ∙ ap (λ (b : Bool). cond b 1 0) (sym (free_is_ready g ss counts h.open_imports k) ∙ ⊎_elim
        (λ (e : k ≡ m). rw (e, get_or-set_same ss m Published Skipped claimed_in, is) refl)
        (λ (ne : k ≢ m). rw (get_or-set_other ss m k Published Skipped ne) refl)
        (cases_eq k m));
  }

  pub publish_ready : (counts' : List ℕ) (heap' : Heap) → length counts' ≡ length counts → ((k : ℕ) → count_at counts' k + count_by (λ j. j == k) importers ≡ count_at counts k)
      → IsHeapOf (is_free (set ss m Published) counts') heap' → HasRoom counts' heap' → KeepsReady g (set ss m Published) counts' heap' (claimed - 1)
  publish_ready counts' heap' len closed free room = record {
    len = len ∙ h.len;
    open_imports = open_now;
    heap = record { order = free.order; each = λ k. free.each k ∙ ap (λ (b : Bool). cond b 1 0) (free_is_ready g (set ss m Published) counts' open_now k) };
    room = room;
    claims = let s = claims_set ss m Published claimed_in in let n : ◌≡◌ {A = ℕ} (cond (is_claimed (status_at ss m)) 1 0) 1 = rw is refl in omega (arith, s, n, h.claims);
  }
    where
      open_now : (k : ℕ) → count_at counts' k ≡ open_among (set ss m Published) (imports_of g k)
      open_now k = let c = closed_at k in let d = closed k in omega (arith, c, d)

-- module m, which was claimed, fails, and what depends on it is skipped
module _ (g : Given) (ss : List Status) (counts : List ℕ) (heap : Heap) (claimed m w : ℕ) (h : KeepsReady g ss counts heap claimed) (is : status_at ss m ≡ Claimed w)
    (dependents : AreDependents g) (follows : IsFollowing g ss) where
  inside : m < length ss
  inside = within ss m (λ e. false≢true (ap is_claimed (sym e) ∙ ap is_claimed is))

  mid : List Status
  mid = set ss m Failed

  end : List Status
  unfolding mid
  end = skip_all mid (dependents_of g m)

  at : (k : ℕ) → IsSkipOf (dependents_of g m) k (status_at mid k) (status_at end k)
  unfolding mid end
  at k = skipped (dependents_of g m) mid k

  mid_published : (k : ℕ) → is_published (status_at mid k) ≡ is_published (status_at ss k)
  unfolding mid
  mid_published = test_set is_published ss m Failed inside (sym (ap is_published is))

  end_published : (k : ℕ) → is_published (status_at end k) ≡ is_published (status_at ss k)
  end_published k = by (at k) ∙ mid_published k
    where
      by : IsSkipOf (dependents_of g m) k (status_at mid k) (status_at end k) → is_published (status_at end k) ≡ is_published (status_at mid k)
      by (inl a) = ap is_published a.1.1 ∙ sym (ap is_published a.1.0)
      by (inr a) = ap is_published a.0

  mid_other : (k : ℕ) → k ≢ m → status_at mid k ≡ status_at ss k
  unfolding mid
  mid_other k ne = get_or-set_other ss m k Failed Skipped ne

  mid_here : status_at mid m ≡ Failed
  unfolding mid
  mid_here = get_or-set_same ss m Failed Skipped inside

  -- what reaches m wasn't ready
  dependent_not_ready : (k : ℕ) → Reaches g.imports k m → is_ready g ss k ≡ false
  dependent_not_ready k path = false_from_ne_true (is_ready g ss k) (λ yes.
      let w = and_parts (is_waiting (status_at ss k)) (list_all (λ j. is_published (status_at ss j)) (imports_of g k)) yes in
      let step = first_step g.imports k m path in
      let now : is_published (status_at ss step.0) ≡ true = All-contains (λ n. is_published (status_at ss n) ≡ true) (imports_of g k) step.0 (AllPass-from_list_all (λ j. is_published (status_at ss j)) (imports_of g k) w.1) step.1.0 in
      ⊎_elim
      (λ (e : step.0 ≡ m). false≢true (ap is_published (sym is) ∙ (ap (λ n. is_published (status_at ss n)) (sym e) ∙ now)))
      (λ (p : Reaches g.imports step.0 m). let done = reached_is_published g ss follows step.0 m (begun (status_at ss step.0) now) p in false≢true (ap is_published (sym is) ∙ ap is_published done))
      step.1.1)
    where
      begun : (s : Status) → is_published s ≡ true → is_started s ≡ true
      begun Waiting e = absurd (false≢true e)
      begun (Claimed v) e = absurd (false≢true e)
      begun Published e = refl
      begun Failed e = absurd (false≢true e)
      begun Skipped e = absurd (false≢true e)

  end_ready : (k : ℕ) → is_ready g end k ≡ is_ready g ss k
  end_ready k = ⊎_elim (λ (e : k ≡ m). same e) (λ (ne : k ≢ m). other ne (at k)) (cases_eq k m)
    where
      fails : status_at end m ≡ Failed
      fails = by (at m)
        where
          by : IsSkipOf (dependents_of g m) m (status_at mid m) (status_at end m) → status_at end m ≡ Failed
          by (inl a) = absurd (false≢true (ap is_waiting (sym mid_here) ∙ ap is_waiting a.1.0))
          by (inr a) = a.0 ∙ mid_here

      same : k ≡ m → is_ready g end k ≡ is_ready g ss k
      same e = rw e (ready_not g end m Failed fails refl ∙ sym (ready_not g ss m (Claimed w) is refl))

      other : k ≢ m → IsSkipOf (dependents_of g m) k (status_at mid k) (status_at end k) → is_ready g end k ≡ is_ready g ss k
      other ne (inl a) = ready_not g end k Skipped a.1.1 refl ∙ sym (dependent_not_ready k (((dependents.each m (subst (λ n. m < n) follows.len inside)).members k).0 a.0))
      other ne (inr a) = ready_same g ss end k (a.0 ∙ mid_other k ne) end_published

  pub fail_ready : KeepsReady g (skip_all (set ss m Failed) (dependents_of g m)) counts heap (claimed - 1)
  unfolding mid end
  fail_ready = record {
    len = h.len;
    open_imports = λ k. h.open_imports k ∙ sym (open_same ss end end_published (imports_of g k));
    heap = record { order = h.heap.order; each = λ k. h.heap.each k ∙ ap (λ (b : Bool). cond b 1 0) (sym (end_ready k)) };
    room = h.room;
    claims = let s = claims_set ss m Failed inside in let n : ◌≡◌ {A = ℕ} (cond (is_claimed (status_at ss m)) 1 0) 1 = rw is refl in let t = claims_skips (dependents_of g m) (set ss m Failed) in omega (arith, s, n, t, h.claims);
  }

-- no module has begun
module _ (g : Given) (counts : List ℕ) (heap : Heap) (lengths : counts ≡ map length g.imports) where
  unpublished : (k : ℕ) → is_published (status_at (all_waiting g.imports) k) ≡ false
  unpublished k = ⊎_elim
      (λ (l : k < length g.imports). ap is_published (get_or-replicate (length g.imports) k Waiting Skipped l))
      (λ (past : length g.imports ≤ k). ap is_published (get_or_past (all_waiting g.imports) k Skipped (let e = length-replicate (length g.imports) Waiting in omega (arith, e, past))))
      (cases_lt k (length g.imports))

  all_open : (ks : List ℕ) → open_among (all_waiting g.imports) ks ≡ length ks
  all_open [] = refl
  all_open (k ∷ ks) = open_cons (all_waiting g.imports) k ks ∙ rw (unpublished k, all_open ks) (omega arith)

  count_is : (k : ℕ) → count_at counts k ≡ length (imports_of g k)
  count_is k = rw lengths (⊎_elim
      (λ (l : k < length g.imports). get_or-map (λ (row : List ℕ). length row) g.imports k [] 0 l)
      (λ (past : length g.imports ≤ k). get_or_past (map length g.imports) k 0 (let e = length-map g.imports (λ (row : List ℕ). length row) in omega (arith, e, past)) ∙ sym (ap (λ (row : List ℕ). length row) (get_or_past g.imports k [] past)))
      (cases_lt k (length g.imports)))

  open_first : (k : ℕ) → count_at counts k ≡ open_among (all_waiting g.imports) (imports_of g k)
  open_first k = count_is k ∙ sym (all_open (imports_of g k))

  count_len : length counts ≡ length g.imports
  count_len = ap (λ (xs : List ℕ). length xs) lengths ∙ length-map g.imports (λ (row : List ℕ). length row)

  free_first : (k : ℕ) → (get_or counts k 1 == 0) ≡ is_free (all_waiting g.imports) counts k
  free_first k = ⊎_elim
      (λ (l : k < length g.imports). rw (get_or-replicate (length g.imports) k Waiting Skipped l, get_or_default counts k 1 0 (let c = count_len in omega (arith, c, l))) refl)
      (λ (past : length g.imports ≤ k). rw (get_or_past counts k 1 (let c = count_len in omega (arith, c, past)), get_or_past (all_waiting g.imports) k Skipped (let e = length-replicate (length g.imports) Waiting in omega (arith, e, past))) refl)
      (cases_lt k (length g.imports))

  pub opening_ready : IsHeapOf (λ k. get_or counts k 1 == 0) heap → HasRoom counts heap → KeepsReady g (all_waiting g.imports) counts heap 0
  opening_ready h room = record {
    len = count_len;
    open_imports = open_first;
    heap = record { order = h.order; each = λ k. h.each k ∙ ap (λ (b : Bool). cond b 1 0) (free_first k ∙ free_is_ready g (all_waiting g.imports) counts open_first k) };
    room = room;
    claims = let s = sum_by-replicate (λ (t : Status). cond (is_claimed t) 1 0) (length g.imports) Waiting in omega (arith, s);
  }
