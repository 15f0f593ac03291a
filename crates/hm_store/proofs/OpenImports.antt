-- Counts of open imports, and the heap of the modules that are ready: what they say, and how steps change them.
use Rattle.std.proofs.Common.{◌≡◌, ◌≢◌, ◌==◌, ◌&&◌, ℕ, ◌+◌, ◌-◌, ◌<◌, ◌≤◌, ◌⊎◌, ⊎_elim, Bool, true, false, cond, List, [], ◌∷◌, length, set, get_or, take, All, count_by, refl, sym, ap, ◌∙◌, arith}
use Rattle.std.specs.Prelude.{nat_lt}
use Rattle.std.specs.BinaryHeap.{IsHeap, heap_items, heap_len, heap_capacity}
use Rattle.std.specs.List.Sorted.{IsPermutation}
use Rattle.std.specs.Ordering.{nat_cmp}
use Rattle.std.specs.declared.cmp.Reverse.{Reverse}
use Rattle.std.proofs.lemmas.Bool.{cases_eq, cases_lt, cases_order, eq-eqb, ne_eqb, lt-ltb, le-ltb, and_right}
use Rattle.std.proofs.lemmas.List.{get_or_past, get_or-set_same, get_or-set_other}
use Rattle.std.proofs.lemmas.List.Elements.{All-head, All-tail}
use Rattle.std.proofs.lemmas.List.Sorted.{sum_by_pushed, sum_by_popped}
use Rattle.std.proofs.lemmas.List.Sums.{sum_by-set, sum_by_more, sum_by_more_le}
use Rattle.hm_store.specs.Readiness.{Heap, times, count_at, is_free, positive, IsHeapOf, HasRoom}
use Rattle.hm_store.specs.Objects.{status_at, is_waiting}
use Rattle.hm_store.specs.declared.object.Status.{Status}

-- a number more, and one less
pub pushed : (m : ℕ) (x : Reverse ℕ) (xs ys : List (Reverse ℕ)) → x.0 ≡ m → IsPermutation (x ∷ xs) ys → (k : ℕ) → times ys k ≡ times xs k + cond (m == k) 1 0
pushed m x xs ys e h k =
    let s = sum_by_pushed (λ (r : Reverse ℕ). cond (r.0 == k) 1 0) x xs ys h in
    let f : ◌≡◌ {A = ℕ} (cond (x.0 == k) 1 0) (cond (m == k) 1 0) = ap (λ (n : ℕ). cond (n == k) 1 0) e in
    omega (arith, s, f)

pub popped : (m : ℕ) (x : Reverse ℕ) (xs ys : List (Reverse ℕ)) → x.0 ≡ m → IsPermutation xs (x ∷ ys) → (k : ℕ) → times xs k ≡ times ys k + cond (m == k) 1 0
popped m x xs ys e h k =
    let s = sum_by_popped (λ (r : Reverse ℕ). cond (r.0 == k) 1 0) x xs ys h in
    let f : ◌≡◌ {A = ℕ} (cond (x.0 == k) 1 0) (cond (m == k) 1 0) = ap (λ (n : ℕ). cond (n == k) 1 0) e in
    omega (arith, s, f)

-- a number below all that there are isn't there
pub none_below : (xs : List (Reverse ℕ)) (m k : ℕ) → All (λ r. m ≤ r.0) xs → k < m → times xs k ≡ 0
none_below [] m k all lt = refl
none_below (x ∷ xs) m k all lt =
    let first : m ≤ x.0 = All-head (λ (r : Reverse ℕ). m ≤ r.0) x xs all in
    let other : (x.0 == k) ≡ false = ne_eqb x.0 k (λ e. omega (arith, e, first, lt)) in
    let rest = none_below xs m k (All-tail (λ (r : Reverse ℕ). m ≤ r.0) x xs all) lt in
    rw (other, rest) refl

-- a module that has a count has a place in the table
pub counted_within : (counts : List ℕ) (k : ℕ) → 0 < count_at counts k → k < length counts
counted_within counts k lt = ⊎_elim (λ (l : k < length counts). l) (λ (past : length counts ≤ k). let e : count_at counts k ≡ 0 = get_or_past counts k 0 past in absurd (omega (arith, e, lt))) (cases_lt k (length counts))

-- where a test of two numbers and of two statuses agrees, a module is free in both
free_other : (ss : List Status) (counts : List ℕ) (number v k : ℕ) → k ≢ number → is_free ss (set counts number v) k ≡ is_free ss counts k
free_other ss counts number v k ne = ap (λ (n : ℕ). is_waiting (status_at ss k) && (n == 0)) (get_or-set_other counts number k v 0 ne)

free_here : (ss : List Status) (counts : List ℕ) (number v : ℕ) → number < length counts → is_free ss (set counts number v) number ≡ (is_waiting (status_at ss number) && (v == 0))
free_here ss counts number v lt = ap (λ (n : ℕ). is_waiting (status_at ss number) && (n == 0)) (get_or-set_same counts number v 0 lt)

counted_not_free : (ss : List Status) (counts : List ℕ) (number : ℕ) → 0 < count_at counts number → is_free ss counts number ≡ false
counted_not_free ss counts number lt = and_right (is_waiting (status_at ss number)) (count_at counts number == 0) (ne_eqb (count_at counts number) 0 (λ e. omega (arith, e, lt)))

-- a module with a count gets the count v, with which it isn't free; the heap stays
pub not_freed : (ss : List Status) (counts : List ℕ) (number v : ℕ) (heap : Heap) → 0 < count_at counts number → (is_waiting (status_at ss number) && (v == 0)) ≡ false → IsHeapOf (is_free ss counts) heap → IsHeapOf (is_free ss (set counts number v)) heap
not_freed ss counts number v heap lt still h = record {
  order = h.order;
  each = λ k. h.each k ∙ ap (λ (b : Bool). cond b 1 0) (⊎_elim
      (λ (e : k ≡ number). rw (e, counted_not_free ss counts number lt, free_here ss counts number v (counted_within counts number lt), still) refl)
      (λ (ne : k ≢ number). sym (free_other ss counts number v k ne))
      (cases_eq k number));
}

-- a module that waits gets the count 0, and stands in the heap now
pub freed : (ss : List Status) (counts : List ℕ) (number v : ℕ) (old new : Heap) → 0 < count_at counts number → is_waiting (status_at ss number) ≡ true → v ≡ 0
    → IsHeap (λ x y. nat_cmp y.0 x.0) (heap_items new) → ((k : ℕ) → times (heap_items new) k ≡ times (heap_items old) k + cond (number == k) 1 0)
    → IsHeapOf (is_free ss counts) old → IsHeapOf (is_free ss (set counts number v)) new
freed ss counts number v old new lt waits none order put h = record {
  order = order;
  each = λ k. ⊎_elim (λ (e : k ≡ number). same k e) (λ (ne : k ≢ number). other k ne) (cases_eq k number);
}
  where
    same : (k : ℕ) → k ≡ number → times (heap_items new) k ≡ cond (is_free ss (set counts number v) k) 1 0
    same k e =
        let p : times (heap_items new) number ≡ times (heap_items old) number + 1 = rw (eq-eqb number number refl) at (put number) in
        let o : times (heap_items old) number ≡ 0 = rw (counted_not_free ss counts number lt) at (h.each number) in
        let f : is_free ss (set counts number v) number ≡ true = free_here ss counts number v (counted_within counts number lt) ∙ rw (waits, none) refl in
        rw (e, f) (omega (arith, p, o))

    other : (k : ℕ) → k ≢ number → times (heap_items new) k ≡ cond (is_free ss (set counts number v) k) 1 0
    other k ne =
        let p : times (heap_items new) k ≡ times (heap_items old) k + 0 = rw (ne_eqb number k (λ e. ne (sym e))) at (put k) in
        rw (free_other ss counts number v k ne) (omega (arith, p, h.each k))

-- a count that stays above 0, and one that becomes 0
pub positive_set : (counts : List ℕ) (number v : ℕ) → number < length counts → positive (set counts number v) + cond (nat_lt 0 (count_at counts number)) 1 0 ≡ positive counts + cond (nat_lt 0 v) 1 0
positive_set counts number v lt = sum_by-set (λ (c : ℕ). cond (nat_lt 0 c) 1 0) counts number v 0 lt

pub room_kept : (counts : List ℕ) (number v : ℕ) (heap : Heap) → 0 < count_at counts number → HasRoom counts heap → HasRoom (set counts number v) heap
room_kept counts number v heap lt room =
    let s = positive_set counts number v (counted_within counts number lt) in
    let one : ◌≡◌ {A = ℕ} (cond (nat_lt 0 (count_at counts number)) 1 0) 1 = rw (lt-ltb 0 (count_at counts number) lt) refl in
    let two : cond (nat_lt 0 v) 1 0 ≤ 1 = ⊎_elim (λ (l : 0 < v). rw (lt-ltb 0 v l) (omega arith)) (λ (l : v ≤ 0). rw (le-ltb 0 v l) (omega arith)) (cases_lt 0 v) in
    omega (arith, s, one, two, room)

-- a count that became 0 leaves room in the heap
pub room_at_zero : (counts : List ℕ) (number v : ℕ) (heap : Heap) → 0 < count_at counts number → v ≡ 0 → HasRoom counts heap → heap_len heap + 1 + positive (set counts number v) ≤ heap_capacity heap
room_at_zero counts number v heap lt none room =
    let s = positive_set counts number v (counted_within counts number lt) in
    let one : ◌≡◌ {A = ℕ} (cond (nat_lt 0 (count_at counts number)) 1 0) 1 = rw (lt-ltb 0 (count_at counts number) lt) refl in
    let two : ◌≡◌ {A = ℕ} (cond (nat_lt 0 v) 1 0) 0 = rw none refl in
    omega (arith, s, one, two, room)

-- an importer that is still to come has a count still
pub still_counted : (start counts importers : List ℕ) (i : ℕ) → i < length importers → ((k : ℕ) → count_by (λ j. j == k) importers ≤ count_at start k)
    → ((k : ℕ) → count_at counts k + count_by (λ j. j == k) (take i importers) ≡ count_at start k) → 0 < count_at counts (get_or importers i 0)
still_counted start counts importers i lt enough so_far =
    let m : ℕ = get_or importers i 0 in
    let s = sum_by_more_le (λ (j : ℕ). cond (j == get_or importers i 0) 1 0) importers i 0 lt in
    let one : ◌≡◌ {A = ℕ} (cond (get_or importers i 0 == get_or importers i 0) 1 0) 1 = rw (eq-eqb (get_or importers i 0) (get_or importers i 0) refl) refl in
    omega (arith, s, one, enough (get_or importers i 0), so_far (get_or importers i 0))

pub one_closed : (start counts importers : List ℕ) (i m : ℕ) → i < length importers → m ≡ get_or importers i 0 → 0 < count_at counts m
    → ((k : ℕ) → count_at counts k + count_by (λ j. j == k) (take i importers) ≡ count_at start k)
    → (k : ℕ) → count_at (set counts m (count_at counts m - 1)) k + count_by (λ j. j == k) (take (i + 1) importers) ≡ count_at start k
one_closed start counts importers i m lt is pos so_far k =
    let s = sum_by_more (λ (j : ℕ). cond (j == k) 1 0) importers i 0 lt in
    ⊎_elim
    (λ (e : k ≡ m).
    let one : ◌≡◌ {A = ℕ} (cond (get_or importers i 0 == k) 1 0) 1 = rw (eq-eqb (get_or importers i 0) k (sym (e ∙ is))) refl in
    let here : count_at (set counts m (count_at counts m - 1)) k ≡ count_at counts m - 1 = rw e (get_or-set_same counts m (count_at counts m - 1) 0 (counted_within counts m pos)) in
    let old : count_at counts m + count_by (λ j. j == k) (take i importers) ≡ count_at start k = ap (λ (n : ℕ). count_at counts n + count_by (λ j. j == k) (take i importers)) (sym e) ∙ so_far k in
    omega (arith, s, one, here, old, pos))
    (λ (ne : k ≢ m).
    let none : ◌≡◌ {A = ℕ} (cond (get_or importers i 0 == k) 1 0) 0 = rw (ne_eqb (get_or importers i 0) k (λ e. ne (sym e ∙ sym is))) refl in
    let there : count_at (set counts m (count_at counts m - 1)) k ≡ count_at counts k = get_or-set_other counts m k (count_at counts m - 1) 0 ne in
    omega (arith, s, none, there, so_far k))
    (cases_eq k m)

-- the modules without imports among the first n + 1
pub opening_more : (counts : List ℕ) (n c : ℕ) (old new : Heap) → n < length counts → c ≡ get_or counts n 1
    → IsHeap (λ x y. nat_cmp y.0 x.0) (heap_items new) → ((k : ℕ) → times (heap_items new) k ≡ times (heap_items old) k + cond ((c == 0) && (n == k)) 1 0)
    → IsHeapOf (λ k. nat_lt k n && (get_or counts k 1 == 0)) old → IsHeapOf (λ k. nat_lt k (n + 1) && (get_or counts k 1 == 0)) new
opening_more counts n c old new lt is order put h = record { order = order; each = each }
  where
    other : (k : ℕ) (b : Bool) → k ≢ n → nat_lt k n ≡ b → nat_lt k (n + 1) ≡ b → times (heap_items new) k ≡ cond (nat_lt k (n + 1) && (get_or counts k 1 == 0)) 1 0
    other k b ne below now =
        let none : ((c == 0) && (n == k)) ≡ false = and_right (c == 0) (n == k) (ne_eqb n k (λ e. ne (sym e))) in
        let p : times (heap_items new) k ≡ times (heap_items old) k + 0 = rw none at (put k) in
        let o : times (heap_items old) k ≡ cond (b && (get_or counts k 1 == 0)) 1 0 = rw below at (h.each k) in
        rw now (omega (arith, p, o))

    same : (k : ℕ) → k ≡ n → times (heap_items new) k ≡ cond (nat_lt k (n + 1) && (get_or counts k 1 == 0)) 1 0
    same k e =
        let o : times (heap_items old) n ≡ 0 = rw (le-ltb n n (omega arith)) at (h.each n) in
        let p : times (heap_items new) n ≡ times (heap_items old) n + cond ((c == 0) && true) 1 0 = rw (eq-eqb n n refl) at (put n) in
        let d : ((c == 0) && true) ≡ (get_or counts n 1 == 0) = from (c == 0) ∙ ap (λ (m : ℕ). m == 0) is in
        let q : times (heap_items new) n ≡ times (heap_items old) n + cond (get_or counts n 1 == 0) 1 0 = rw d at p in
        rw (e, lt-ltb n (n + 1) (omega arith)) (omega (arith, q, o))
      where
        from : (b : Bool) → (b && true) ≡ b
        from true = refl
        from false = refl

    each : (k : ℕ) → times (heap_items new) k ≡ cond (nat_lt k (n + 1) && (get_or counts k 1 == 0)) 1 0
    each k = ⊎_elim (λ (e : k ≡ n). same k e) (λ (r : (k < n) ⊎ (n < k)). ⊎_elim
        (λ (l : k < n). other k true (λ e. omega (arith, l, e)) (lt-ltb k n l) (lt-ltb k (n + 1) (omega (arith, l))))
        (λ (l : n < k). other k false (λ e. omega (arith, l, e)) (le-ltb k n (omega (arith, l))) (le-ltb k (n + 1) (omega (arith, l)))) r) (cases_order k n)

-- of so many counts each is 0 or not
pub opening_len : (counts : List ℕ) (n c a b : ℕ) → n < length counts → c ≡ get_or counts n 0 → b ≡ a + cond (c == 0) 1 0 → a + positive (take n counts) ≡ n → b + positive (take (n + 1) counts) ≡ n + 1
opening_len counts n c a b lt is len so_far =
    let s = sum_by_more (λ (j : ℕ). cond (nat_lt 0 j) 1 0) counts n 0 lt in
    ⊎_elim
    (λ (e : c ≡ 0).
    let one : ◌≡◌ {A = ℕ} (cond (c == 0) 1 0) 1 = rw (eq-eqb c 0 e) refl in
    let none : ◌≡◌ {A = ℕ} (cond (nat_lt 0 (get_or counts n 0)) 1 0) 0 = rw (le-ltb 0 (get_or counts n 0) (omega (arith, is, e))) refl in
    omega (arith, s, one, none, len, so_far))
    (λ (ne : c ≢ 0).
    let none : ◌≡◌ {A = ℕ} (cond (c == 0) 1 0) 0 = rw (ne_eqb c 0 ne) refl in
    let pos : 0 < get_or counts n 0 = rw is at (above c ne) in
    let one : ◌≡◌ {A = ℕ} (cond (nat_lt 0 (get_or counts n 0)) 1 0) 1 = rw (lt-ltb 0 (get_or counts n 0) pos) refl in
    omega (arith, s, one, none, len, so_far))
    (cases_eq c 0)
  where
    above : (m : ℕ) → m ≢ 0 → 0 < m
    above m ne = ⊎_elim (λ (l : 0 < m). l) (λ (l : m ≤ 0). absurd (ne (omega (arith, l)))) (cases_lt 0 m)
