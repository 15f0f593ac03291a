-- Ready modules and open imports, which a store keeps so that a claim needs no search. No public clause names these.
use Rattle.std.specs.Prelude.{◌≡◌, ◌==◌, ◌&&◌, ℕ, ◌+◌, ◌≤◌, Bool, not, cond, nat_lt, List, length, count_by, slice_index_or}
use Rattle.std.specs.BinaryHeap.{IsHeap, heap_capacity, heap_items, heap_len}
use Rattle.std.specs.Ordering.{nat_cmp}
use Rattle.std.specs.declared.alloc.Global.{Global}
use Rattle.std.specs.declared.cmp.Reverse.{Reverse}
use Rattle.std.specs.declared.collections.BinaryHeap.{BinaryHeap}
use Rattle.hm_store.specs.Plans.{Given, imports_of}
use Rattle.hm_store.specs.Objects.{status_at, is_waiting, is_claimed, is_published, is_ready}
use Rattle.hm_store.specs.declared.object.Status.{Status}

abbrev pub Heap : Type 0
Heap = BinaryHeap (Reverse ℕ) Global

-- how often module k occurs in the heap
abbrev pub times : List (Reverse ℕ) → ℕ → ℕ
times items k = count_by (λ r. r.0 == k) items

-- the number of these modules that aren't published
abbrev pub open_among : List Status → List ℕ → ℕ
open_among ss ks = count_by (λ k. not (is_published (status_at ss k))) ks

abbrev pub count_at : List ℕ → ℕ → ℕ
count_at counts k = slice_index_or counts k 0

-- the module waits, and its count is 0
abbrev pub is_free : List Status → List ℕ → ℕ → Bool
is_free ss counts k = is_waiting (status_at ss k) && (count_at counts k == 0)

-- the number of counts that aren't 0
abbrev pub positive : List ℕ → ℕ
positive counts = count_by (λ c. nat_lt 0 c) counts

-- a heap, the least number first, with each number for which `here` holds once, and no other
pub record IsHeapOf (here : ℕ → Bool) (heap : Heap) : Type 0 where
  pub order : IsHeap (λ x y. nat_cmp y.0 x.0) (heap_items heap)
  pub each : (k : ℕ) → times (heap_items heap) k ≡ cond (here k) 1 0

-- there is room for each module whose count may become 0
abbrev pub HasRoom : List ℕ → Heap → Type 0
HasRoom counts heap = heap_len heap + positive counts ≤ heap_capacity heap

-- the counts are those of the unpublished imports, and the heap has the ready modules
pub record KeepsReady (g : Given) (ss : List Status) (counts : List ℕ) (ready : Heap) (claimed : ℕ) : Type 0 where
  pub len : length counts ≡ length g.imports
  pub open_imports : (k : ℕ) → count_at counts k ≡ open_among ss (imports_of g k)
  pub heap : IsHeapOf (is_ready g ss) ready
  pub room : HasRoom counts ready
  pub claims : claimed ≡ count_by is_claimed ss
