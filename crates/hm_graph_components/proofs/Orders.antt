-- the groups of a graph by the table of what reaches what
use Rattle.std.proofs.Common.{◌≡◌, ℕ, zero, suc, ◌+◌, ◌<◌, ◌≤◌, Bool, true, false, cond, ◌||◌, eqb, List, [], length, Contains, ◌↔◌, inl, inr, refl, arith, Vec, Global, slice_index_or}
use Rattle.std.proofs.lemmas.Bool.{both_ways, cases_Bool, or_cases, or_left, or_right, eq-eqb, eqb-true, cases_lt, cases_order, or_from, ne_eqb}
use Rattle.std.proofs.lemmas.List.{get_or_past}
use Rattle.hm_graph_components.specs.Digraph.{Graph, IsNext, lists}
use Rattle.hm_graph_components.specs.Marks.{IsMarked, bit, IsSquare, IsTable, IsReady, IsHeld, IsRowOf}
use Rattle.hm_graph_components.proofs.Closures.{Closure-trans}

-- how many numbers below n pass a test
abbrev pub tally : (ℕ → Bool) → ℕ → ℕ
tally p zero = 0
tally p (suc n) = cond (p n) 1 0 + tally p n

cond-le : (a b : Bool) → (a ≡ true → b ≡ true) → cond a 1 0 ≤ cond b 1 0
cond-le true true h = omega arith
cond-le true false h = absurd (both_ways false refl (h refl))
cond-le false true h = omega arith
cond-le false false h = omega arith

tally-le : (p q : ℕ → Bool) (n : ℕ) → ((k : ℕ) → k < n → p k ≡ true → q k ≡ true) → tally p n ≤ tally q n
tally-le p q zero h = omega arith
tally-le p q (suc n) h =
    omega (arith, tally-le p q n (λ k below. h k (omega arith)), cond-le (p n) (q n) (h n (omega arith)))

cond-lt : (a b : Bool) → a ≡ false → b ≡ true → cond a 1 0 < cond b 1 0
cond-lt true b h i = absurd (both_ways true h refl)
cond-lt false true h i = omega arith
cond-lt false false h i = absurd (both_ways false refl i)

pub tally-lt : (p q : ℕ → Bool) (n j : ℕ) → ((k : ℕ) → k < n → p k ≡ true → q k ≡ true) → j < n → p j ≡ false → q j ≡ true → tally p n < tally q n
tally-lt p q zero j h below clear full = omega arith
tally-lt p q (suc n) j h below clear full =
    elim (cases_order j n) [
      | inl same ↦ omega (arith, cond-lt (p n) (q n) (rw same at clear) (rw same at full), tally-le p q n (λ k less. h k (omega arith)))
      | inr (inl less) ↦ omega (arith, tally-lt p q n j (λ k small. h k (omega arith)) less clear full, cond-le (p n) (q n) (h n (omega arith)))
      | inr (inr more_than) ↦ omega arith
    ]

-- x itself and what it reaches
abbrev near : List (Vec Bool Global) → ℕ → ℕ → Bool
near table x y = eqb x y || bit table x y

-- a bit is set only at a node
bit-within : (table : List (Vec Bool Global)) (n x y : ℕ) → IsSquare table n → x < n → bit table x y ≡ true → y < n
bit-within table n x y square below set =
    elim (cases_lt y n) [
      | inl less ↦ less
      | inr past ↦
          let beyond : length (slice_index_or (lists table) x []) ≤ y = omega (arith, square.1 x below) in
          absurd (both_ways (bit table x y) (get_or_past (slice_index_or (lists table) x []) y false beyond) set)
    ]

-- where each node is placed or blocked, each is placed
held : (graph : Graph) (table : List (Vec Bool Global)) (placed : List Bool) (fuel x : ℕ) → IsTable graph table → length placed ≡ length graph → ((z : ℕ) → z < length placed → IsHeld table placed z) → x < length graph → tally (near table x) (length graph) < fuel → IsMarked placed x
held graph table placed zero x is len all below few = absurd (omega arith)
held graph table placed (suc fuel) x is len all below few =
    elim (all x (omega arith)) [
      | inl marked ↦ marked
      | inr (y, less, blocks) ↦
          let y_below : y < length graph = omega arith in
          let onward : (k : ℕ) → k < length graph → near table y k ≡ true → near table x k ≡ true =
          λ k k_below set. or_right (eqb x k) (bit table x k)
          (elim (or_cases (eqb y k) (bit table y k) set) [
            | inl same ↦ rw (← eqb-true y k same) blocks.ahead
            | inr reached ↦ (is.reached x k below).1 (Closure-trans ((is.reached x y below).0 blocks.ahead) ((is.reached y k y_below).0 reached))
          ]) in
          let apart : y ≡ x → ⊥ = λ same. both_ways (bit table x x) (rw same at blocks.not_back) (rw same at blocks.ahead) in
          let not_near : near table y x ≡ false = or_from (eqb y x) (bit table y x) (ne_eqb y x apart) blocks.not_back in
          let is_near : near table x x ≡ true = or_left (eqb x x) (bit table x x) (eq-eqb x x refl) in
          let fewer : tally (near table y) (length graph) < tally (near table x) (length graph) = tally-lt (near table y) (near table x) (length graph) x onward below not_near is_near in
          absurd (both_ways (slice_index_or placed y false) blocks.unplaced (held graph table placed fuel y is len all y_below (omega arith)))
    ]

pub all_placed : (graph : Graph) (table : List (Vec Bool Global)) (placed : List Bool) → IsTable graph table → length placed ≡ length graph → ((z : ℕ) → z < length placed → IsHeld table placed z) → (x : ℕ) → x < length graph → IsMarked placed x
all_placed graph table placed is len all x below =
    held graph table placed (suc (tally (near table x) (length graph))) x is len all below (omega arith)

-- the least node that is ready gives the next group
pub next_group : (graph : Graph) (table : List (Vec Bool Global)) (placed : List Bool) (before group : List ℕ) (x : ℕ) → IsTable graph table → length placed ≡ length graph → length table ≡ length graph → ((k : ℕ) → IsMarked placed k ↔ Contains before k) → IsReady table placed x → ((z : ℕ) → z < x → IsHeld table placed z) → IsRowOf table x group → IsNext graph before group
next_group graph table placed before group x is len rows same ready least row =
    let x_below : x < length graph = omega (arith, ready.node) in
    record {
      least = x;
      may_come = record {
        node = x_below;
        absent = λ there. both_ways (slice_index_or placed x false) ready.unplaced ((same x).1 there);
        after = λ y reached.
            let set : bit table x y ≡ true = (is.reached x y x_below).1 reached in
            let y_below : y < length graph = bit-within table (length graph) x y is.square x_below set in
            elim (cases_Bool (slice_index_or placed y false)) [
              | inl marked ↦ inl ((same y).0 marked)
              | inr unplaced ↦ elim (cases_Bool (bit table y x)) [
                | inl back ↦ inr ((is.reached y x y_below).0 back)
                | inr not_back ↦ absurd (ready.free y (omega arith) (record { ahead = set; not_back = not_back; unplaced = unplaced }))
              ]
            ];
      };
      first = λ y may. elim (cases_lt y x) [
        | inl less ↦ elim (least y less) [
          | inl marked ↦ absurd (may.absent ((same y).0 marked))
          | inr (w, w_below, blocks) ↦
              elim (may.after w ((is.reached y w may.node).0 blocks.ahead)) [
                | inl there ↦ absurd (both_ways (slice_index_or placed w false) blocks.unplaced ((same w).1 there))
                | inr back ↦ absurd (both_ways (bit table w y) blocks.not_back ((is.reached w y (omega arith)).1 back))
              ]
        ]
        | inr at_least ↦ at_least
      ];
      group_of = record {
        members = λ y. (
          (λ there. let m = (row.members y).0 there in
              let y_below : y < length graph = omega (arith, m.0) in (
                y_below,
                elim m.1 [
                  | inl e ↦ inl e
                  | inr (there', back) ↦ inr ((is.reached x y x_below).0 there', (is.reached y x y_below).0 back)
                ],
              )),
          (λ (y_below, together). (row.members y).1 (
            omega arith,
            elim together [
              | inl e ↦ inl e
              | inr (there, back) ↦ inr ((is.reached x y x_below).1 there, (is.reached y x y_below).1 back)
            ],
          )),
        );
        ascending = row.ascending;
      };
    }
