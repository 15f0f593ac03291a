-- The orders of the worked graph.
use Rattle.std.proofs.Common.{◌≡◌, ◌≢◌, ℕ, zero, suc, ◌<◌, [], ◌∷◌, take, Contains, ◌⊎◌, inl, inr, refl, sym, arith}
use Rattle.std.specs.Prelude.{slice_index}
use Rattle.std.specs.List.{AllPairs}
use Rattle.hm_graph_components.specs.Closure.{one, more}
use Rattle.hm_graph_components.specs.Digraph.{Edge, Reaches}
use Rattle.hm_graph_components.specs.Marks.{IsClosed}
use Rattle.hm_graph_components.specs.NodeOrders.{IsOrder}
use Rattle.hm_graph_components.specs.Worked.{three, OrdersRow}
use Rattle.hm_graph_components.proofs.Members.{Contains-nil}

closed : IsClosed three
closed zero y (zero, lt, is) = let e : 2 ≡ y = is in omega (arith, e)
closed zero y (suc k, lt, is) = absurd (omega (arith, lt))
closed (suc zero) y (k, lt, is) = absurd (omega (arith, lt))
closed (suc (suc zero)) y (zero, lt, is) = let e : 0 ≡ y = is in omega (arith, e)
closed (suc (suc zero)) y (suc zero, lt, is) = let e : 1 ≡ y = is in omega (arith, e)
closed (suc (suc zero)) y (suc (suc k), lt, is) = absurd (omega (arith, lt))
closed (suc (suc (suc x))) y (k, lt, is) = absurd (omega (arith, lt))

-- what holds of 0, 1 and 2 holds of each number below 3
below_three : (P : ℕ → Type 0) → P 0 → P 1 → P 2 → (k : ℕ) → k < 3 → P k
below_three P a b c zero lt = a
below_three P a b c (suc zero) lt = b
below_three P a b c (suc (suc zero)) lt = c
below_three P a b c (suc (suc (suc k))) lt = absurd (omega (arith, lt))

within : (x y : ℕ) → Reaches three x y → y < 3
within x y (one e) = closed x y e
within x y (more {b = b} c e) = closed b y e

lone : (y : ℕ) → ¬ (Reaches three 1 y)
lone y (one e) = Contains-nil y e
lone y (more {b = b} c e) = lone b c

to_two : Edge three 0 2
to_two = (0, omega arith, refl)

to_zero : Edge three 2 0
to_zero = (0, omega arith, refl)

to_one : Edge three 2 1
to_one = (1, omega arith, refl)

-- a list of three different numbers
apart : (a b c : ℕ) → a ≢ b → a ≢ c → b ≢ c → AllPairs (λ x y. x ≢ y) (a ∷ b ∷ c ∷ [])
apart a b c ab ac bc zero zero d less lt = absurd (omega (arith, less))
apart a b c ab ac bc zero (suc zero) d less lt = ab
apart a b c ab ac bc zero (suc (suc zero)) d less lt = ac
apart a b c ab ac bc (suc zero) zero d less lt = absurd (omega (arith, less))
apart a b c ab ac bc (suc zero) (suc zero) d less lt = absurd (omega (arith, less))
apart a b c ab ac bc (suc zero) (suc (suc zero)) d less lt = bc
apart a b c ab ac bc (suc (suc i)) j d less lt = absurd (omega (arith, less, lt))
apart a b c ab ac bc i (suc (suc (suc j))) d less lt = absurd (omega (arith, lt))

differ : (a b : ℕ) → a < b → a ≢ b
differ a b lt e = absurd (omega (arith, lt, e))

round : Reaches three 0 0
round = more (one to_two) to_zero

back : Reaches three 2 2
back = more (one to_zero) to_two

after_first : (i y : ℕ) → i < 3 → Reaches three (slice_index (1 ∷ 0 ∷ 2 ∷ []) i) y → Contains (take i (1 ∷ 0 ∷ 2 ∷ [])) y ⊎ Reaches three y (slice_index (1 ∷ 0 ∷ 2 ∷ []) i)
after_first zero y lt r = absurd (lone y r)
after_first (suc zero) y lt r = below_three (λ z. Contains {X = ℕ} (1 ∷ []) z ⊎ Reaches three z 0) (inr round) (inl (0, omega arith, refl)) (inr (one to_zero)) y (within 0 y r)
after_first (suc (suc zero)) y lt r = below_three (λ z. Contains {X = ℕ} (1 ∷ 0 ∷ []) z ⊎ Reaches three z 2) (inl (1, omega arith, refl)) (inl (0, omega arith, refl)) (inr back) y (within 2 y r)
after_first (suc (suc (suc i))) y lt r = absurd (omega (arith, lt))

after_either : (i y : ℕ) → i < 3 → Reaches three (slice_index (1 ∷ 2 ∷ 0 ∷ []) i) y → Contains (take i (1 ∷ 2 ∷ 0 ∷ [])) y ⊎ Reaches three y (slice_index (1 ∷ 2 ∷ 0 ∷ []) i)
after_either zero y lt r = absurd (lone y r)
after_either (suc zero) y lt r = below_three (λ z. Contains {X = ℕ} (1 ∷ []) z ⊎ Reaches three z 2) (inr (one to_two)) (inl (0, omega arith, refl)) (inr back) y (within 2 y r)
after_either (suc (suc zero)) y lt r = below_three (λ z. Contains {X = ℕ} (1 ∷ 2 ∷ []) z ⊎ Reaches three z 0) (inr round) (inl (0, omega arith, refl)) (inl (1, omega arith, refl)) y (within 0 y r)
after_either (suc (suc (suc i))) y lt r = absurd (omega (arith, lt))

first : IsOrder three (1 ∷ 0 ∷ 2 ∷ [])
first = record {
  all = below_three (λ x. Contains {X = ℕ} (1 ∷ 0 ∷ 2 ∷ []) x) (1, omega arith, refl) (0, omega arith, refl) (2, omega arith, refl);
  nodes = below_three (λ i. slice_index (1 ∷ 0 ∷ 2 ∷ []) i < 3) (omega arith) (omega arith) (omega arith);
  once = apart 1 0 2 (λ e. differ 0 1 (omega arith) (sym e)) (differ 1 2 (omega arith)) (differ 0 2 (omega arith));
  after = after_first;
}

either : IsOrder three (1 ∷ 2 ∷ 0 ∷ [])
either = record {
  all = below_three (λ x. Contains {X = ℕ} (1 ∷ 2 ∷ 0 ∷ []) x) (2, omega arith, refl) (0, omega arith, refl) (1, omega arith, refl);
  nodes = below_three (λ i. slice_index (1 ∷ 2 ∷ 0 ∷ []) i < 3) (omega arith) (omega arith) (omega arith);
  once = apart 1 2 0 (differ 1 2 (omega arith)) (λ e. differ 0 1 (omega arith) (sym e)) (λ e. differ 0 2 (omega arith) (sym e));
  after = after_either;
}

behind : ¬ (IsOrder three (0 ∷ 1 ∷ 2 ∷ []))
behind h = elim (h.after 0 1 (omega arith) (more (one to_two) to_one)) [
  | inl c ↦ Contains-nil 1 c
  | inr r ↦ lone 0 r
]

twice : ¬ (IsOrder three (1 ∷ 1 ∷ 0 ∷ 2 ∷ []))
twice h = h.once 0 1 0 (omega arith) (omega arith) refl

pub orders : OrdersRow
orders = record { first = first; either = either; behind = behind; twice = twice }
