-- The room of a worker as a sum over the rows of a plan, and no more than fits.
use Rattle.std.proofs.Common.{◌≡◌, ℕ, suc, ◌+◌, ◌*◌, ◌-◌, ◌^◌, ◌≤◌, ◌<◌, List, [], ◌∷◌, length, min, sum_by, refl, arith}
use Rattle.std.proofs.lemmas.List.Sums.{sum_by-cons}
use Rattle.hm_build_stages.specs.Rooms.{room_of}

pub rooms : (rows : List (List ℕ)) → 2 + sum_by (λ row. length row + 2) rows ≡ room_of rows
rooms [] = refl
rooms (row ∷ rows) =
    let long : length (row ∷ rows) ≡ suc (length rows) = refl in
    omega (arith, rooms rows, long, sum_by-cons (λ (r : List ℕ). length r + 2) row rows, sum_by-cons (λ (r : List ℕ). length r) row rows)

-- a sum that isn't too large is whole
pub whole : (n r : ℕ) → r ≡ min n (2 ^ 64 - 1) → r ≤ 2 ^ 40 → (r ≡ n) × (r < 2 ^ 62)
whole n r a b = (omega (arith, a, b), omega (arith, b))
