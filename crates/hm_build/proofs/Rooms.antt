-- The room of new passes.
use Rattle.std.proofs.Common.{◌≡◌, ℕ, List, [], All, ap, arith, slice_index_or}
use Rattle.hm_store_published.specs.declared.history.Naming as Naming
use Rattle.hm_store_shared.specs.declared.passes.Pass.{Pass}
use Rattle.hm_store_shared.specs.Passes as pass
use Rattle.hm_build_stages.specs.Rooms.{room_of}
use Rattle.hm_build.specs.Workers.{HasRoomIn, calls_of}

-- passes without calls have room for the claims of their workers
pub all_have_room : {L : Type 0} {J : Naming.Ghosts L} (plan : List (List ℕ)) (ps : List (Pass L J)) (room : ℕ) → All (λ p. pass.room_of p ≡ room) ps → All (λ p. pass.known_of p ≡ []) ps → room ≡ room_of plan → All (HasRoomIn plan) ps
all_have_room plan ps room rooms known is k d lt =
    let p = slice_index_or ps k d in
    let none : calls_of plan (pass.worker_of p) (pass.known_of p) ≡ 0 = ap (calls_of plan (pass.worker_of p)) (known k d lt) in
    record { left = omega (arith, rooms k d lt, is, none); fits = omega (arith, none) }
