use Rattle.std.proofs.Common.{◌≡◌, ℕ, ◌<◌, ◌+◌, [], All, vec_len}
use Rattle.std.specs.Prelude.{slice_index_or}
use Rattle.hm_store_shared.specs.Passes.{calls_of, known_of, room_of, seen_of, share_of, worker_of}
use Rattle.hm_store_shared.proofs.dealing.deal.Given as goal

abbrev pub invariant-loop-worker : goal.invariant-loop-worker
invariant-loop-worker g l = record {
  left : l.rest.parts + l.worker ≡ l.crew.workers;
  amount : l.rest.amount ≡ 0;
  count : vec_len l.passes ≡ l.worker;
  worker : (k : ℕ) (d : _) → k < l.worker → worker_of (slice_index_or l.passes.items k d) ≡ k;
  room : All (λ p. room_of p ≡ l.crew.room) l.passes.items;
  empty : All (λ p. calls_of p ≡ []) l.passes.items;
  parts : All (λ p. (share_of p).parts ≡ 1) l.passes.items;
  seen : All (λ p. seen_of p ≡ l.front) l.passes.items;
  known : All (λ p. known_of p ≡ []) l.passes.items;
  entries : l.journal.entries ≡ [];
  hired : l.journal.workers ≡ l.worker;
}
