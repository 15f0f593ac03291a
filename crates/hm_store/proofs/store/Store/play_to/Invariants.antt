use Rattle.std.proofs.Common.{◌≡◌, length, take}
use Rattle.hm_store.specs.AuditsInside.{played}
use Rattle.hm_store.specs.Objects.{state_after}
use Rattle.hm_store.proofs.store.Store.play_to.Given as goal

abbrev pub invariant-loop-place : goal.invariant-loop-place
invariant-loop-place l = record {
  state : played l.replay ≡ state_after l.self.given (take l.place l.self.journal);
  search_of : length l.replay.search ≡ length l.self.given.imports;
}
