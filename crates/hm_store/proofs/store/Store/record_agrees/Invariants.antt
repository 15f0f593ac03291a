use Rattle.std.proofs.Common.{◌≡◌, true, drop, take, All}
use Rattle.hm_store.specs.Agreement.{CallAgrees}
use Rattle.hm_store.specs.AuditsInside.{IsReplay}
use Rattle.hm_store.specs.Records.{rises}
use Rattle.hm_store.proofs.store.Store.record_agrees.Given as goal

abbrev pub invariant-loop-call : goal.invariant-loop-call
invariant-loop-call l = record {
  agree : All (CallAgrees l.self l.log.worker) (take l.call-index l.call-items);
  replay : IsReplay l.self l.replay;
  ahead : rises l.replay.at (drop l.call-index l.call-items) ≡ true;
}
