use denote.Param.Send.{sendable}
use Rattle.std.proofs.Crossing.{crosses}
use Rattle.hm_service_references.proofs.Crossing.{store_sync}
use Rattle.hm_service_rename.proofs.preparing.found_by_thread.Goals as goal

pub spawn_scoped_with-requires-send-F : goal.spawn_scoped_with-requires-send-F
spawn_scoped_with-requires-send-F g c κs within = search (store_sync, crosses, sendable) depth 30 fits 5000
