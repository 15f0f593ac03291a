use denote.Param.Send.{sendable}
use Rattle.std.proofs.Crossing.{crosses}
use Rattle.hm_service.proofs.Crossing.{checked_send}
use Rattle.hm_service.proofs.stacks.fn.check_on_thread.scope.Goals as goal

pub spawn_scoped_with-requires-send-T : goal.spawn_scoped_with-requires-send-T
spawn_scoped_with-requires-send-T g c κs within = search (checked_send, crosses, sendable) depth 30 fits 5000
