use denote.Param.Send.{sendable}
use Rattle.std.proofs.Crossing.{crosses}
use Rattle.hm_build.proofs.Crossing.{finished_send}
use Rattle.hm_build_stages.proofs.faults.BuildFault.TheSendSync as BuildFault
use Rattle.hm_build.proofs.building.fn.build_on_thread.scope.Goals as goal

pub spawn_scoped_with-requires-send-T : goal.spawn_scoped_with-requires-send-T
spawn_scoped_with-requires-send-T g c κs within = search (finished_send, BuildFault.the_field_send, crosses, sendable) depth 30 fits 5000
