use Rattle.hm_build.specs.Workers.{HasRoomIn}
use Rattle.hm_build.proofs.workers.check_all.Given as goal

abbrev pub invariant-loop : goal.invariant-loop
invariant-loop g l = (goal.iterator-loop g).can_next l.iterator' × (goal.iterator-loop g).is_finite l.iterator' × HasRoomIn g.L.Naming.plan l.pass
