use Rattle.std.proofs.Common.{rules}
use Rattle.hm_run_io.proofs.Transferring.{sends_more}
use Rattle.hm_run_io.proofs.output.write_text.Goals as goal

pub loop-rest-preserved-in-Ok : goal.loop-rest-preserved-in-Ok
loop-rest-preserved-in-Ok g c =
    let sent = c.loop-rest.invariant.3 in
    (search rules, search rules, search rules, sends_more _ _ _ _ sent.0 c.loop-rest.rest.now c.in-Ok.count sent.1 sent.2 c.in-Ok.ensures.bytes)
