use Rattle.std.proofs.Common.{sym}
use Rattle.hm_lsp_serving.proofs.turns.step.Goals as goal

pub returns-clause-done : goal.returns-clause-done
returns-clause-done g c =
    let done = c.in_ok-act.ensures.done in (
      done.0,
      (record { middle = c.take_frame.new.serving.server; what = c.in_ok-taken.taken; taken = c.in_ok-taken.ensures.taken; follows = done.1.0; ends = sym c.in_ok-act.ensures.status }, done.1.1),
    )
