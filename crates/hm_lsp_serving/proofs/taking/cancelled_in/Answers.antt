use Rattle.hm_lsp_session.specs.Cancelled.{cancels_of}
use Rattle.hm_lsp_serving.proofs.Turning.{cancels_of_none}
use Rattle.hm_lsp_serving.proofs.taking.cancelled_in.Goals as goal

pub returns-in_default : goal.returns-in_default
returns-in_default c = cancels_of_none c.args.frames.now (cancels_of c.new.result) c.in_default.ensures.cases c.new.ensures
