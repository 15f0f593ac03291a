use Rattle.std.proofs.Common.{sym}
use Rattle.serde_json.specs.View.{view}
use Rattle.hm_lsp_results.proofs.Requests.{has_position}
use Rattle.hm_lsp_results.proofs.replying.position_of_request.Goals as goal

pub returns-in-Some : goal.returns-in-Some
returns-in-Some c = has_position (view c.args.request.now) (view c.in-Some.position.now) c.position_in.result (sym c.in-Some.ensures) c.position_in.ensures.some c.position_in.ensures.none
