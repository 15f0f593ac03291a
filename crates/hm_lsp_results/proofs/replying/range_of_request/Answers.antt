use Rattle.std.proofs.Common.{sym}
use Rattle.serde_json.specs.View.{view}
use Rattle.hm_lsp_results.proofs.Requests.{has_range}
use Rattle.hm_lsp_results.proofs.replying.range_of_request.Goals as goal

pub returns-in-Some : goal.returns-in-Some
returns-in-Some c = has_range (view c.args.request.now) (view c.in-Some.range.now) c.range_in.result (sym c.in-Some.ensures) c.range_in.ensures.some c.range_in.ensures.none
