use Rattle.hm_lsp_results.specs.Asked.{far}
use Rattle.hm_lsp_results.proofs.Found.{found_at}
use Rattle.hm_lsp_results.proofs.asking.name_at.Goals as goal

pub returns-then-spot-gt4294967295 : goal.returns-then-spot-gt4294967295
returns-then-spot-gt4294967295 g c = far c.in-Some.ensures.some c.spot_of-spot.ensures c.if-spot-gt4294967295.true

pub returns-in-Ok : goal.returns-in-Ok
returns-in-Ok g c =
    found_at c.args.asked.now.encoding c.args.asked.now.held.now c.args.asked.now.checked.now c.args.source c.args.position c.in-Some.text.now _ c.spot_of-spot.result.column c.in-Ok.found c.in-Some.ensures.some
    c.spot_of-spot.ensures c.in-Ok.ensures.some c.in-Ok.ensures.none
