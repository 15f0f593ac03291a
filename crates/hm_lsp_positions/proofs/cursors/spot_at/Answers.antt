use Rattle.hm_lsp_positions.proofs.Walking.{position_is}
use Rattle.hm_lsp_positions.proofs.cursors.spot_at.Goals as goal

pub returns-clause-position : goal.returns-clause-position
returns-clause-position c =
    position_is c.args.encoding c.args.text.now c.spot_in.result c.line_of-line.result c.args.offset c.spot_in.ensures.spot c.spot_in.ensures.line c.spot_in.ensures.offset c.line_of-line.ensures.last
