use Rattle.hm_lsp_positions.proofs.Returns.{column_is}
use Rattle.hm_lsp_positions.proofs.positions.column_bytes.Goals as goal

pub returns : goal.returns
returns c =
    column_is c.args.encoding c.args.line.now c.args.column c.most_bytes.result c.boundary.result c.most_bytes.ensures.most c.most_bytes.ensures.last c.boundary.ensures.before c.boundary.ensures.between
    c.boundary.ensures.last
