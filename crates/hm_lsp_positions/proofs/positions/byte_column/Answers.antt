use Rattle.hm_lsp_positions.specs.declared.units.Encoding.TheVariants.{Utf8}
use Rattle.hm_lsp_positions.proofs.Returns.{column_is}
use Rattle.hm_lsp_positions.proofs.positions.byte_column.Goals as goal

pub returns : goal.returns
returns c =
    column_is Utf8 c.args.line.now c.args.column c.most_of_bytes.result c.boundary.result c.most_of_bytes.ensures.most c.most_of_bytes.ensures.last c.boundary.ensures.before c.boundary.ensures.between c.boundary.ensures.last
