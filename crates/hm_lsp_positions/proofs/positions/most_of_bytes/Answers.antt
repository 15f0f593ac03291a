use Rattle.std.proofs.Common.{◌+◌, arith, length}
use Rattle.hm_lsp_positions.proofs.Sums.{bytes_before}
use Rattle.hm_lsp_positions.proofs.positions.most_of_bytes.Goals as goal

pub returns-then-line-column-clause-most : goal.returns-then-line-column-clause-most
returns-then-line-column-clause-most c =
    let count = bytes_before c.args.line.now (length c.args.line.now) in
    let few = c.if-line-column.true in
    omega (arith, count, few)

pub returns-clause-most : goal.returns-clause-most
returns-clause-most c =
    let count = bytes_before c.args.line.now c.args.column in
    omega (arith, count)

pub returns-clause-last : goal.returns-clause-last
returns-clause-last c = λ low.
    let more = c.if-line-column.false in
    let count = bytes_before c.args.line.now (c.args.column + 1) in
    omega (arith, count, more)
