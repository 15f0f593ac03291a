use Rattle.std.proofs.Common.{arith, rules}
use Rattle.hm_lsp_positions.proofs.Sums.{sum_more}
use Rattle.hm_lsp_positions.proofs.positions.most_bytes.Goals as goal

pub returns-then-sum-column-clause-last : goal.returns-then-sum-column-clause-last
returns-then-sum-column-clause-last c =
    λ low.
    let sum = sum_more c.args.encoding c.args.line.now c.bytes.at c.bytes.sum c.unit_of-sum.result low c.bytes.invariant.0 c.unit_of-sum.ensures.units in
    let large = c.if-sum-column.true in
    omega (arith, sum, large)

pub bytes-preserved : goal.bytes-preserved
bytes-preserved c =
    let sum = sum_more c.args.encoding c.args.line.now c.bytes.at c.bytes.sum c.unit_of-sum.result (search rules) c.bytes.invariant.0 c.unit_of-sum.ensures.units in
    let small = c.if-sum-column.false in
    let few = c.unit_of-sum.ensures.few in
    let before = c.bytes.invariant.2 in
    (sum, omega (arith, small), omega (arith, few, before))
