use Rattle.std.proofs.Common.{◌-◌, ◌+◌, ◌<◌, ◌≡◌, length, arith}
use Rattle.hm_uses_symbols.specs.Pending.{lent, pending_size, pending_variables}
use Rattle.hm_uses_symbols.proofs.Opened.{row_size, row_variables}
use Rattle.hm_uses_symbols.proofs.patterns.put_first.Goals as goal

pub row-preserved : goal.row-preserved
row-preserved c =
    let row = c.args.row.now in
    let n = length row in
    let i = n - 1 - c.row.behind in
    let within : i < n = omega (arith, c.row-test.true) in
    let here : n - (c.row.behind + 1) ≡ i = omega (arith, c.row-test.true) in
    let next : n - c.row.behind ≡ i + 1 = omega (arith, c.row-test.true) in
    record {
      variables = row_variables row i (n - (c.row.behind + 1)) (n - c.row.behind) _ c.row.pending.items c.push.new.self.items within here next c.index-row-row.is c.in_ok-push.ensures.items (pending_variables (lent c.args.pending.now.items)) c.row.invariant.variables;
      size = row_size row i (n - (c.row.behind + 1)) (n - c.row.behind) _ c.row.pending.items c.push.new.self.items within here next c.index-row-row.is c.in_ok-push.ensures.items (pending_size (lent c.args.pending.now.items)) c.row.invariant.size;
    }
