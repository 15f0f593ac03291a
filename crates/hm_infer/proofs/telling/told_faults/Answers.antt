use Rattle.std.proofs.Common.{arith}
use Rattle.hm_infer.proofs.FaultsTold.{all_told}
use Rattle.hm_infer.proofs.telling.told_faults.Goals as goal

pub returns : goal.returns
returns c =
    all_told c.args.decls.now c.args.starts.now c.starts.start-index c.starts.faults.items c.in_ok-sort_faults.field-0.items
    (let e = c.starts-test.false in let l = c.starts.auto.start-index-end in omega (arith, e, l)) c.starts.invariant c.in_ok-sort_faults.ensures.ordered c.in_ok-sort_faults.ensures.same
