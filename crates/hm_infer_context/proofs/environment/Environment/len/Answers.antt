use Rattle.std.proofs.Common.{[], arith, ap, length}
use Rattle.hm_infer_context.specs.Environments.{Assumed}
use Rattle.hm_infer_context.specs.Kept.{assumed_of}
use Rattle.hm_infer_context.proofs.Tables.{stack_length}
use Rattle.hm_infer_context.proofs.environment.Environment.len.Goals as goal

pub returns : goal.returns
returns c =
    let k = stack_length assumed_of c.self.inside.items.items [] in
    let v = ap (length {A = Assumed}) c.self.view_is in
    omega (arith, k, v, c.len.ensures, c.self.inside.items.ok.0)
