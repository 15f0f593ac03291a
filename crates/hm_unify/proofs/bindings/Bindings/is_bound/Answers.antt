use Rattle.std.proofs.Common.{sym}
use Rattle.hm_unify.specs.Steps.{equations_in}
use Rattle.hm_unify.proofs.Outer.{has_binding_bound}
use Rattle.hm_unify.proofs.bindings.Bindings.is_bound.Goals as goal

pub returns-in-Some : goal.returns-in-Some
returns-in-Some c = sym (has_binding_bound (equations_in c.args.self.now) c.args.variable _ c.in-Some.ensures)
