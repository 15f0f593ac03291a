use Rattle.std.proofs.Common.{ap}
use Rattle.hm_unify.proofs.Unifiers.{solution_binds_only}
use Rattle.hm_unify.proofs.Loop.{value_general, value_absorbed, value_idempotent, value_brings_in, value_well_formed}
use Rattle.hm_unify.proofs.equations.Solver.has_solution.Goals as goal

pub returns-clause-general : goal.returns-clause-general
returns-clause-general c = value_general _ _ (ap (λ s. s.equations) c.self.view_is) c.self.invariant.sound.triangular

pub returns-clause-absorbed : goal.returns-clause-absorbed
returns-clause-absorbed c = value_absorbed _ _ (ap (λ s. s.equations) c.self.view_is) c.self.invariant.sound.triangular

pub returns-clause-idempotent : goal.returns-clause-idempotent
returns-clause-idempotent c = value_idempotent _ _ (ap (λ s. s.equations) c.self.view_is) c.self.invariant.sound.triangular

pub returns-clause-only : goal.returns-clause-only
returns-clause-only c = solution_binds_only c.args.self.now.equations

pub returns-clause-brings_in : goal.returns-clause-brings_in
returns-clause-brings_in c = value_brings_in c.args.self.now.equations

pub returns-clause-equations : goal.returns-clause-equations
returns-clause-equations c = value_well_formed _ _ _ _ (ap (λ s. s.equations) c.self.view_is) (ap (λ s. s.given) c.self.view_is) c.self.invariant.well_formed
