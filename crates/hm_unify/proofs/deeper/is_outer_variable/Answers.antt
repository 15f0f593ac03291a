use Rattle.std.proofs.Common.{sym, ◌∙◌}
use Rattle.hm_types.specs.Monotypes.{var}
use Rattle.hm_unify.specs.Steps.{equations_in}
use Rattle.hm_unify.proofs.Outer.{bound_not_outer, tested_outer}
use Rattle.hm_unify.proofs.deeper.is_outer_variable.Goals as goal

pub returns-then-is_bound : goal.returns-then-is_bound
returns-then-is_bound c = sym (bound_not_outer (equations_in c.args.bindings.now) c.args.number c.args.count c.requires.sound.triangular (sym c.is_bound.ensures ∙ c.if-is_bound.true))

pub returns : goal.returns
returns c = tested_outer (equations_in c.args.bindings.now) c.args.levels.now (var c.args.number) c.args.count c.of_variable.result c.requires.levelled (sym c.is_bound.ensures ∙ c.if-is_bound.false) c.of_variable.ensures
