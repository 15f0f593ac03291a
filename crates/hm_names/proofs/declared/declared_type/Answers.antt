use Rattle.std.proofs.Common.{rules, sym, subst}
use Rattle.hm_types.specs.Schemes.{HasArities}
use Rattle.hm_names.proofs.DeclaredTypes.{declared_below}
use Rattle.hm_names.proofs.TypesOfTrees.{arities}
use Rattle.hm_names.proofs.declared.declared_type.Goals as goal

pub returns-clause-below : goal.returns-clause-below
returns-clause-below c = declared_below c.args.ty.now c.len-count.result c.in_ok-variables.variables (search rules) (search rules)

pub returns-clause-arities : goal.returns-clause-arities
returns-clause-arities c = subst HasArities (sym c.in_ok-body.ensures) (arities c.in_ok-variables.variables c.args.ty.now)
