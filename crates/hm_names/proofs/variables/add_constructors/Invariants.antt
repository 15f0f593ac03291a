use Rattle.std.proofs.Common.{◌≡◌, ◌++◌, drop}
use Rattle.hm_syntax.specs.Lists.{constructors}
use Rattle.hm_names.specs.Variables.{constructors_variables}
use Rattle.hm_names.proofs.variables.add_constructors.Given as goal

abbrev pub invariant-row : goal.invariant-row
invariant-row l = l.out ++ constructors_variables (constructors (drop l.constr-index l.row)) ≡ l.fn.out ++ constructors_variables (constructors l.row)
