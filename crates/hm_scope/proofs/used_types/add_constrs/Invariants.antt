use Rattle.std.proofs.Common.{◌≡◌, ◌++◌, drop}
use Rattle.hm_syntax.specs.Lists.{constructors}
use Rattle.hm_scope.specs.UsedTypes.{constructors_types}
use Rattle.hm_scope.proofs.used_types.add_constrs.Given as goal

abbrev pub invariant-row : goal.invariant-row
invariant-row l = l.out ++ constructors_types (constructors (drop l.constr-index l.row)) ≡ l.fn.out ++ constructors_types (constructors l.row)
