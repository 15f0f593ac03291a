use Rattle.std.proofs.Common.{◌≡◌, ◌++◌, drop}
use Rattle.hm_syntax.specs.Lists.{declarations}
use Rattle.hm_names.specs.Variables.{bound_names}
use Rattle.hm_names.proofs.variables.add_all_bound.Given as goal

abbrev pub invariant-row : goal.invariant-row
invariant-row l = l.out ++ bound_names (declarations (drop l.decl-index l.decls)) ≡ l.fn.out ++ bound_names (declarations l.decls)
