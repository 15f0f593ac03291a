use Rattle.std.proofs.Common.{◌≡◌, ◌++◌, drop}
use Rattle.hm_syntax.specs.Lists.{declarations}
use Rattle.hm_names.specs.Faults.Lists.{constructor_names}
use Rattle.hm_scope_resolve.proofs.list_names.constructor_names.Given as goal

abbrev pub invariant-decls : goal.invariant-decls
invariant-decls l = l.names ++ constructor_names (declarations (drop l.decl-index l.decls)) ≡ constructor_names (declarations l.decls)
