use Rattle.std.proofs.Common.{◌≡◌, ◌++◌, drop}
use Rattle.hm_syntax.specs.Lists.{declarations}
use Rattle.hm_names.specs.Variables.{clause_names}
use Rattle.hm_scope_resolve.proofs.list_names.clause_names.Given as goal

abbrev pub invariant-decls : goal.invariant-decls
invariant-decls l = l.names ++ clause_names (declarations (drop l.decl-index l.decls)) ≡ clause_names (declarations l.decls)
