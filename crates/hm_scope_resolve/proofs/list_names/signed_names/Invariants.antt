use Rattle.std.proofs.Common.{◌≡◌, ◌++◌, drop}
use Rattle.hm_syntax.specs.Lists.{declarations}
use Rattle.hm_names.specs.Faults.Lists.{signed_names}
use Rattle.hm_scope_resolve.proofs.list_names.signed_names.Given as goal

abbrev pub invariant-decls : goal.invariant-decls
invariant-decls l = l.names ++ signed_names (declarations (drop l.decl-index l.decls)) ≡ signed_names (declarations l.decls)
