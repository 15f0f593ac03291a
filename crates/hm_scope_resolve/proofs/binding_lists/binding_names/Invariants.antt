use Rattle.std.proofs.Common.{◌≡◌, ◌++◌, None, drop}
use Rattle.hm_syntax.specs.Lists.{declarations}
use Rattle.hm_names.specs.Faults.Lists.{binding_names}
use Rattle.hm_scope_resolve.proofs.binding_lists.binding_names.Given as goal

abbrev pub invariant-decls : goal.invariant-decls
invariant-decls l = l.names ++ binding_names l.begun (declarations (drop l.decl-index l.decls)) ≡ binding_names None (declarations l.decls)
