use Rattle.std.proofs.Common.{◌≡◌, ◌++◌, None, drop}
use Rattle.hm_syntax.specs.Lists.{declarations}
use Rattle.hm_names.specs.Faults.Lists.{other_lengths}
use Rattle.hm_scope_resolve.proofs.binding_lists.other_lengths.Given as goal

abbrev pub invariant-decls : goal.invariant-decls
invariant-decls l = l.names ++ other_lengths l.begun (declarations (drop l.decl-index l.decls)) ≡ other_lengths None (declarations l.decls)
