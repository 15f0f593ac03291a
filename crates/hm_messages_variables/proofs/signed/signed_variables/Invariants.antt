use Rattle.std.proofs.Common.{◌≡◌, ◌++◌, drop}
use Rattle.hm_syntax.specs.Lists.{declarations}
use Rattle.hm_messages_variables.specs.LikeTypes.{signed_variables}
use Rattle.hm_messages_variables.proofs.signed.signed_variables.Given as goal

abbrev pub invariant-decls : goal.invariant-decls
invariant-decls l = l.names ++ signed_variables l.variable (declarations (drop l.decl-index l.decls)) ≡ signed_variables l.variable (declarations l.decls)
