use Rattle.std.proofs.Common.{◌≡◌, ◌++◌, drop}
use Rattle.hm_scope_resolve.proofs.list_names.add_names.Given as goal

abbrev pub invariant-names : goal.invariant-names
invariant-names l = l.out ++ drop l.name-index l.names ≡ l.fn.out ++ l.names
