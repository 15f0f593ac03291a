use Rattle.std.proofs.Common.{◌≡◌, ◌++◌, drop}
use Rattle.hm_scope_resolve.proofs.copies.copy_names.Given as goal

abbrev pub invariant-names : goal.invariant-names
invariant-names l = l.copies.items ++ drop l.name-index l.names ≡ l.names
