use Rattle.std.proofs.Common.{◌≡◌, ◌++◌, drop, map}
use Rattle.hm_names.specs.Found.{binder_of}
use Rattle.hm_scope_resolve.proofs.copies.bound_names.Given as goal

abbrev pub invariant-names : goal.invariant-names
invariant-names l = l.copies.items ++ map (binder_of l.home) (drop l.name-index l.names) ≡ map (binder_of l.home) l.names
