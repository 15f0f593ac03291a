use Rattle.std.proofs.Common.{◌≡◌, ◌++◌, drop, map}
use Rattle.hm_names.specs.Entities.{constructor_name}
use Rattle.hm_scope_resolve.proofs.list_names.add_constructors.Given as goal

abbrev pub invariant-constrs : goal.invariant-constrs
invariant-constrs l = l.out ++ map constructor_name (drop l.constr-index l.constrs) ≡ l.fn.out ++ map constructor_name l.constrs
