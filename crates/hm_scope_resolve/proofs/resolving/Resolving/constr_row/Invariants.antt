use Rattle.std.proofs.Common.{◌≡◌, ◌++◌, map, drop}
use Rattle.hm_syntax.specs.Lists.{constructors}
use Rattle.hm_names.specs.Resolved.{constructor_with}
use Rattle.hm_names.specs.Found.{noting, resolver_of, binder_of, constructors_faults}
use Rattle.hm_scope_resolve.proofs.resolving.Resolving.constr_row.Given as goal

abbrev pub invariant-row : goal.invariant-row
invariant-row l = record {
  trees : l.resolved.items ++ map (constructor_with (resolver_of l.fn.self.known) (binder_of l.home)) (drop l.constr-index l.row) ≡ map (constructor_with (resolver_of l.fn.self.known) (binder_of l.home)) l.row;
  state : noting (constructors_faults l.fn.self.known (constructors (drop l.constr-index l.row))) l.self ≡ noting (constructors_faults l.fn.self.known (constructors l.row)) l.fn.self;
  known : l.self.known ≡ l.fn.self.known;
}
