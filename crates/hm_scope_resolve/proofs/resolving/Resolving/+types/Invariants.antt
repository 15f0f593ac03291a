use Rattle.std.proofs.Common.{◌≡◌, ◌++◌, map, drop}
use Rattle.hm_syntax.specs.Lists.{types}
use Rattle.hm_syntax.specs.Sizes.{type_size, types_size}
use Rattle.hm_names.specs.Resolved.{type_with}
use Rattle.hm_names.specs.Found.{noting, resolver_of, types_faults}
use Rattle.hm_scope_resolve.proofs.resolving.Resolving.+types.Given as goal

abbrev pub decreases-type_expr : goal.decreases-type_expr
decreases-type_expr l = type_size l.ty.now

abbrev pub decreases-type_row : goal.decreases-type_row
decreases-type_row l = types_size (types l.row.now)

abbrev pub invariant-type_row-row : goal.invariant-type_row-row
invariant-type_row-row l = record {
  trees : l.resolved.items ++ map (type_with (resolver_of l.fn.self.known)) (drop l.ty-index l.row) ≡ map (type_with (resolver_of l.fn.self.known)) l.row;
  state : noting (types_faults l.fn.self.known (types (drop l.ty-index l.row))) l.self ≡ noting (types_faults l.fn.self.known (types l.row)) l.fn.self;
  known : l.self.known ≡ l.fn.self.known;
}
