use Rattle.std.proofs.Common.{◌≡◌, ◌++◌, map, drop}
use Rattle.hm_syntax.specs.Lists.{patterns}
use Rattle.hm_syntax.specs.Sizes.{pattern_size, patterns_size}
use Rattle.hm_names.specs.Resolved.{pattern_with}
use Rattle.hm_names.specs.Found.{noting, resolver_of, binder_of, patterns_faults}
use Rattle.hm_scope_resolve.proofs.resolving.Resolving.+patterns.Given as goal

abbrev pub decreases-pat : goal.decreases-pat
decreases-pat l = pattern_size l.pat.now

abbrev pub decreases-pat_row : goal.decreases-pat_row
decreases-pat_row l = patterns_size (patterns l.row.now)

abbrev pub invariant-pat_row-row : goal.invariant-pat_row-row
invariant-pat_row-row l = record {
  trees : l.resolved.items ++ map (pattern_with (resolver_of l.fn.self.known) (binder_of l.home)) (drop l.pat-index l.row) ≡ map (pattern_with (resolver_of l.fn.self.known) (binder_of l.home)) l.row;
  state : noting (patterns_faults l.fn.self.known (patterns (drop l.pat-index l.row))) l.self ≡ noting (patterns_faults l.fn.self.known (patterns l.row)) l.fn.self;
  known : l.self.known ≡ l.fn.self.known;
  groups : l.self.groups ≡ l.fn.self.groups;
}
