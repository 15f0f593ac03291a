use Rattle.std.proofs.Common.{◌≡◌, ◌++◌}
use Rattle.hm_names.specs.Variables.{pattern_variables}
use Rattle.hm_uses_symbols.specs.Pending.{lent, pending_size, pending_variables}
use Rattle.hm_uses_symbols.proofs.patterns.add_variables.Given as goal

abbrev pub invariant-patterns : goal.invariant-patterns
invariant-patterns l = l.names ++ pending_variables (lent l.pending.items) ≡ l.fn.names ++ pattern_variables l.pat

abbrev pub decreases-patterns : goal.decreases-patterns
decreases-patterns l = pending_size (lent l.pending.items)
