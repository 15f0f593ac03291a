use Rattle.std.proofs.Common.{◌-◌}
use Rattle.hmc_lsp.proofs.disk.+add_sources.Given as goal

abbrev pub decreases-add_sources : goal.decreases-add_sources
decreases-add_sources l = 8 - l.depth

abbrev pub invariant-loop-entry : goal.invariant-loop-entry
invariant-loop-entry l =
    (goal.iterator-loop-entry).can_next l.entry-iterator ×
    (goal.iterator-loop-entry).is_finite l.entry-iterator
