use Rattle.std.proofs.Common.{◌≡◌, ◌+◌, ◌-◌, ◌++◌, drop, length}
use Rattle.hm_syntax.specs.Lists.{patterns}
use Rattle.hm_syntax.specs.Sizes.{patterns_size}
use Rattle.hm_names.specs.Variables.{patterns_variables}
use Rattle.hm_uses_symbols.specs.Pending.{lent, pending_size, pending_variables}
use Rattle.hm_uses_symbols.proofs.patterns.put_first.Given as goal

abbrev pub invariant-row : goal.invariant-row
invariant-row l = record {
  variables : pending_variables (lent l.pending.items) ≡ patterns_variables (patterns (drop (length l.row - l.behind) l.row)) ++ pending_variables (lent l.initial.pending.items);
  size : pending_size (lent l.pending.items) ≡ patterns_size (patterns (drop (length l.row - l.behind) l.row)) + pending_size (lent l.initial.pending.items);
}
