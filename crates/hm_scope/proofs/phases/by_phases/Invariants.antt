use Rattle.std.proofs.Common.{◌≡◌, ◌++◌, filter}
use Rattle.hm_scope.specs.PhaseAnswers.{is_of_lists, is_of_names, is_of_numbers}
use Rattle.hm_scope.proofs.phases.by_phases.Given as goal

abbrev pub invariant-loop-fault : goal.invariant-loop-fault
invariant-loop-fault l = record {
  lists : l.parts.lists.items ≡ filter is_of_lists l.yielded;
  names : l.parts.names.items ≡ filter is_of_names l.yielded;
  numbers : l.parts.numbers.items ≡ l.initial.parts.numbers.items ++ filter is_of_numbers l.yielded;
}
