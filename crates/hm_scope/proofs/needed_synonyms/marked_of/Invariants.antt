use Rattle.std.proofs.Common.{◌≡◌, ◌++◌, false, filter, drop}
use Rattle.std.specs.Prelude.{slice_index_or}
use Rattle.hm_scope.proofs.needed_synonyms.marked_of.Given as goal

abbrev pub invariant-order : goal.invariant-order
invariant-order l = l.marked.items ++ filter (λ k. slice_index_or l.marks k false) (drop l.number-index l.order) ≡ filter (λ k. slice_index_or l.marks k false) l.order
