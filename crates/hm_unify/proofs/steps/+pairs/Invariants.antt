use Rattle.std.proofs.Common.{vec_len}
use Rattle.hm_types.specs.Monotypes.{size, list_size}
use Rattle.hm_types.specs.Shape.{type_of, types_of}
use Rattle.hm_unify.specs.Steps.{pendings_of}
use Rattle.hm_unify.proofs.Pairs.{PairsLeft}
use Rattle.hm_unify.proofs.steps.+pairs.Given as goal

abbrev pub decreases-push_pair : goal.decreases-push_pair
decreases-push_pair l = size (type_of l.left.now)

abbrev pub decreases-push_pairs : goal.decreases-push_pairs
decreases-push_pairs l = list_size (types_of l.lefts.now)

abbrev pub invariant-push_pairs-loop-right : goal.invariant-push_pairs-loop-right
invariant-push_pairs-loop-right l = PairsLeft (pendings_of l.initial.work.items) l.lefts l.initial.rights.items (pendings_of l.work.items) l.rights.items

abbrev pub decreases-push_pairs-loop-right : goal.decreases-push_pairs-loop-right
decreases-push_pairs-loop-right l = vec_len l.rights
