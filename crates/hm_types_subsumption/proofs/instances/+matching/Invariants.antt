use Rattle.std.proofs.Common.{◌≡◌, take, length, true, vec_len}
use Rattle.hm_types.specs.Monotypes.{size, list_size}
use Rattle.hm_types.specs.Shape.{type_of, types_of}
use Rattle.hm_types_subsumption.specs.Matching.{MatchesAll}
use Rattle.hm_types_subsumption.proofs.instances.+matching.Given as goal

abbrev pub decreases-match_type : goal.decreases-match_type
decreases-match_type l = size (type_of l.pattern.now)

abbrev pub decreases-match_types : goal.decreases-match_types
decreases-match_types l = list_size (types_of l.patterns.now)

abbrev pub invariant-match_types-loop-i : goal.invariant-match_types-loop-i
invariant-match_types-loop-i l = record {
  as_many : length l.patterns ≡ length l.targets;
  len : vec_len l.found ≡ vec_len l.initial.found;
  matches : MatchesAll true l.initial.found.items l.found.items (take l.i (types_of l.patterns)) (take l.i (types_of l.targets));
}
