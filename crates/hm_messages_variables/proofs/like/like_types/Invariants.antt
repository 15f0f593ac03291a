use Rattle.std.proofs.Common.{◌≡◌, ◌++◌, drop, map}
use Rattle.hm_messages_variables.specs.LikeTypes.{likes_among}
use Rattle.hm_messages_variables.proofs.like.like_types.Given as goal

abbrev pub invariant-row : goal.invariant-row
invariant-row l = l.found.items ++ likes_among l.bindings (map (λ n. n.now) (drop l.name-index l.row)) ≡ likes_among l.bindings (map (λ n. n.now) l.row)
