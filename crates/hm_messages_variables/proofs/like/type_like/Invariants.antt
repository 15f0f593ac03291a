use Rattle.std.proofs.Common.{◌≡◌, drop}
use Rattle.hm_messages_variables.specs.LikeTypes.{capitalized, has_type}
use Rattle.hm_messages_variables.proofs.like.type_like.Given as goal

abbrev pub invariant-bindings : goal.invariant-bindings
invariant-bindings l = has_type (capitalized l.variable) l.bindings ≡ has_type (capitalized l.variable) (drop l.binding-index l.bindings)
