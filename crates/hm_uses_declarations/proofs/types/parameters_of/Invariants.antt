use Rattle.std.proofs.Common.{◌≡◌, take}
use Rattle.hm_uses_declarations.proofs.types.parameters_of.Given as goal

abbrev pub invariant-params : goal.invariant-params
invariant-params l = l.names ≡ take l.param-index l.params
