use Rattle.std.proofs.Common.{◌≡◌}
use Rattle.hm_types.specs.Shape.{types_of}
use Rattle.hm_names.specs.DeclaredSchemes.{numbered}
use Rattle.hm_names.proofs.declared_schemes.variables_below.Given as goal

abbrev pub invariant-loop-n : goal.invariant-loop-n
invariant-loop-n l = types_of l.variables.items ≡ numbered 0 l.n
