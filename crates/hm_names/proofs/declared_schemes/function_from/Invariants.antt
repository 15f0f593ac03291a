use Rattle.std.proofs.Common.{◌≡◌, vec_len}
use Rattle.hm_types.specs.Shape.{type_of, types_of}
use Rattle.hm_names.specs.DeclaredSchemes.{functions_to}
use Rattle.hm_names.proofs.declared_schemes.function_from.Given as goal

abbrev pub invariant-loop-argument : goal.invariant-loop-argument
invariant-loop-argument l = functions_to (types_of l.left.items) (type_of l.ty) ≡ functions_to (types_of l.initial.left.items) (type_of l.initial.ty)

abbrev pub decreases-loop-argument : goal.decreases-loop-argument
decreases-loop-argument l = vec_len l.left
