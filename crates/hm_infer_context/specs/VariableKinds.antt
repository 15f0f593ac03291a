-- The kinds of type variables.
use Rattle.std.specs.Prelude.{Bool, true, false}
use Rattle.hm_infer_context.specs.declared.instances.VariableKind.{VariableKind}
use Rattle.hm_infer_context.specs.declared.instances.VariableKind.TheVariants.{Flexible, Rigid}

abbrev pub is_rigid : VariableKind → Bool
is_rigid Flexible = false
is_rigid Rigid = true
