use Rattle.std.proofs.Common.{take}
use Rattle.hm_typing.specs.Names.{IsOneOf}
use Rattle.hm_names_keys.specs.Keys.{variable_of_key}
use Rattle.hm_names_keys.specs.Variables.{identifier}
use Rattle.hm_infer_context.specs.Kept.{variables_of}
use Rattle.hm_infer_context.specs.Patterns.{names_of}
use Rattle.hm_infer_context.proofs.variables.place_among_few.Given as goal

abbrev pub invariant-items : goal.invariant-items
invariant-items l = ¬ (IsOneOf (identifier (variable_of_key l.key)) (names_of (variables_of (take l.place l.items))))
