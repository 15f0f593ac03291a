use Rattle.std.proofs.Common.{ap}
use Rattle.hm_uses_declarations.specs.Senses.{sense_of}
use Rattle.hm_uses_renames.proofs.meanings.is_some_type_variable.Goals as goal

pub returns-in-TypeVariable : goal.returns-in-TypeVariable
returns-in-TypeVariable c = λ yes. (c.in-TypeVariable.field-0.line, (c.in-TypeVariable.field-0.column, ap sense_of c.in-TypeVariable.is))
