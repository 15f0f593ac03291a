use Rattle.std.proofs.Common.{ap}
use Rattle.hm_uses_declarations.specs.Senses.{sense_of}
use Rattle.hm_uses_renames.proofs.meanings.is_some_local.Goals as goal

pub returns-in-Local : goal.returns-in-Local
returns-in-Local c = λ yes. (c.in-Local.field-0.line, (c.in-Local.field-0.column, ap sense_of c.in-Local.is))
