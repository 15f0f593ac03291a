use Rattle.hm_messages_excerpts.proofs.Plain.{plain_units}
use Rattle.hm_messages_excerpts.proofs.columns.units_in.Goals as goal

pub returns-then-is_ascii-clause-units : goal.returns-then-is_ascii-clause-units
returns-then-is_ascii-clause-units c = plain_units c.args.text.now c.if-is_ascii.ensures.cases
