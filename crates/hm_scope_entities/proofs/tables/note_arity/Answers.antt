use Rattle.hm_scope_entities.proofs.FirstDescriptions.{noted_known, noted_new}
use Rattle.hm_scope_entities.proofs.tables.note_arity.Goals as goal

pub returns-in-Some : goal.returns-in-Some
returns-in-Some c = noted_known c.args.table.now.entries c.args.key c.args.count c.in-Some.field-0.now c.in-Some.ensures.value

pub returns-in_ok-insert-in-None : goal.returns-in_ok-insert-in-None
returns-in_ok-insert-in-None c = noted_new c.args.table.now c.insert.new.self.entries c.args.key c.args.count c.in-None.ensures.value c.in_ok-insert-in-None.ensures.entries
