use Rattle.hm_types_prelude.proofs.Tabled.{row_not_rigid, row_arities, row_numbered}
use Rattle.hm_types_prelude.proofs.standard_prelude.values.Goals as goal

pub value_entry-requires-clause-not_rigid : goal.value_entry-requires-clause-not_rigid
value_entry-requires-clause-not_rigid c = row_not_rigid (λ row. (row.1, row.2.now)) c.args.table.now c.loop-name.name-index _ c.requires c.loop-name-test.true

pub value_entry-requires-clause-arities : goal.value_entry-requires-clause-arities
value_entry-requires-clause-arities c = row_arities (λ row. (row.1, row.2.now)) c.args.table.now c.loop-name.name-index _ c.requires c.loop-name-test.true

pub value_entry-requires-clause-numbered : goal.value_entry-requires-clause-numbered
value_entry-requires-clause-numbered c = row_numbered (λ row. (row.1, row.2.now)) c.args.table.now c.loop-name.name-index _ c.requires c.loop-name-test.true
