use Rattle.hm_types_prelude.proofs.Tabled.{row_not_rigid, row_arities, row_numbered}
use Rattle.hm_types_prelude.proofs.standard_prelude.constructors.Goals as goal

pub constructor_entry-requires-clause-not_rigid : goal.constructor_entry-requires-clause-not_rigid
constructor_entry-requires-clause-not_rigid c = row_not_rigid (λ row. (row.3, row.4.now)) c.args.table.now c.loop-row.row-index _ c.requires c.loop-row-test.true

pub constructor_entry-requires-clause-arities : goal.constructor_entry-requires-clause-arities
constructor_entry-requires-clause-arities c = row_arities (λ row. (row.3, row.4.now)) c.args.table.now c.loop-row.row-index _ c.requires c.loop-row-test.true

pub constructor_entry-requires-clause-numbered : goal.constructor_entry-requires-clause-numbered
constructor_entry-requires-clause-numbered c = row_numbered (λ row. (row.3, row.4.now)) c.args.table.now c.loop-row.row-index _ c.requires c.loop-row-test.true
