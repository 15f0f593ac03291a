use Rattle.std.proofs.Common.{subst}
use Rattle.std.proofs.lemmas.List.{take_all}
use Rattle.hm_scope_tables.specs.Tables.{IsTable}
use Rattle.hm_scope_tables.proofs.NameTables.{noted_more}
use Rattle.hm_scope_names.proofs.meant.table_of.Goals as goal

pub pairs-preserved : goal.pairs-preserved
pairs-preserved c = noted_more c.args.pairs.now c.pairs.pair-index c.pair-item.result c.note.new.table c.pairs-test.true c.pair-item.is (c.in_ok-note.ensures _ c.pairs.invariant)

pub returns : goal.returns
returns c = subst (λ l. IsTable l c.pairs.table) (take_all c.pairs.pair-index c.args.pairs.now c.pairs-test.false) c.pairs.invariant
