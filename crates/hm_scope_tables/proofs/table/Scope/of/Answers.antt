use Rattle.std.proofs.Common.{◌<◌, ◌≤◌, subst, length}
use Rattle.std.proofs.lemmas.List.{take_all}
use Rattle.hm_scope_tables.specs.Tables.{IsTable}
use Rattle.hm_scope_tables.proofs.NameTables.{noted_more}
use Rattle.hm_scope_tables.proofs.table.Scope.of.Goals as goal

pub loop-binding-preserved : goal.loop-binding-preserved
loop-binding-preserved c =
    let items = c.deref-binding-items.ensures.value in
    let i = c.loop-binding.binding-index in
    let inside : i < length c.args.pairs.items = rw (← items) c.loop-binding-test.true in
    noted_more c.args.pairs.items i c.binding-item.result c.note.new.table inside (rw items at c.binding-item.is) (c.in_ok-note.ensures _ c.loop-binding.invariant)

pub invariant_of-result : goal.invariant_of-result
invariant_of-result c =
    let items = c.deref-binding-items.ensures.value in
    let past : length c.args.pairs.items ≤ c.loop-binding.binding-index = rw (← items) c.loop-binding-test.false in
    subst (λ l. IsTable l c.loop-binding.table) (take_all c.loop-binding.binding-index c.args.pairs.items past) c.loop-binding.invariant
