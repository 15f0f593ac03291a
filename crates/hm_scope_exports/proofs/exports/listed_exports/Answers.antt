use Rattle.std.proofs.Common.{List, subst}
use Rattle.std.proofs.lemmas.List.{take_all}
use Rattle.hm_syntax.specs.declared.ast.Export.{Export}
use Rattle.hm_scope_exports.specs.declared.exports.ModuleExports.{ModuleExports}
use Rattle.hm_scope_exports.specs.ModuleExports.{AreListedExports}
use Rattle.hm_scope_exports.proofs.ListedExports.{none_so_far, no_table, so_far_none, so_far_more}
use Rattle.hm_scope_exports.proofs.exports.listed_exports.Goals as goal

pub loop-item-init : goal.loop-item-init
loop-item-init c = λ m fs e.
    let made : ModuleExports = record { given = c.new.result; faults = c.new-2.result } in
    so_far_none m fs c.args.items.now made c.new-table.result (none_so_far m fs made c.new-table.result c.new.ensures.items c.new-2.ensures.items (no_table c.new.result.items c.new-table.result c.new.ensures.items c.new-table.ensures.empty))

pub loop-item-preserved : goal.loop-item-preserved
loop-item-preserved c = λ m fs e. so_far_more m fs c.args.items.now c.loop-item.item-index c.item-item.result c.add_export.new.exports c.add_export.new.table c.loop-item-test.true c.item-item.is
    (c.in_ok-add_export.ensures m fs _ e (c.loop-item.invariant m fs e))

pub returns : goal.returns
returns c = λ m fs e. subst (λ (l : List Export). AreListedExports m fs l c.loop-item.exports) (take_all c.loop-item.item-index c.args.items.now c.loop-item-test.false) (c.loop-item.invariant m fs e).listed
