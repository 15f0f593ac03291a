use Rattle.std.proofs.Common.{subst, List}
use Rattle.hm_scope_exports.specs.declared.exports.ModuleExports.{ModuleExports}
use Rattle.hm_names.specs.Bindings.{Pair, Adds}
use Rattle.hm_scope_exports.specs.ExportItems.{LeastFault}
use Rattle.hm_scope_exports.proofs.ListedExports.{one_more}
use Rattle.hm_scope_exports.proofs.exports.add_export.Goals as goal

pub returns : goal.returns
returns c = λ m fs before e so_far.
    let new : ModuleExports = record { given = c.add_all.new.given; faults = c.add_clash.new.faults } in
    one_more m fs before c.args.item.now c.args.exports.now new c.args.table.now c.add_all.new.table c.add_item.new.out.items c.new-out.result.items c.add_item.new.faults.items so_far c.new-out.ensures.items
    (c.in_ok-add_item.ensures.given m fs e) (c.in_ok-add_item.ensures.faults m fs e) (rw c.deref.ensures.value at c.in_ok-add_all.ensures.given) c.in_ok-add_all.ensures.table
    (λ all table. subst (λ (l : List Pair). Adds c.add_item.new.faults.items c.add_clash.new.faults.items (LeastFault all l c.args.item.now)) c.deref-2.ensures.value (c.in_ok-add_clash.ensures all table))
