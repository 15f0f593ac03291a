use Rattle.hm_scope_exports.proofs.ExportedItems.{whole_missing, whole_fault, whole_fine, whole_group, is_named, isnt_named}
use Rattle.hm_scope_exports.proofs.exports.add_whole.Goals as goal

pub returns-then-not-contains-clause-given : goal.returns-then-not-contains-clause-given
returns-then-not-contains-clause-given c = λ m fs e. whole_missing m fs c.args.name.now c.args.out.now.items (isnt_named m fs c.args.exporter.now.modules c.as_str.result.now c.args.name.now.text c.contains.result e.modules c.contains.ensures c.as_str.ensures c.if-not-contains.true)

pub returns-then-not-contains-clause-faults : goal.returns-then-not-contains-clause-faults
returns-then-not-contains-clause-faults c = λ m fs e. whole_fault m fs c.args.name.now c.args.faults.now.items c.add_fault.new.faults.items (isnt_named m fs c.args.exporter.now.modules c.as_str.result.now c.args.name.now.text c.contains.result e.modules c.contains.ensures c.as_str.ensures c.if-not-contains.true) c.in_ok-add_fault.ensures

pub returns-clause-given : goal.returns-clause-given
returns-clause-given c = λ m fs e. whole_group m fs c.args.exporter.now.groups e.groups c.whole.result c.args.out.now.items c.add_group.new.out.items c.as_str-2.result c.args.name.now c.whole.ensures c.as_str-2.ensures
    (is_named m fs c.args.exporter.now.modules c.as_str.result.now c.args.name.now.text c.contains.result e.modules c.contains.ensures c.as_str.ensures c.if-not-contains.false) c.in_ok-add_group.ensures.added

pub returns-clause-faults : goal.returns-clause-faults
returns-clause-faults c = λ m fs e. whole_fine m fs c.args.name.now c.args.faults.now.items (is_named m fs c.args.exporter.now.modules c.as_str.result.now c.args.name.now.text c.contains.result e.modules c.contains.ensures c.as_str.ensures c.if-not-contains.false)
