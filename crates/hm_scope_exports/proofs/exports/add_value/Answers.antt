use Rattle.std.proofs.Common.{Option, subst}
use Rattle.hm_types.specs.declared.Entity.{Entity}
use Rattle.hm_names.specs.declared.namespace.Namespace.TheVariants.{Values}
use Rattle.hm_scope_exports.specs.ExportItems.{IsExportMeaning}
use Rattle.hm_scope_exports.proofs.ExportedItems.{value_missing, value_given, fine_name}
use Rattle.hm_scope_exports.proofs.exports.add_value.Goals as goal

pub returns-in_default-clause-given : goal.returns-in_default-clause-given
returns-in_default-clause-given c = λ m fs e.
    let meant = subst (λ (o : Option Entity). IsExportMeaning m fs Values c.args.name.now c.args.faults.now.items c.exported_entity.new.faults.items o) c.in_default.is (c.in_ok-entity.ensures m fs e.scope) in
    value_missing m fs c.args.name.now c.args.out.now.items meant.0

pub returns-in_default-clause-faults : goal.returns-in_default-clause-faults
returns-in_default-clause-faults c = λ m fs e.
    (subst (λ (o : Option Entity). IsExportMeaning m fs Values c.args.name.now c.args.faults.now.items c.exported_entity.new.faults.items o) c.in_default.is (c.in_ok-entity.ensures m fs e.scope)).1

pub returns-clause-given : goal.returns-clause-given
returns-clause-given c = λ m fs e.
    let meant = subst (λ (o : Option Entity). IsExportMeaning m fs Values c.args.name.now c.args.faults.now.items c.exported_entity.new.faults.items o) c.in-Some.is (c.in_ok-entity.ensures m fs e.scope) in
    value_given m fs c.args.name.now c.args.out.now.items c.add_given.new.out.items c.in-Some.entity meant.0 c.in_ok-add_given.ensures

pub returns-clause-faults : goal.returns-clause-faults
returns-clause-faults c = λ m fs e.
    let meant = subst (λ (o : Option Entity). IsExportMeaning m fs Values c.args.name.now c.args.faults.now.items c.exported_entity.new.faults.items o) c.in-Some.is (c.in_ok-entity.ensures m fs e.scope) in
    rw meant.1 (fine_name m fs Values c.args.name.now c.args.faults.now.items c.in-Some.entity meant.0)
