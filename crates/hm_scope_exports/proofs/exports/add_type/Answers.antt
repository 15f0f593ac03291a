use Rattle.std.proofs.Common.{◌≡◌, Option, List, subst}
use Rattle.hm_types.specs.declared.Entity.{Entity}
use Rattle.hm_names.specs.declared.faults.Fault.{Fault}
use Rattle.hm_names.specs.declared.namespace.Namespace.TheVariants.{Types}
use Rattle.hm_names.specs.Bindings.{Adds}
use Rattle.hm_scope_exports.specs.ExportItems.{IsExportMeaning, bare_pair, FaultBehind}
use Rattle.hm_scope_exports.proofs.ExportedItems.{type_missing, type_unknown, type_given, type_faults}
use Rattle.hm_scope_exports.proofs.exports.add_type.Goals as goal

pub returns-in_default-clause-given : goal.returns-in_default-clause-given
returns-in_default-clause-given c = λ m fs e.
    let meant = subst (λ (o : Option Entity). IsExportMeaning m fs Types c.args.name.now c.args.faults.now.items c.exported_entity.new.faults.items o) c.in_default.is (c.in_ok-owner.ensures m fs e.scope) in
    type_missing m fs c.args.name.now c.args.subs.now c.args.out.now.items meant.0

pub returns-in_default-clause-faults : goal.returns-in_default-clause-faults
returns-in_default-clause-faults c = λ m fs e.
    let meant = subst (λ (o : Option Entity). IsExportMeaning m fs Types c.args.name.now c.args.faults.now.items c.exported_entity.new.faults.items o) c.in_default.is (c.in_ok-owner.ensures m fs e.scope) in
    type_unknown m fs c.args.name.now c.args.subs.now c.args.faults.now.items c.exported_entity.new.faults.items meant.0 meant.1

pub returns-clause-given : goal.returns-clause-given
returns-clause-given c = λ m fs e.
    let meant = subst (λ (o : Option Entity). IsExportMeaning m fs Types c.args.name.now c.args.faults.now.items c.exported_entity.new.faults.items o) c.in-Some.is (c.in_ok-owner.ensures m fs e.scope) in
    type_given m fs c.args.name.now c.args.subs.now c.args.out.now.items c.add_given.new.out.items c.add_behind.new.out.items c.in-Some.owner meant.0
    (subst (λ (t : Entity). Adds c.args.out.now.items c.add_given.new.out.items (λ p. bare_pair Types c.args.name.now.text t ≡ p)) c.copy.ensures c.in_ok-add_given.ensures) (c.in_ok-add_behind.ensures.given m fs e)

pub returns-clause-faults : goal.returns-clause-faults
returns-clause-faults c = λ m fs e.
    let meant = subst (λ (o : Option Entity). IsExportMeaning m fs Types c.args.name.now c.args.faults.now.items c.exported_entity.new.faults.items o) c.in-Some.is (c.in_ok-owner.ensures m fs e.scope) in
    type_faults m fs c.args.name.now c.args.subs.now c.args.faults.now.items c.add_behind.new.faults.items c.in-Some.owner meant.0
    (subst (λ (l : List Fault). Adds l c.add_behind.new.faults.items (FaultBehind m fs c.in-Some.owner c.args.subs.now)) meant.1 (c.in_ok-add_behind.ensures.faults m fs e))
