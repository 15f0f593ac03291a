use Rattle.std.proofs.Common.{refl}
use Rattle.hm_scope_exports.proofs.ExportedItems.{unbound_meaning, ambiguous_meaning}
use Rattle.hm_scope_exports.proofs.exports.exported_entity.Goals as goal

pub returns-in_ok-add_fault-in-Unbound : goal.returns-in_ok-add_fault-in-Unbound
returns-in_ok-add_fault-in-Unbound c = λ m fs scope. unbound_meaning m fs c.args.space c.args.name.now c.args.faults.now.items c.add_fault.new.faults.items (c.in-Unbound.ensures.means m fs scope) c.in_ok-add_fault-in-Unbound.ensures

pub returns-in_ok-add_fault-in-Ambiguous : goal.returns-in_ok-add_fault-in-Ambiguous
returns-in_ok-add_fault-in-Ambiguous c = λ m fs scope. ambiguous_meaning m fs c.args.space c.args.name.now c.args.faults.now.items c.add_fault-in-Ambiguous.new.faults.items (c.in-Ambiguous.ensures.means m fs scope) c.in_ok-add_fault-in-Ambiguous.ensures

pub returns-in-Entity : goal.returns-in-Entity
returns-in-Entity c = λ m fs scope. (c.in-Entity.ensures.means m fs scope, refl)
