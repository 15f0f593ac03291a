use Rattle.std.proofs.Common.{sym, ap, option_map, subst}
use Rattle.hm_syntax.specs.declared.ast.SubItems.{SubItems}
use Rattle.hm_names.specs.Bindings.{Adds}
use Rattle.hm_scope_exports.specs.ExportItems.{GivesBehind, FaultBehind}
use Rattle.hm_scope_exports.proofs.ExportedItems.{all_group}
use Rattle.hm_scope_exports.proofs.exports.add_behind.Goals as goal

pub returns-in_ok-add_group-in-All-clause-given : goal.returns-in_ok-add_group-in-All-clause-given
returns-in_ok-add_group-in-All-clause-given c = λ m fs e.
    subst (λ (s : SubItems). Adds c.args.out.now.items c.add_group.new.out.items (GivesBehind m fs c.args.owner.now s)) (sym c.in-All.is)
    (all_group m fs c.args.exporter.now.groups e.groups c.constructors.result c.args.owner.now c.constructors.ensures.module c.constructors.ensures.owner c.args.out.now.items c.add_group.new.out.items (ap (option_map (λ z. z.now)) c.constructors.ensures.part) c.in_ok-add_group-in-All.ensures.added)

pub returns-in_ok-add_parts-in-Some-clause-given : goal.returns-in_ok-add_parts-in-Some-clause-given
returns-in_ok-add_parts-in-Some-clause-given c = λ m fs e.
    subst (λ (s : SubItems). Adds c.args.out.now.items c.add_parts.new.out.items (GivesBehind m fs c.args.owner.now s)) (sym c.in-Some.is) (rw c.as_slice.ensures at (c.in_ok-add_parts-in-Some.ensures.given m fs e))

pub returns-in_ok-add_parts-in-Some-clause-faults : goal.returns-in_ok-add_parts-in-Some-clause-faults
returns-in_ok-add_parts-in-Some-clause-faults c = λ m fs e.
    subst (λ (s : SubItems). Adds c.args.faults.now.items c.add_parts.new.faults.items (FaultBehind m fs c.args.owner.now s)) (sym c.in-Some.is) (rw c.as_slice.ensures at (c.in_ok-add_parts-in-Some.ensures.faults m fs e))
