use Rattle.std.proofs.Common.{◌≡◌, ◌∙◌, ap, sym, true, false, option_map, Some}
use Rattle.hm_scope_exports.proofs.ExportedItems.{part_group, part_fine, part_fault}
use Rattle.hm_scope_exports.proofs.exports.add_part.Goals as goal

pub returns-then-branch-clause-given : goal.returns-then-branch-clause-given
returns-then-branch-clause-given c = λ m fs e. part_group m fs c.args.exporter.now.groups e.groups c.constructor-selector.result c.args.owner.now c.constructor-selector.ensures.module c.constructor-selector.ensures.owner c.args.part.now.text
    (ap (option_map (λ z. z.now)) c.constructor-selector.ensures.part ∙ ap Some c.as_str.ensures) c.args.out.now.items c.add_group.new.out.items c.in_ok-add_group.ensures.added

pub returns-then-branch-clause-faults : goal.returns-then-branch-clause-faults
returns-then-branch-clause-faults c = λ m fs e. part_fine m fs c.args.exporter.now.groups e.groups c.constructor-selector.result c.args.owner.now c.constructor-selector.ensures.module c.constructor-selector.ensures.owner c.args.part.now.text
    (ap (option_map (λ z. z.now)) c.constructor-selector.ensures.part ∙ ap Some c.as_str.ensures) c.args.faults.now.items c.args.part.now (c.in_ok-add_group.ensures.some.0 c.if-branch.true)

pub returns-clause-given : goal.returns-clause-given
returns-clause-given c = λ m fs e. part_group m fs c.args.exporter.now.groups e.groups c.constructor-selector.result c.args.owner.now c.constructor-selector.ensures.module c.constructor-selector.ensures.owner c.args.part.now.text
    (ap (option_map (λ z. z.now)) c.constructor-selector.ensures.part ∙ ap Some c.as_str.ensures) c.args.out.now.items c.add_group.new.out.items c.in_ok-add_group.ensures.added

pub returns-clause-faults : goal.returns-clause-faults
returns-clause-faults c = λ m fs e. part_fault m fs c.args.exporter.now.groups e.groups c.constructor-selector.result c.args.owner.now c.constructor-selector.ensures.module c.constructor-selector.ensures.owner c.args.part.now.text
    (ap (option_map (λ z. z.now)) c.constructor-selector.ensures.part ∙ ap Some c.as_str.ensures) c.args.faults.now.items c.add_fault.new.faults.items c.args.part.now (λ h. let f : true ≡ false = sym (c.in_ok-add_group.ensures.some.1 h) ∙ c.if-branch.false in cc) c.in_ok-add_fault.ensures
