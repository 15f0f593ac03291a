use Rattle.std.proofs.Common.{◌∙◌, get_or, refl}
use Rattle.hm_infer_results.specs.UnitFaults.{has_types, has_none}
use Rattle.hm_infer_expressions.proofs.Referring.{members_at}
use Rattle.hm_infer_results.proofs.FaultyGroups.{first_in, restored}
use Rattle.hm_infer_results.proofs.finding_faults.is_faulty.Goals as goal

pub returns-then-typed-group-clause-told : goal.returns-then-typed-group-clause-told
returns-then-typed-group-clause-told c = has_types (get_or c.args.group.now 0 0) (first_in c.args.group.now 0 c.requires.some) c.if-typed-group.true refl

pub members_refer_to_typed-requires-clause-members : goal.members_refer_to_typed-requires-clause-members
members_refer_to_typed-requires-clause-members c = λ m o. ((c.requires.rows.each m.node m.place).0 ((members_at c.deref.result.now c.args.list.now.found.now.rows.items c.args.group.now c.in_ok-members.members.items c.deref-2.result.now c.deref.ensures.value c.deref-2.ensures.value c.in_ok-members.ensures m).0 o).1).0

pub returns-clause-told : goal.returns-clause-told
returns-clause-told c = has_none (get_or c.args.group.now 0 0) (first_in c.args.group.now 0 c.requires.some) c.if-typed-group.false c.mark.new.typed c.mark.ensures c.deref-2.result.now
    (members_at c.deref.result.now c.args.list.now.found.now.rows.items c.args.group.now c.in_ok-members.members.items c.deref-2.result.now c.deref.ensures.value c.deref-2.ensures.value c.in_ok-members.ensures) c.in_ok-is_free.ensures.told

pub returns-clause-table : goal.returns-clause-table
returns-clause-table c = restored c.args.group.now c.args.typed.now c.mark.new.typed c.unmark.new.typed (λ j o. c.requires.alike j (get_or c.args.group.now 0 0) o (first_in c.args.group.now 0 c.requires.some) ∙ c.if-typed-group.false) c.mark.ensures c.unmark.ensures
