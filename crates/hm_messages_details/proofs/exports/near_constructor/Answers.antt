use Rattle.std.proofs.Common.{rules, ◌≡◌, List, subst}
use Rattle.std.specs.Prelude.{Contains}
use Rattle.hm_types.specs.declared.entries.TypeEntry.{TypeEntry}
use Rattle.hm_messages_details.proofs.Exporting.{among_at, near_part_is}
use Rattle.hm_messages_details.proofs.exports.near_constructor.Goals as goal

pub returns-then-branch : goal.returns-then-branch
returns-then-branch c =
    let entry = c.entry-item.result in
    let type = c.in-Some.ty.now in
    let listed : Contains c.args.interface.now.types type = subst (λ (l : List TypeEntry). Contains l type) c.types.ensures.value c.in-Some.ensures.0 in
    let owner : entry.owner ≡ type.entity = search rules in
    let named : c.as_str-name.result.now ≡ entry.name = search rules in
    near_part_is c.args.interface.now c.args.text.now c.args.owner.now c.as_str-name.result.now type entry listed c.in-Some.ensures.1
    (among_at _ _ c.entries.entry-index entry c.entries-test.true c.entry-item.is c.constructors-entries.ensures.value) owner named (c.in_ok-is_near.ensures c.if-branch.true)
