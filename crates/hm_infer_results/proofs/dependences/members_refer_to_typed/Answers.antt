use Rattle.std.proofs.Common.{◌∙◌, rules, get_or}
use Rattle.hm_infer_expressions.proofs.MemberForms.{is_member, same_member}
use Rattle.hm_infer_expressions.proofs.Referring.{members_step, members_refuse, members_all}
use Rattle.hm_infer_results.proofs.dependences.members_refer_to_typed.Goals as goal

pub bounds-decls-member : goal.bounds-decls-member
bounds-decls-member c = c.requires.members _ (is_member c.args.members.now c.members.j _ c.members-test.true)

pub returns-then-not-branch-clause-told : goal.returns-then-not-branch-clause-told
returns-then-not-branch-clause-told c = members_refuse c.args.list.now.found.now.numbers c.args.typed.now c.args.list.now.decls.now c.args.members.now c.members.j _ c.index-decls-member.result _ c.members-test.true (same_member c.args.members.now c.members.j _ c.members-test.true) (c.requires.members _ (is_member c.args.members.now c.members.j _ c.members-test.true)) c.index-decls-member.is c.in_ok-refers_to_typed.ensures.told c.if-not-branch.true

pub members-preserved : goal.members-preserved
members-preserved c = record {
  shown = c.in_ok-refers_to_typed.ensures.shown ∙ c.members.invariant.shown;
  told = members_step c.args.list.now.found.now.numbers c.args.typed.now c.args.list.now.decls.now c.args.members.now c.members.j _ c.index-decls-member.result _ c.members-test.true (same_member c.args.members.now c.members.j _ c.members-test.true) (c.requires.members _ (is_member c.args.members.now c.members.j _ c.members-test.true)) c.index-decls-member.is c.in_ok-refers_to_typed.ensures.told c.if-not-branch.false c.members.invariant.told;
}

pub returns-clause-told : goal.returns-clause-told
returns-clause-told c = members_all c.args.list.now.found.now.numbers c.args.typed.now c.args.list.now.decls.now c.args.members.now c.members.j c.members-test.false c.members.invariant.told

pub offset_bounds-decls-member : goal.offset_bounds-decls-member
offset_bounds-decls-member c = let h = c.requires.members (get_or c.args.members.now c.members.j (record { place = 0; node = 0 })) (is_member c.args.members.now c.members.j (record { place = 0; node = 0 }) c.members-test.true) in search rules
