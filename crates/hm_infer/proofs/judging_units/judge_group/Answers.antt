use Rattle.std.proofs.Common.{sym, ap, refl, subst}
use Rattle.hm_infer_context.specs.Constructors.{known_of}
use Rattle.hm_infer_expressions.specs.Dependences.{TellsMembers, skipped, untyped, typed}
use Rattle.hm_graph_components.specs.Digraph.{lists}
use Rattle.hm_infer_expressions.proofs.JudgedGroups.{judges_clash}
use Rattle.hm_infer_expressions.proofs.Referring.{members_at, member_places}
use Rattle.hm_infer_context.proofs.Extended.{kept_same}
use Rattle.hm_infer_context.specs.Environments.{AreAssumed}
use Rattle.hm_infer.proofs.Cleared.{empty_elsewhere}
use Rattle.hm_infer.proofs.judging_units.judge_group.Goals as goal

pub members_refer_to_typed-requires-clause-members : goal.members_refer_to_typed-requires-clause-members
members_refer_to_typed-requires-clause-members c =
    member_places (known_of c.args.group.now.list.constructors.now) c.args.group.now.list.decls.now c.args.group.now.list.found.now.numbers (lists c.args.group.now.list.found.now.rows.items) c.args.group.now.nodes.now c.deref-2.result.now c.requires.list
    (members_at c.deref.result.now c.args.group.now.list.found.now.rows.items c.args.group.now.nodes.now c.in_ok-members.members.items c.deref-2.result.now c.deref.ensures.value c.deref-2.ensures.value c.in_ok-members.ensures)

pub returns-then-not-branch-clause-judged : goal.returns-then-not-branch-clause-judged
returns-then-not-branch-clause-judged c = λ added base e. record {
  marked = c.mark.new.typed;
  is_marked = c.mark.ensures;
  members = c.deref-2.result.now;
  are_members = members_at c.deref.result.now c.args.group.now.list.found.now.rows.items c.args.group.now.nodes.now c.in_ok-members.members.items c.deref-2.result.now c.deref.ensures.value c.deref-2.ensures.value c.in_ok-members.ensures;
  outcome = skipped (subst (λ b. TellsMembers b c.args.group.now.list.found.now.numbers c.mark.new.typed c.args.group.now.list.decls.now c.deref-2.result.now) c.if-not-branch.true c.in_ok-members_refer_to_typed.ensures.told) c.unmark.ensures refl;
}

pub returns-in-Ok-clause-judged : goal.returns-in-Ok-clause-judged
returns-in-Ok-clause-judged c = λ added base e. record {
  marked = c.mark.new.typed;
  is_marked = c.mark.ensures;
  members = c.deref-2.result.now;
  are_members = members_at c.deref.result.now c.args.group.now.list.found.now.rows.items c.args.group.now.nodes.now c.in_ok-members.members.items c.deref-2.result.now c.deref.ensures.value c.deref-2.ensures.value c.in_ok-members.ensures;
  outcome = typed c.renewed.result (subst (λ b. TellsMembers b c.args.group.now.list.found.now.numbers c.mark.new.typed c.args.group.now.list.decls.now c.deref-2.result.now) c.if-not-branch.false c.in_ok-members_refer_to_typed.ensures.told) (ap (λ s. s.equations) c.renewed.ensures)
      (c.in-Ok.ensures.judged added base e) refl;
}

pub returns-in-Err-Clash-clause-judged : goal.returns-in-Err-Clash-clause-judged
returns-in-Err-Clash-clause-judged c = λ added base e. record {
  marked = c.mark.new.typed;
  is_marked = c.mark.ensures;
  members = c.deref-2.result.now;
  are_members = members_at c.deref.result.now c.args.group.now.list.found.now.rows.items c.args.group.now.nodes.now c.in_ok-members.members.items c.deref-2.result.now c.deref.ensures.value c.deref-2.ensures.value c.in_ok-members.ensures;
  outcome = untyped c.renewed.result c.infer_group.new.inference.environment (subst (λ b. TellsMembers b c.args.group.now.list.found.now.numbers c.mark.new.typed c.args.group.now.list.decls.now c.deref-2.result.now) c.if-not-branch.false c.in_ok-members_refer_to_typed.ensures.told) (ap (λ s. s.equations) c.renewed.ensures)
      (judges_clash (Unit {0}) (known_of c.args.group.now.list.constructors.now) c.args.group.now.list.decls.now c.args.group.now.nodes.now base c.renewed.result c.args.inference.now.environment c.infer_group.new.inference.environment c.in-Err-Clash.field-0 c.in-Err-Clash.field-0-is (c.in-Err-Clash.ensures.judged added base e)) c.unmark-in-Err-Clash.ensures
      (let k = c.in-Err-Clash.ensures.kept in c.truncate.ensures k.0 c.args.inference.now.environment k.1 (sym c.len-outside.ensures));
}

pub clear-requires-clause-others : goal.clear-requires-clause-others
clear-requires-clause-others c = empty_elsewhere c.args.group.now.nodes.now c.args.types.now c.infer_group.new.types c.infer_group.auto.types c.requires.numbers c.in-Ok.ensures.changed

pub clear-requires-in-Err-Clash-clause-others : goal.clear-requires-in-Err-Clash-clause-others
clear-requires-in-Err-Clash-clause-others c = empty_elsewhere c.args.group.now.nodes.now c.args.types.now c.infer_group.new.types c.infer_group.auto.types c.requires.numbers c.in-Err-Clash.ensures.changed

pub returns-in-Err-Clash-clause-closed : goal.returns-in-Err-Clash-clause-closed
returns-in-Err-Clash-clause-closed c = let k = c.in-Err-Clash.ensures.kept in subst (AreAssumed 0) (sym (c.truncate.ensures k.0 c.args.inference.now.environment k.1 (sym c.len-outside.ensures))) c.requires.closed

pub returns-in-Err-Clash-clause-kept : goal.returns-in-Err-Clash-clause-kept
returns-in-Err-Clash-clause-kept c = let k = c.in-Err-Clash.ensures.kept in kept_same c.args.inference.now.environment c.truncate.new.self (c.truncate.ensures k.0 c.args.inference.now.environment k.1 (sym c.len-outside.ensures))

pub returns-in-Ok-clause-closed : goal.returns-in-Ok-clause-closed
returns-in-Ok-clause-closed c = c.in-Ok.ensures.closed_first (ap (λ s. s.given) c.renewed.ensures) c.requires.closed
