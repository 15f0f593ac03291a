use Rattle.std.proofs.Common.{ap, subst, arith}
use Rattle.hm_graph_components.specs.Digraph.{lists}
use Rattle.hm_infer_dependencies.specs.GroupMembers.{AreMembersOf}
use Rattle.hm_infer_expressions.specs.GroupQuestions.{AreGivenTypes}
use Rattle.hm_infer_expressions.specs.BoundNames.{ArePlaced}
use Rattle.hm_infer_context.proofs.FoundNames.{assumed_later}
use Rattle.hm_infer_expressions.proofs.Placing.{strictly_below}
use Rattle.hm_infer_expressions.proofs.grouping.open_group.Goals as goal

pub returns-clause-opened : goal.returns-clause-opened
returns-clause-opened c =
    let first = c.in_ok-first.ensures.first in
    let next = c.in_ok-first.ensures.next in
    let more = ap (λ s. s.given) next in
    let some = c.requires.some in
    let numbers : AreGivenTypes c.new_variables.new.solver.given c.place_types.new.types =
    c.place_types.ensures.given c.new_variables.new.solver.given (omega (arith, first, more)) (strictly_below c.args.inference.now.solver.given c.new_variables.new.solver.given c.args.types.now (omega (arith, more, some)) c.requires.numbers) in
    record {
      given = next;
      placed = subst (λ f. ArePlaced f c.args.group.now c.place_types.new.types) first c.place_types.ensures.placed;
      names = c.in_ok-bind_types.ensures.bound;
      members = subst (λ rs. AreMembersOf (lists rs) c.args.group.now c.in_ok-group_members.field-0.items) c.deref.ensures.value c.in_ok-group_members.ensures;
      added = c.bind_types.ensures.kept;
      numbers = numbers;
      assumed = c.in_ok-bind_types.ensures.given c.new_variables.new.solver.given numbers (assumed_later c.args.inference.now.solver.given c.new_variables.new.solver.given c.args.inference.now.environment (omega (arith, more)) c.requires.assumed);
    }
