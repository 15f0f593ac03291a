use Rattle.std.proofs.Common.{◌≡◌, ◌+◌, ◌<◌, false, length, subst, sym, ap, arith, rules}
use Rattle.hm_types.specs.Monotypes.{size}
use Rattle.hm_types.specs.Shape.{type_of}
use Rattle.hm_typing.specs.Programs.{monotype_of}
use Rattle.hm_infer_context.specs.ConstructorParts.{AreGivenTypes}
use Rattle.hm_unify.specs.WellFormed.{IsWellFormed}
use Rattle.hm_infer_context.proofs.ConstructorParts.{all_given_pushed, one_longer}
use Rattle.hm_infer_context.proofs.InstanceFronts.{front_begin, rest_begin, front_step, parts_step}
use Rattle.hm_infer_context.proofs.States.{problem_below}
use Rattle.hm_infer_context.proofs.fronts.instance_front.Goals as goal

pub arguments-smaller : goal.arguments-smaller
arguments-smaller c = let is = ap size c.in-Some.ensures.parts in omega (arith, is)

pub arguments-init : goal.arguments-init
arguments-init c = record {
  within = (let e = ap length c.in_ok-arguments.ensures.items in omega (arith, e));
  given = subst (AreGivenTypes c.new_variables.new.solver.given) (sym c.in_ok-arguments.ensures.items) tt;
  rest = rest_begin c.args.solver.now c.new_variables.new.solver c.args.scheme.now c.vars-quantified.result c.in_ok-base.base (type_of c.body-rest.result.now) c.body-rest.ensures.valid c.vars-quantified.ensures c.body-rest.ensures.value c.in_ok-base.ensures.next c.in_ok-base.ensures.first;
  found = front_begin c.args.solver.now c.new_variables.new.solver c.args.scheme.now c.vars-quantified.result c.in_ok-base.base (type_of c.body-rest.result.now) c.body-rest.ensures.valid c.vars-quantified.ensures c.body-rest.ensures.value c.in_ok-base.ensures.next c.in_ok-base.ensures.first c.in_ok-arguments.arguments.items c.in_ok-arguments.ensures.items c.in_ok-base.ensures.below c.well_formed-2.ensures;
}

pub arguments-preserved : goal.arguments-preserved
arguments-preserved c =
    let below = problem_below c.new_variables.new.solver c.well_formed-2.ensures in
    let parts = parts_step c.vars-quantified.result c.in_ok-base.base c.arguments.rest.now c.in-Some.parts.argument.now c.in-Some.parts.outcome.now c.in-Some.ensures.parts c.new_variables.new.solver.given c.arguments.invariant.rest in
    record {
      within = (let l = one_longer c.arguments.arguments.items c.push.new.self.items c.in_ok-instantiate.field-0 (length c.arguments.arguments.items) c.in_ok-push.ensures.items Rattle.std.proofs.Common.refl in let w = c.in-Some.ensures.wanted in search rules);
      given = all_given_pushed c.new_variables.new.solver.given c.arguments.arguments.items c.push.new.self.items c.in_ok-instantiate.field-0 c.in_ok-push.ensures.items c.arguments.invariant.given (subst (IsWellFormed c.new_variables.new.solver.given) (sym c.in_ok-instantiate.ensures) parts.0);
      rest = parts.1;
      found = front_step c.vars-quantified.result c.in_ok-base.base c.arguments.rest.now c.in-Some.parts.argument.now c.in-Some.parts.outcome.now c.in-Some.ensures.parts (monotype_of c.args.scheme.now.body) c.args.solver.now c.new_variables.new.solver c.arguments.arguments.items c.push.new.self.items c.in_ok-instantiate.field-0 below c.in_ok-instantiate.ensures c.in_ok-push.ensures.items c.arguments.invariant.given c.arguments.invariant.found;
    }
