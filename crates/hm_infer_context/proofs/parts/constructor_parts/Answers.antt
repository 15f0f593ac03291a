use Rattle.std.proofs.Common.{◌≡◌, ◌+◌, suc, subst, arith}
use Rattle.hm_types.specs.Shape.{type_of}
use Rattle.hm_typing.specs.Programs.{monotype_of}
use Rattle.hm_unify.proofs.WellFormed.{well_formed_more}
use Rattle.hm_infer_context.specs.ConstructorParts.{IsConstructed, IsFrontFound}
use Rattle.hm_infer_context.proofs.ConstructorParts.{all_given_later, all_given_pushed, closed_refused, front_closed, front_pushed, front_refused, one_longer}
use Rattle.hm_infer_context.proofs.Inferred.{refusal_passed}
use Rattle.hm_infer_context.proofs.parts.constructor_parts.Goals as goal

pub returns-in_err-argument-clause-refused : goal.returns-in_err-argument-clause-refused
returns-in_err-argument-clause-refused c =
    refusal_passed (IsConstructed (monotype_of c.args.scheme.now.body) c.args.count (type_of c.args.t.now)) c.args.solver.now c.from_residual-in_err-argument.result c.in_err-argument.field-0.0 c.from_residual-in_err-argument.ensures.1
    (front_refused (monotype_of c.args.scheme.now.body) c.arguments.counter c.args.count c.args.solver.now c.arguments.solver c.arguments.arguments.items (type_of c.arguments.rest) (type_of c.args.t.now) c.in_err-argument.field-0.0 c.arguments-test.true c.arguments.invariant.found c.in_err-argument.ensures.refused)

pub arguments-preserved : goal.arguments-preserved
arguments-preserved c =
    let g = c.in_ok-argument.ensures.parts.grows in
    record {
      len = one_longer c.arguments.arguments.items c.push.new.self.items c.in_ok-argument.field-0.argument c.arguments.counter c.in_ok-push.ensures.items c.arguments.invariant.len;
      within = omega arith;
      grows = (let h = c.arguments.invariant.grows in omega (arith, g, h));
      rest = c.in_ok-argument.ensures.given.1;
      given = all_given_pushed c.split_function.new.solver.given c.arguments.arguments.items c.push.new.self.items c.in_ok-argument.field-0.argument c.in_ok-push.ensures.items (all_given_later c.arguments.solver.given c.split_function.new.solver.given c.arguments.arguments.items g c.arguments.invariant.given) c.in_ok-argument.ensures.given.0;
      found = front_pushed (monotype_of c.args.scheme.now.body) c.arguments.counter (c.arguments.counter + 1) c.args.solver.now c.arguments.solver c.split_function.new.solver c.arguments.arguments.items c.push.new.self.items (type_of c.arguments.rest) c.in_ok-argument.field-0.argument (type_of c.in_ok-argument.field-0.outcome) c.in_ok-push.ensures.items (let z : c.arguments.counter + 1 ≡ suc c.arguments.counter = omega arith in z) c.arguments.invariant.given c.arguments.invariant.found c.in_ok-argument.ensures.parts;
    }

pub equate-requires-clause-left : goal.equate-requires-clause-left
equate-requires-clause-left c = well_formed_more c.args.solver.now.given c.arguments.solver.given (type_of c.args.t.now) c.arguments.invariant.grows c.requires

pub returns-in_err-equate-clause-refused : goal.returns-in_err-equate-clause-refused
returns-in_err-equate-clause-refused c =
    let n : c.arguments.counter ≡ c.args.count = (let w = c.arguments.invariant.within in omega (arith, w, c.arguments-test.false)) in
    refusal_passed (IsConstructed (monotype_of c.args.scheme.now.body) c.args.count (type_of c.args.t.now)) c.args.solver.now c.from_residual-in_err-equate.result c.in_err-equate.field-0.0 c.from_residual-in_err-equate.ensures.1
    (closed_refused (monotype_of c.args.scheme.now.body) c.args.count c.args.solver.now c.arguments.solver c.arguments.arguments.items (type_of c.arguments.rest) (type_of c.args.t.now) c.in_err-equate.field-0.0 c.requires
    (subst (λ k. IsFrontFound (monotype_of c.args.scheme.now.body) k c.args.solver.now c.arguments.solver c.arguments.arguments.items (type_of c.arguments.rest)) n c.arguments.invariant.found) c.in_err-equate.ensures.answers)

pub returns-clause-found : goal.returns-clause-found
returns-clause-found c =
    let n : c.arguments.counter ≡ c.args.count = (let w = c.arguments.invariant.within in omega (arith, w, c.arguments-test.false)) in
    front_closed (monotype_of c.args.scheme.now.body) c.args.count c.args.solver.now c.arguments.solver c.equate.new.solver c.arguments.arguments.items (type_of c.arguments.rest) (type_of c.args.t.now) c.requires c.arguments.invariant.given
    (subst (λ k. IsFrontFound (monotype_of c.args.scheme.now.body) k c.args.solver.now c.arguments.solver c.arguments.arguments.items (type_of c.arguments.rest)) n c.arguments.invariant.found) c.in_ok-equate.ensures.answers
