use Rattle.std.proofs.Common.{reverse, arith}
use Rattle.hm_types.specs.Shape.{types_of}
use Rattle.hm_types_prelude.proofs.Stacks.{taken_more, left_more, all_taken, none_left}
use Rattle.hm_types_prelude.proofs.polish.pop_many.Goals as goal

pub loop-preserved : goal.loop-preserved
loop-preserved c =
    let all = reverse (types_of c.args.stack.now.items) in
    record {
      taken = taken_more all c.loop.counter _ _ _ _ _ c.loop.invariant.taken c.loop.invariant.left c.in-Some.ensures.items c.in_ok-push.ensures.items;
      left = left_more all c.loop.counter _ _ _ c.loop.invariant.left c.in-Some.ensures.items;
    }

pub returns-in_default-clause-taken : goal.returns-in_default-clause-taken
returns-in_default-clause-taken c =
    let none = rw c.in_default.is at c.pop.ensures.cases in
    all_taken _ c.loop.counter c.args.count c.loop.stack.items _ c.loop.invariant.taken c.loop.invariant.left (omega (arith, none.0, c.loop.stack.ok.0)) c.loop.auto.counter-end

pub returns-in_default-clause-left : goal.returns-in_default-clause-left
returns-in_default-clause-left c =
    let none = rw c.in_default.is at c.pop.ensures.cases in
    none_left _ c.loop.counter c.args.count c.loop.stack.items c.pop.new.self.items c.loop.invariant.left (omega (arith, none.0, c.loop.stack.ok.0)) (omega (arith, none.1, c.pop.new.self.ok.0)) c.loop.auto.counter-end
