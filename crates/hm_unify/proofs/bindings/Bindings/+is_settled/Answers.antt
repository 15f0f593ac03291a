use Rattle.std.proofs.Common.{◌≡◌, rules, sym, subst}
use Rattle.hm_types.proofs.Rows.{argument_smaller}
use Rattle.hm_types.specs.Substitution.{substitute}
use Rattle.hm_types.specs.declared.monotypes.Ty.{Ty}
use Rattle.hm_types.specs.Shape.{type_of}
use Rattle.hm_unify.specs.Bindings.{solution}
use Rattle.hm_unify.specs.Steps.{equations_in}
use Rattle.hm_unify.proofs.Follow.{solution_unbound}
use Rattle.hm_unify.proofs.Settled.{settled_more, settled_all}
use Rattle.hm_unify.proofs.bindings.Bindings.+is_settled.Goals as goal

pub is_settled-requires : goal.is_settled-requires
is_settled-requires t c =
    let smaller = argument_smaller _ _ _ _ c.argument-item.result c.loop-argument.invariant.whole.1 c.loop-argument-test.true c.argument-item.is in
    search rules

pub loop-argument-preserved : goal.loop-argument-preserved
loop-argument-preserved t c = record {
  whole = c.loop-argument.invariant.whole;
  done = settled_more (solution (equations_in c.args.self.now)) c.as_slice-argument-items.result.now c.loop-argument.argument-index c.argument-item.result c.loop-argument-test.true c.argument-item.is c.loop-argument.invariant.done (c.in_ok-is_settled-in-App.ensures (search rules));
}

pub returns-in-None : goal.returns-in-None
returns-in-None t c = λ _.
    let f = solution (equations_in c.args.self.now) in
    subst (λ (z : Ty). substitute f (type_of z) ≡ type_of z) (sym c.in-Var.is) (solution_unbound (equations_in c.args.self.now) c.in-Var.n c.in-None.ensures)

pub returns-after-loop-argument : goal.returns-after-loop-argument
returns-after-loop-argument t c = λ _.
    settled_all (solution (equations_in c.args.self.now)) (type_of c.args.t.now) c.loop-argument.invariant.whole.0 c.as_slice-argument-items.result.now c.loop-argument.argument-index c.loop-argument.invariant.whole.1 c.loop-argument-test.false c.loop-argument.invariant.done
