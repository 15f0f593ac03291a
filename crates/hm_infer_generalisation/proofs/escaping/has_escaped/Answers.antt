use Rattle.std.proofs.Common.{◌≡◌, ◌+◌, sym, ◌∙◌, subst, true≢false, inl, inr, arith}
use Rattle.hm_types.specs.Monotypes.{rigid}
use Rattle.hm_unify.proofs.Outer.{outer_is_tested}
use Rattle.hm_infer_generalisation.specs.Escapes.{Escapes}
use Rattle.hm_infer_context.proofs.States.{less_or}
use Rattle.hm_infer_generalisation.proofs.escaping.has_escaped.Goals as goal

pub returns-then-is_outer_rigid-clause-escaped : goal.returns-then-is_outer_rigid-clause-escaped
returns-then-is_outer_rigid-clause-escaped c = λ _.
    (c.loop-i.i, (c.loop-i-test.true, (outer_is_tested c.args.solver.now.equations c.args.first (rigid (c.args.first + c.loop-i.i))).0 (sym c.is_outer_rigid.ensures ∙ c.if-is_outer_rigid.true)))

pub loop-i-preserved : goal.loop-i-preserved
loop-i-preserved c = λ j h o.
    elim (less_or j c.loop-i.i) [
      | inl l ↦ c.loop-i.invariant j l o
      | inr g ↦
          let same : j ≡ c.loop-i.i = omega arith in
          let outer = (outer_is_tested c.args.solver.now.equations c.args.first (rigid (c.args.first + c.loop-i.i))).1 (subst (Escapes c.args.first c.args.solver.now) same o) in
          absurd (true≢false (sym outer ∙ (sym c.is_outer_rigid.ensures ∙ c.if-is_outer_rigid.false)))
    ]
