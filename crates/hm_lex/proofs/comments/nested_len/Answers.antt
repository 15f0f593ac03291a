use Rattle.std.proofs.Common.{sym, arith}
use Rattle.hm_lex.proofs.NestedComments.{step_opens, step_closes, step_last, step_plain, step_end}
use Rattle.hm_lex.proofs.comments.nested_len.Goals as goal

pub loop-at-preserved-in-Opens : goal.loop-at-preserved-in-Opens
loop-at-preserved-in-Opens c =
    let i = c.loop-at.invariant in
    record {
      one_open = omega arith;
      bounded = omega (arith, i.bounded);
      within = omega (arith, c.loop-at-test.true);
      closes = step_opens c.args.bytes.now c.loop-at.at c.loop-at.depth _ c.loop-at-test.true i.one_open (sym c.in-Opens.ensures) i.closes;
    }

pub returns-in-Closes-clause-value : goal.returns-in-Closes-clause-value
returns-in-Closes-clause-value c =
    let i = c.loop-at.invariant in
    step_last c.args.bytes.now c.loop-at.at c.loop-at.depth _ c.loop-at-test.true c.if-depth-eq1.true (sym c.in-Closes.ensures) i.closes

pub loop-at-preserved-in-Closes-2 : goal.loop-at-preserved-in-Closes-2
loop-at-preserved-in-Closes-2 c =
    let i = c.loop-at.invariant in
    record {
      one_open = omega (arith, i.one_open, c.if-depth-eq1.false);
      bounded = omega (arith, i.bounded);
      within = omega (arith, c.loop-at-test.true);
      closes = step_closes c.args.bytes.now c.loop-at.at c.loop-at.depth _ c.loop-at-test.true i.one_open (sym c.in-Closes-2.ensures) i.closes;
    }

pub loop-at-preserved : goal.loop-at-preserved
loop-at-preserved c =
    let i = c.loop-at.invariant in
    record {
      one_open = i.one_open;
      bounded = omega (arith, i.bounded);
      within = omega (arith, c.loop-at-test.true);
      closes = step_plain c.args.bytes.now c.loop-at.at c.loop-at.depth _ c.loop-at-test.true i.one_open (sym c.in-Plain.ensures) i.closes;
    }

pub returns-clause-value : goal.returns-clause-value
returns-clause-value c =
    let i = c.loop-at.invariant in
    step_end c.args.bytes.now c.loop-at.at c.loop-at.depth _ c.loop-at-test.false i.one_open i.closes
