use Rattle.hm_infer_context.proofs.Opened.{declared_answers, declared_given}
use Rattle.hm_infer_context.proofs.instances.check_declared.Goals as goal

pub check_scheme-requires-clause-scheme : goal.check_scheme-requires-clause-scheme
check_scheme-requires-clause-scheme c = declared_given c.args.solver.now c.args.scheme.now _ _ c.body.ensures.valid c.vars.ensures c.body.ensures.value

pub returns : goal.returns
returns c = declared_answers c.args.solver.now c.check_scheme.new.solver c.args.scheme.now _ _ _ c.check_scheme.result c.body.ensures.valid c.vars.ensures c.body.ensures.value c.check_scheme.ensures
