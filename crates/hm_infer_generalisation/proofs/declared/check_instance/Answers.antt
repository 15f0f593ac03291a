use Rattle.hm_infer_generalisation.proofs.DeclaredTypes.{declared_more, instantiated}
use Rattle.hm_infer_generalisation.proofs.declared.check_instance.Goals as goal

pub check_scheme-requires-clause-scheme : goal.check_scheme-requires-clause-scheme
check_scheme-requires-clause-scheme c = declared_more c.args.solver.now _ _ c.requires.declared

pub returns : goal.returns
returns c = instantiated c.args.solver.now c.check_scheme.new.solver _ _ _ c.check_scheme.result c.requires.declared c.check_scheme.ensures
