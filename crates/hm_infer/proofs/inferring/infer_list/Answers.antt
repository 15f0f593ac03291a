use Rattle.hm_infer_context.specs.Constructors.{known_of}
use Rattle.hm_infer_expressions.specs.Stages.{list_of}
use Rattle.hm_infer_generalisation.proofs.MostGeneral.{most_general}
use Rattle.hm_infer_expressions.proofs.PrincipalLists.{inferred_list, list_refused}
use Rattle.hm_infer.proofs.inferring.infer_list.Goals as goal

pub returns-in_err-check_bindings-clause-inferred : goal.returns-in_err-check_bindings-clause-inferred
returns-in_err-check_bindings-clause-inferred c = list_refused (list_of (known_of c.args.constructors.now) c.args.list.now) c.args.inference.now.environment c.check_bindings.new.inference.environment c.renewed.result c.in_err-check_bindings.field-0.0 c.from_residual.result c.requires.closed c.renewed.ensures c.in_err-check_bindings.ensures.listed c.from_residual.ensures.1

pub returns-clause-inferred : goal.returns-clause-inferred
returns-clause-inferred c =
    let s = c.check_bindings.new.inference.solver in
    let e = c.has_solution.ensures in
    inferred_list (list_of (known_of c.args.constructors.now) c.args.list.now) c.args.inference.now.environment c.check_bindings.new.inference.environment c.renewed.result s c.requires.closed c.in_ok-check_bindings.ensures.listed (most_general s e.equations e.general.unifies e.absorbed e.only)

pub returns-clause-closed : goal.returns-clause-closed
returns-clause-closed c = c.in_ok-check_bindings.ensures.closed c.requires.closed
