use Rattle.hm_infer_generalisation.proofs.MostGeneral.{most_general, most_general_solves}
use Rattle.hm_infer_expressions.proofs.grouping.close_group.Goals as goal

pub returns-clause-closed : goal.returns-clause-closed
returns-clause-closed c =
    let f = c.has_solution.ensures in
    let solves = most_general_solves c.args.solver.now f.equations f.general.unifies f.absorbed f.only in
    let m = most_general c.args.solver.now f.equations f.general.unifies f.absorbed f.only in
    (m, (solves, λ k all n A q. c.in_ok-bind_schemes.ensures.bound k all n A m.map solves q))
