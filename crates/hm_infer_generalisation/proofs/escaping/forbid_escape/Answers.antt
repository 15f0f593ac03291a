use Rattle.hm_infer_generalisation.proofs.MostGeneral.{most_general, most_general_solves}
use Rattle.hm_infer_generalisation.proofs.escaping.forbid_escape.Goals as goal

pub returns-then-has_escaped : goal.returns-then-has_escaped
returns-then-has_escaped c =
    let f = c.has_solution.ensures in
    (most_general c.args.solver.now f.equations f.general.unifies f.absorbed f.only, (most_general_solves c.args.solver.now f.equations f.general.unifies f.absorbed f.only, c.has_escaped.ensures.escaped c.if-has_escaped.true))

pub returns : goal.returns
returns c =
    let f = c.has_solution.ensures in
    (most_general c.args.solver.now f.equations f.general.unifies f.absorbed f.only, (most_general_solves c.args.solver.now f.equations f.general.unifies f.absorbed f.only, c.has_escaped.ensures.none c.if-has_escaped.false))
