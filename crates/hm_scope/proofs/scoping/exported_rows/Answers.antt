use Rattle.hm_scope.proofs.ModuleAnswers.{rows_of}
use Rattle.hm_scope.proofs.scoping.exported_rows.Goals as goal

pub returns : goal.returns
returns c = rows_of c.args.given.now _ c.in_ok-types.ensures.exact c.in_ok-types.ensures.ordered c.in_ok-constructors.ensures.exact c.in_ok-constructors.ensures.ordered c.in_ok-values.ensures.exact c.in_ok-values.ensures.ordered
