use Rattle.std.proofs.lemmas.Result.{IfOk-weaker}
use Rattle.hm_scope.proofs.finished_synonyms.finished.Goals as goal

pub returns : goal.returns
returns c = IfOk-weaker c.finished_over.result _ _ (λ synonym h sound. h c.args.params.now (c.in_ok-variables.ensures sound.distinct) sound) c.finished_over.ensures
