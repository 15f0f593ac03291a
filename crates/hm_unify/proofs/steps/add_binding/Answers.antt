use Rattle.hm_unify.proofs.Outer.{levelled_added}
use Rattle.hm_unify.proofs.steps.add_binding.Goals as goal

pub returns-clause-levelled : goal.returns-clause-levelled
returns-clause-levelled c =
    levelled_added _ _ c.args.binding c.of_variable-level.result _ _ c.in_ok-add.ensures.added c.requires.free c.requires.levelled c.of_variable-level.ensures c.in_ok-lower.ensures.lowered
