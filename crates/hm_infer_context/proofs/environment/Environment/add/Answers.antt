use Rattle.std.proofs.Common.{[], ◌∙◌}
use Rattle.hm_infer_context.specs.Kept.{assumed_of}
use Rattle.hm_infer_context.proofs.Tables.{stack_pushed}
use Rattle.hm_infer_context.proofs.environment.Environment.add.Goals as goal

pub returns-clause-bound : goal.returns-clause-bound
returns-clause-bound c = stack_pushed assumed_of c.self.inside.items.items c.push.new.self.items _ [] c.args.self.now c.in_ok-push.ensures.items (c.self.view_is ∙ c.in_ok-place_if_many.ensures)
