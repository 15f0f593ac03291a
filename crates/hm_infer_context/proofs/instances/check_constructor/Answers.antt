use Rattle.std.proofs.Common.{subst, ◌∙◌}
use Rattle.hm_types.specs.Shape.{type_of}
use Rattle.hm_types.specs.Types.{put}
use Rattle.hm_typing.specs.Patterns.{Instantiates}
use Rattle.hm_typing.specs.Programs.{monotype_of}
use Rattle.hm_infer_context.specs.Problems.{Answers, monotype}
use Rattle.hm_infer_context.proofs.instances.check_constructor.Goals as goal

pub returns : goal.returns
returns c = subst (λ k. Answers (λ r. Instantiates (monotype_of k.body) (put r (monotype (type_of c.args.t.now)))) c.args.solver.now c.check_declared.new.solver c.check_declared.result) (c.as_scheme.ensures ∙ c.in_ok-scheme.ensures) c.check_declared.ensures
