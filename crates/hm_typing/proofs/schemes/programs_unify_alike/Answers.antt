use Rattle.hm_typing.specs.Laws.{ProgramsUnifyAlike}
use Rattle.hm_typing.proofs.Groups.{cond_false}
use Rattle.hm_typing.proofs.Programs.{here, here_leaves, here_unifies, there_makes}
use Rattle.hm_typing.proofs.schemes.programs_unify_alike.Goals as goal

proof : ProgramsUnifyAlike
proof is_rigid es k = (
  (λ f m. (here is_rigid f, here_leaves is_rigid f, here_unifies is_rigid f es k m, (λ n e. cond_false (is_rigid n) _ _ e))),
  (λ r l u. there_makes is_rigid r l es k u),
)

pub returns : goal.returns
returns c = proof
