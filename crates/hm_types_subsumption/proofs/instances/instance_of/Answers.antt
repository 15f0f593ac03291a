use Rattle.std.proofs.Common.{arith}
use Rattle.hm_types_subsumption.proofs.Found.{match_tells_of, in_scope}
use Rattle.hm_types_subsumption.proofs.instances.instance_of.Goals as goal

pub match_type-requires : goal.match_type-requires
match_type-requires c = λ n o. in_scope _ _ n _ c.body-pattern.ensures.valid c.body-pattern.ensures.value (omega arith) o

pub returns : goal.returns
returns c = match_tells_of _ _ _ _ _ c.args.general.now c.args.special.now c.body-pattern.ensures.value c.body.ensures.value c.loop.invariant.empty c.in_ok-match_type.ensures.matches
