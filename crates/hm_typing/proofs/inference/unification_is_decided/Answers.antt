use Rattle.hm_typing.specs.Laws.{UnificationIsDecided}
use Rattle.hm_typing.proofs.Unifying.{unification}
use Rattle.hm_typing.proofs.inference.unification_is_decided.Goals as goal

proof : UnificationIsDecided
proof E = unification E

pub returns : goal.returns
returns c = proof
