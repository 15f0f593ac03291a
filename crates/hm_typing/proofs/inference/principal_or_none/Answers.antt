use Rattle.hm_typing.proofs.Ordering.{layout}
use Rattle.hm_typing.proofs.Unifying.{unification}
use Rattle.hm_typing.specs.Laws.{PrincipalOrNone}
use Rattle.hm_typing.proofs.Principal.{principal}
use Rattle.hm_typing.proofs.inference.principal_or_none.Goals as goal

proof : PrincipalOrNone
proof ds A shut = principal unification layout ds A shut

pub returns : goal.returns
returns c = proof
