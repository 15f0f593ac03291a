use Rattle.std.specs.Prelude.{◌≡◌, true}
use Rattle.hm_typing.specs.Laws.{ImportsHavePrincipal, GoodHasPrincipal}
use Rattle.hm_typing.proofs.Settling.{principal_of_imports, principal_of_good}
use Rattle.hm_typing.proofs.modules.good_modules_have_principal_assignments.Goals as goal

imports : ImportsHavePrincipal
imports set prelude well table i law g = principal_of_imports set prelude law (λ k. well k ≡ true) table i g

closure : GoodHasPrincipal
closure set prelude well table i law g = principal_of_good set prelude law (λ k. well k ≡ true) table i g

pub returns : goal.returns
returns c = record { imports = imports; closure = closure }
