use Rattle.std.specs.Prelude.{◌≡◌, true}
use Rattle.hm_typing.specs.Laws.{Composes, Extends}
use Rattle.hm_typing.proofs.Closure.{composed}
use Rattle.hm_typing.proofs.ModuleSets.{extended, extended_principal, extended_in, extended_out}
use Rattle.hm_typing.proofs.modules.principal_assignments_compose.Goals as goal

composes : Composes
composes set M prelude table rank S c g p = composed set (λ i. M i ≡ true) prelude table rank S c g p

extends : Extends
extends set prelude table i S B law p q = (
  extended set prelude law (λ k. Unit {0}) table i S p B q.typed,
  extended_principal set prelude law (λ k. Unit {0}) table i S p B q,
  (λ x o. extended_in set prelude law (λ k. Unit {0}) table i S p B q.typed x o),
  (λ x n. extended_out set prelude law (λ k. Unit {0}) table i S p B q.typed x n),
)

pub returns : goal.returns
returns c = record { composes = composes; extends = extends }
