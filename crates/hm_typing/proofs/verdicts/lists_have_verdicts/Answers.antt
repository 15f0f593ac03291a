use Rattle.hm_typing.proofs.Ordering.{layout}
use Rattle.hm_typing.proofs.Unifying.{unification}
use Rattle.hm_typing.specs.Laws.{FaultsAreFound, TypedWithoutFaults, HasVerdict, HasOneVerdict}
use Rattle.hm_typing.proofs.ListVerdicts.{faults_found, typed_where_none, none_listed, verdict, one_verdict}
use Rattle.hm_typing.proofs.verdicts.lists_have_verdicts.Goals as goal

found : FaultsAreFound
found ds A d shut = faults_found unification layout ds A d shut

without : TypedWithoutFaults
without ds A d shut = (typed_where_none unification layout ds A d shut, λ p. none_listed unification layout ds A d shut p.0 p.1)

has : HasVerdict
has ds A d shut = verdict unification layout ds A d shut

one : HasOneVerdict
one ds A d shut B xs p f = one_verdict unification layout ds A d shut B xs p f

pub returns : goal.returns
returns c = record { faults_are_found = found; typed_without_faults = without; has_verdict = has; has_one_verdict = one }
