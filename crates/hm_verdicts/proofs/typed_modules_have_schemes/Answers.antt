use Rattle.hm_verdicts.specs.Laws.{TypedHavePrincipal}
use Rattle.hm_verdicts.proofs.GivenSchemes.{typed_have_principal}
use Rattle.hm_verdicts.proofs.typed_modules_have_schemes.Goals as goal

typed : TypedHavePrincipal
typed m fs c B is l = typed_have_principal m fs c is B l

pub returns : goal.returns
returns c = typed
