use Rattle.hm_typing.specs.Laws.{Survives, Substitutes, FormsAgree}
use Rattle.hm_typing.proofs.Bridge.{HasType-Derives, Derives-HasType}
use Rattle.hm_typing.proofs.Put.{Derives-put}
use Rattle.hm_typing.proofs.typing.typing_is_stable.Goals as goal

survives : Survives
survives e A A' t m d = HasType-Derives e A A' t m (Derives-HasType e A t d)

substitutes : Substitutes
substitutes e r A t d = HasType-Derives e _ _ _ (λ x u h. h) (Derives-put e r A t (Derives-HasType e A t d))

forms_agree : FormsAgree
forms_agree e A t = (Derives-HasType e A t, HasType-Derives e A A t (λ x u h. h))

pub returns : goal.returns
returns c = record { survives = survives; substitutes = substitutes; forms_agree = forms_agree }
