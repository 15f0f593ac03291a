use Rattle.hm_typing.specs.Laws.{ExpressionsGeneraliseAlike, UnitsGeneraliseAlike}
use Rattle.hm_typing.proofs.Generalising.{expression_alike, unit_alike}
use Rattle.hm_typing.proofs.inference.generalisation_may_keep_outer_variables.Goals as goal

expressions : ExpressionsGeneraliseAlike
expressions e A n E n1 E1 kept low facts s m enough = expression_alike e A n E n1 E1 kept low facts s m enough

units : UnitsGeneraliseAlike
units g xs A B ds place n k E n1 E1 kept low few facts s m inner enough y l = unit_alike g xs A B ds place n k E n1 E1 kept low few facts s m inner enough y l

pub returns : goal.returns
returns c = record { expressions = expressions; units = units }
