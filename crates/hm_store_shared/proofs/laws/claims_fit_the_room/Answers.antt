use Rattle.hm_store_shared.proofs.Spent.{all_claims_fit, answers_take_none, claims_take}
use Rattle.hm_store_shared.proofs.laws.claims_fit_the_room.Goals as goal

pub returns : goal.returns
returns c = record { taken = claims_take; fits = all_claims_fit; none = answers_take_none }
