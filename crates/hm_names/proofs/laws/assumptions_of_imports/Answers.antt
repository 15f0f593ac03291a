use Rattle.hm_names.proofs.Elaboration.{assumes_closed, assumes_first}
use Rattle.hm_names.proofs.laws.assumptions_of_imports.Goals as goal

pub returns : goal.returns
returns c = record { closed = assumes_closed; first = assumes_first }
