use Rattle.std.proofs.Common.{sym}
use Rattle.hm_types.proofs.Table.{among_none}
use Rattle.hm_types_subsumption.proofs.numbering.place_of.Goals as goal

pub returns-in-None : goal.returns-in-None
returns-in-None c = λ xs n. among_none _ xs _ _ n (sym c.in-None.ensures.value) c.len.ensures.len
