use Rattle.hm_uses_cores.proofs.Rows.{entity_row, inner_row, outer_row}
use Rattle.hm_uses_cores.proofs.TypeRows.{expanded_row, other_order_row}
use Rattle.hm_uses_cores.proofs.laws.worked_cores.Goals as goal

pub returns : goal.returns
returns c = record { inner = inner_row; outer = outer_row c.found_uses.ensures.all c.found_uses.ensures.known; entity = entity_row; expanded = expanded_row; other_order = other_order_row }
