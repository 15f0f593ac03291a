use Rattle.hm_uses_faults.proofs.Rows as rows
use Rattle.hm_uses_faults.proofs.laws.worked_headers.Goals as goal

pub returns : goal.returns
returns c = record { missing = rows.missing_row; exported = rows.exported_row; hidden = rows.hidden_row; of_type = rows.type_row; constructor = rows.constructor_row }
