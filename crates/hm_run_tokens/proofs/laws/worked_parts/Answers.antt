use Rattle.hm_run_tokens.proofs.WorkedParts.{parts_row}
use Rattle.hm_run_tokens.proofs.laws.worked_parts.Goals as goal

pub returns : goal.returns
returns c = parts_row
