use Rattle.hm_messages_exporters.proofs.Exporting.{left_out_imports}
use Rattle.hm_messages_exporters.proofs.laws.left_out_imports.Goals as goal

pub returns : goal.returns
returns c = left_out_imports
