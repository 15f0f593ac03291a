use Rattle.hm_build_objects.proofs.Worked as rows
use Rattle.hm_build_objects.proofs.laws.worked_objects.Goals as goal

pub returns : goal.returns
returns c = record { type_texts = rows.type_texts; runs = rows.once; line = rows.line }
