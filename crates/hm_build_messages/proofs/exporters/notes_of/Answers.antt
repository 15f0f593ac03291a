use Rattle.hm_build_messages.specs.Exporters.{of_others}
use Rattle.hm_build_messages.proofs.exporters.notes_of.Goals as goal

pub returns : goal.returns
returns c = of_others c.in_ok-exporter_notes.ensures.0 c.in_ok-exporter_notes.ensures.1
