use Rattle.std.proofs.Common.{take}
use Rattle.hm_service_sources.specs.Steps.{AddsRow}
use Rattle.hm_service_sources.proofs.left_out.add_row.Given as goal

abbrev pub invariant-row : goal.invariant-row
invariant-row l = AddsRow l.located (take l.target-index l.row) l.number l.initial.graph l.graph
