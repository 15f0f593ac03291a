use Rattle.std.proofs.Common.{take, string_bytes}
use Rattle.hm_service_messages.specs.Lines.{AreLines}
use Rattle.hm_service_messages.proofs.writing.lines_of.Given as goal

abbrev pub invariant-loop-diagnostic : goal.invariant-loop-diagnostic
invariant-loop-diagnostic l = AreLines (take l.diagnostic-index l.diagnostics) (string_bytes l.text)
