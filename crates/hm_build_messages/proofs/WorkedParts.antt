-- The worked messages about parts.
use Rattle.std.proofs.Common.{None, Some, refl}
use Rattle.hm_build_messages.specs.WorkedParts.{PartRow, part_at}
use Rattle.hm_messages.specs.Messages.{with_left_out}
use Rattle.hm_messages.proofs.WorkedMessages.{isnt_left_out_with, isnt_stated}
use Rattle.hm_messages_edits.specs.Spans.{span_in}

pub worked_parts : PartRow
worked_parts = record {
  outside = λ format file s changes. record { whole = Some (span_in (part_at 2)); whole_is = refl; other = None; other_is = refl; stated = with_left_out refl (isnt_stated format) };
  inside = λ format file s second changes m. isnt_left_out_with format file s (record { changes = changes; part = m.whole; second = m.other }) m.stated;
}
