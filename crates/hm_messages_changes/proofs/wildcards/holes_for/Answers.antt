use Rattle.std.proofs.Common.{rules}
use Rattle.hm_messages_changes.specs.Wildcards.{hole_for}
use Rattle.hm_messages_changes.specs.declared.data.Span.{Span}
use Rattle.hm_messages_changes.proofs.Pieces.{pieces_more}
use Rattle.hm_messages_changes.proofs.wildcards.holes_for.Goals as goal

pub loop-variable-preserved : goal.loop-variable-preserved
loop-variable-preserved c =
    let none : Span = record { from = 0; to = 0 } in
    pieces_more (hole_for c.args.source.now) c.args.variables.now c.loop-variable.variable-index none c.loop-variable.made.items c.extend_from_slice.new.self.items c.in_ok-binding.binding.items c.loop-variable-test.true
    c.loop-variable.invariant c.in_ok-binding.ensures (search rules)
