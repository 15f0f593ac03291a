use Rattle.std.proofs.Common.{rules}
use Rattle.hm_messages_changes.specs.Probes.{listed}
use Rattle.hm_messages_changes.specs.declared.data.Span.{Span}
use Rattle.hm_messages_changes.proofs.Pieces.{pieces_more}
use Rattle.hm_messages_copies.proofs.changed.all_listed.Goals as goal

pub loop-name-preserved : goal.loop-name-preserved
loop-name-preserved c =
    let none : Span = record { from = 0; to = 0 } in
    pieces_more (listed c.args.source.now) c.args.names.now c.loop-name.name-index none c.loop-name.made.items c.extend_from_slice.new.self.items c.in_ok-item.item.items c.loop-name-test.true
    c.loop-name.invariant c.in_ok-item.ensures (search rules)
