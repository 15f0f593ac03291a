use Rattle.std.specs.Prelude.{codes}
use Rattle.hm_messages_changes.specs.Holes.{hole}
use Rattle.hm_messages_changes.proofs.Pieces.{five_joined}
use Rattle.hm_messages_changes.proofs.layout.with_hollow.Goals as goal

pub returns : goal.returns
returns c =
    five_joined c.args.front.now c.args.name.now (codes " = ") hole c.args.after.now c.in_ok-joined.field-0.items
    (rw (c.as_bytes.ensures.value, c.as_bytes-2.ensures.value) at c.in_ok-joined.ensures)
