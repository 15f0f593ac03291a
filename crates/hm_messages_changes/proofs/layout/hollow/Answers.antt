use Rattle.std.specs.Prelude.{codes}
use Rattle.hm_messages_changes.specs.Holes.{hole}
use Rattle.hm_messages_changes.proofs.Pieces.{five_joined}
use Rattle.hm_messages_changes.proofs.layout.hollow.Goals as goal

pub returns : goal.returns
returns c =
    let name = c.args.name.now in
    five_joined name (codes " = ") hole (codes " ; part'declared = ") name c.in_ok-joined.field-0.items (rw c.as_bytes.ensures.value at c.in_ok-joined.ensures)
