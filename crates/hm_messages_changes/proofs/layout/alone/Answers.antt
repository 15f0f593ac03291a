use Rattle.std.proofs.Common.{◌∙◌}
use Rattle.std.specs.Prelude.{codes}
use Rattle.hm_messages_changes.specs.Probes.{hollow}
use Rattle.hm_messages_changes.proofs.Pieces.{five_joined}
use Rattle.hm_messages_changes.proofs.layout.alone.Goals as goal

pub returns : goal.returns
returns c =
    let name = c.args.name.now in
    five_joined (hollow name) (codes " ; part'types = let { ") c.args.definition.now (codes " } in ") name
    c.in_ok-joined.field-0.items (rw (c.as_slice.ensures.value ∙ c.in_ok-hole.ensures) at c.in_ok-joined.ensures)
