use Rattle.std.proofs.Common.{◌∙◌}
use Rattle.std.specs.Prelude.{codes}
use Rattle.hm_messages_changes.specs.Probes.{hollow}
use Rattle.hm_messages_changes.proofs.Pieces.{six_joined}
use Rattle.hm_messages_changes.proofs.layout.probe.Goals as goal

pub returns : goal.returns
returns c =
    let name = c.args.name.now in
    six_joined (hollow name) (codes " ; part'types (part'own, part'expected, part'actual) = case let { ") c.args.definition.now (codes " } in ") c.args.local.now (codes " : part'own : part'declared : [] of { _ -> () }")
    c.in_ok-joined.field-0.items (rw (c.as_slice.ensures.value ∙ c.in_ok-hole.ensures) at c.in_ok-joined.ensures)
