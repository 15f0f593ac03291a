use Rattle.hm_uses_header.proofs.Named.{has_none, has_more, is_table}
use Rattle.hm_uses_header.proofs.interfaces.by_name.Goals as goal

pub interfaces-init : goal.interfaces-init
interfaces-init c = has_none c.args.interfaces.now c.new-table.result c.new-table.ensures.empty

pub interfaces-preserved : goal.interfaces-preserved
interfaces-preserved c =
    has_more c.args.interfaces.now c.interfaces.interface-index c.interface-item.result c.interfaces.table c.insert.new.self c.name.result c.interfaces-test.true c.interface-item.is c.name.ensures (λ x. c.in_ok-insert.ensures.updates.0 x) c.interfaces.invariant

pub returns : goal.returns
returns c = is_table c.args.interfaces.now c.interfaces.interface-index c.interfaces.table c.requires c.interfaces-test.false c.interfaces.invariant
