use Rattle.hm_scope_interface_entries.proofs.OwnEntries.{own_entity}
use Rattle.hm_scope_interface_entries.proofs.entries.is_own.Goals as goal

pub returns-then-eq : goal.returns-then-eq
returns-then-eq c = λ yes. own_entity c.args.exported.now.entity c.args.home.now c.args.own.now c.as_str.result.now c.as_str-name.result.now c.eq.result c.contains.result
    c.eq.ensures c.if-eq.true c.contains.ensures yes c.as_str.ensures c.as_str-name.ensures
